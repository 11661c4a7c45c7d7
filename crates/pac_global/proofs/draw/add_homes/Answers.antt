-- An operation on a table is linked with the table's virtual write; one without a table is not.
use Rattle.std.proofs.Common.{◌≡◌, ◌+◌, ◌<◌, Some, get_or, sym, ◌∙◌, subst, arith}
use Rattle.std.specs.Prelude.{slice_get}
use Rattle.std.proofs.lemmas.Option.{slice_get-get_or}
use Rattle.pac_ops.specs.declared.program.FlatOp.{FlatOp}
use Rattle.pac_ops.specs.Uses.{accessed_table}
use Rattle.pac_graph.specs.Adding.{Adds, IsUpTo}
use Rattle.pac_base.proofs.ItemLemmas.{there}
use Rattle.pac_graph.proofs.AddLemmas.{adds_alike, upto_more, upto_skip}
use Rattle.pac_global.specs.Drawing.{IsBothWays, IsHomeEdge, HasHomeEdge}
use Rattle.pac_global.proofs.HomeLemmas.{home_edges, no_home, homes_all}
use Rattle.pac_global.proofs.draw.add_homes.Goals as goal
use Rattle.pac_global.proofs.draw.add_homes.Goals.{in-Some, in_default}

pub overflow_add-total : goal.overflow_add-total
overflow_add-total c = let ops = c.args.ops.now in
    let l = c.loop-i in
    let op = get_or ops l.i c.index-ops-i.result in
    let at : slice_get ops l.i ≡ Some op = slice_get-get_or ops l.i c.index-ops-i.result c.loop-i-test.true in
    let t = c.in-Some.table in
    let below : c.args.total + t < c.args.graph.now.nodes = c.requires.tables l.i t (there ops l.i op (λ (o : FlatOp). accessed_table o.kind ≡ Some t) at (sym c.table.ensures ∙ c.in-Some.is)) in
    omega (arith, below, c.from.ensures, c.requires.few)

pub link-requires-clause-b : goal.link-requires-clause-b
link-requires-clause-b c = let ops = c.args.ops.now in
    let l = c.loop-i in
    let op = get_or ops l.i c.index-ops-i.result in
    let at : slice_get ops l.i ≡ Some op = slice_get-get_or ops l.i c.index-ops-i.result c.loop-i-test.true in
    let t = c.in-Some.table in
    let below : c.args.total + t < c.args.graph.now.nodes = c.requires.tables l.i t (there ops l.i op (λ (o : FlatOp). accessed_table o.kind ≡ Some t) at (sym c.table.ensures ∙ c.in-Some.is)) in
    omega (arith, below, c.from.ensures, l.invariant.nodes)

pub loop-i-preserved : goal.loop-i-preserved
loop-i-preserved c = let ops = c.args.ops.now in
    let first = c.args.first in
    let total = c.args.total in
    let old = c.args.graph.now in
    let l = c.loop-i in
    let op = get_or ops l.i c.index-ops-i.result in
    let at : slice_get ops l.i ≡ Some op = slice_get-get_or ops l.i c.index-ops-i.result c.loop-i-test.true in
    elim c.match-table.branch [
      | in-Some w ↦ subst (λ g. Adds old (IsUpTo (IsHomeEdge ops first total) (l.i + 1)) g) (sym w.graph-is)
          (upto_more (IsHomeEdge ops first total) old l.graph w.link.new.graph l.i l.invariant
          (adds_alike l.graph w.link.new.graph (IsBothWays (first + l.i) (total + w.from.result)) (IsHomeEdge ops first total l.i) (home_edges ops first total l.i op at w.in-Some.table w.from.result (sym c.table.ensures ∙ w.in-Some.is) w.from.ensures) w.link.ensures))
      | in_default w ↦ subst (λ g. Adds old (IsUpTo (IsHomeEdge ops first total) (l.i + 1)) g) (sym w.graph-is)
          (upto_skip (IsHomeEdge ops first total) old l.graph l.i (no_home ops first total l.i op at (λ t e. w.in_default.not-Some t (c.table.ensures ∙ e))) l.invariant)
    ]

pub returns : goal.returns
returns c = let ops = c.args.ops.now in
    let l = c.loop-i in
    adds_alike c.args.graph.now l.graph (IsUpTo (IsHomeEdge ops c.args.first c.args.total) l.i) (HasHomeEdge ops c.args.first c.args.total) (homes_all ops c.args.first c.args.total l.i (omega (arith, c.loop-i-test.false))) l.invariant
