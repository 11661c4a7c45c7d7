-- One operation more conflicts or does not; in the end all were looked at.
use Rattle.std.proofs.Common.{◌≡◌, ◌+◌, ◌≤◌, Some, get_or, sym, ◌∙◌, subst, arith, true≢false}
use Rattle.std.specs.Prelude.{slice_get}
use Rattle.std.proofs.lemmas.Option.{slice_get-get_or}
use Rattle.pac_graph.specs.Adding.{Adds, IsUpTo}
use Rattle.pac_graph.proofs.AddLemmas.{adds_alike, upto_one, upto_skip}
use Rattle.pac_slice.specs.Dependent.{IsConflictFrom}
use Rattle.pac_slice.proofs.ConflictLemmas.{ConflictTo, conflict_there, conflict_none, conflict_from}
use Rattle.pac_slice.proofs.conflicts.add_conflicts_from.Goals as goal
use Rattle.pac_slice.proofs.conflicts.add_conflicts_from.Goals.{then-do_conflict, else-do_conflict}

pub loop-to-preserved : goal.loop-to-preserved
loop-to-preserved c = let ops = c.args.ops.now in
    let old = c.args.graph.now in
    let l = c.loop-to in
    let from = c.args.from in
    let at = c.args.at in
    let a = get_or ops from c.index-ops-from.result in
    let b = get_or ops l.to c.index-ops-to.result in
    let is_a : slice_get ops from ≡ Some a = slice_get-get_or ops from c.index-ops-from.result c.requires.from in
    let is_b : slice_get ops l.to ≡ Some b = slice_get-get_or ops l.to c.index-ops-to.result c.loop-to-test.true in
    let ge : at ≤ l.to = omega arith in
    elim c.if-do_conflict.branch [
      | then-do_conflict w ↦ subst (λ g. Adds old (IsUpTo (ConflictTo ops at from) (l.to + 1)) g) (sym w.graph-is)
          (upto_one (ConflictTo ops at from) old l.graph w.edge.new.self l.to from l.to (conflict_there ops at from l.to a b is_a is_b ge (c.do_conflict.ensures.0 w.if-do_conflict.true)) l.invariant w.edge.ensures.nodes w.edge.ensures.edges)
      | else-do_conflict w ↦ subst (λ g. Adds old (IsUpTo (ConflictTo ops at from) (l.to + 1)) g) (sym w.graph-is)
          (upto_skip (ConflictTo ops at from) old l.graph l.to (conflict_none ops at from l.to a b is_a is_b (λ conflict. true≢false (sym (c.do_conflict.ensures.1 conflict) ∙ w.if-do_conflict.false))) l.invariant)
    ]

pub returns : goal.returns
returns c = let ops = c.args.ops.now in
    adds_alike c.args.graph.now c.loop-to.graph (IsUpTo (ConflictTo ops c.args.at c.args.from) c.loop-to.to) (IsConflictFrom ops c.args.at c.args.from) (conflict_from ops c.args.at c.args.from c.loop-to.to (omega (arith, c.loop-to-test.false))) c.loop-to.invariant
