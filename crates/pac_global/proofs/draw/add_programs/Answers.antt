-- The edges of one program more are added: its flow, and those with the virtual writes.
use Rattle.std.proofs.Common.{◌≡◌, ◌⊎◌, ℕ, ◌+◌, ◌<◌, Some, length, refl, ap, subst, arith, add-one}
use Rattle.std.specs.Prelude.{slice_get}
use Rattle.std.proofs.lemmas.Option.{slice_get_read}
use Rattle.pac_ops.specs.Dependencies.{Accesses}
use Rattle.pac_graph.specs.Adding.{IsUpTo}
use Rattle.pac_graph.proofs.AddLemmas.{adds_alike, adds_then, upto_more}
use Rattle.pac_slice.specs.Dependent.{IsFlowAt}
use Rattle.pac_global.specs.Drawing.{first_of, HasHomeEdge, HasEdgeOf}
use Rattle.pac_global.proofs.OffsetLemmas.{first_next, first_within}
use Rattle.pac_global.proofs.HomeLemmas.{program_edges, programs_all}
use Rattle.pac_global.proofs.draw.add_programs.Goals as goal

pub add_flow-requires-clause-room : goal.add_flow-requires-clause-room
add_flow-requires-clause-room c = let programs = c.args.programs.now in
    let l = c.loop-program in
    let program = c.program-item.result in
    let at : slice_get programs l.program-index ≡ Some program = slice_get_read programs (length programs) l.program-index program refl c.loop-program-test.true c.program-item.is in
    omega (arith, first_within programs l.program-index program at, ap length c.as_slice-ops.ensures, l.invariant.first, c.requires.total, c.requires.nodes, l.invariant.adds.nodes)

pub add_homes-requires-clause-room : goal.add_homes-requires-clause-room
add_homes-requires-clause-room c = let programs = c.args.programs.now in
    let l = c.loop-program in
    let program = c.program-item.result in
    let at : slice_get programs l.program-index ≡ Some program = slice_get_read programs (length programs) l.program-index program refl c.loop-program-test.true c.program-item.is in
    omega (arith, first_within programs l.program-index program at, ap length c.as_slice-ops.ensures, l.invariant.first, c.requires.total, c.requires.nodes, l.invariant.adds.nodes, c.add_flow.ensures.nodes)

pub add_homes-requires-clause-tables : goal.add_homes-requires-clause-tables
add_homes-requires-clause-tables c = let programs = c.args.programs.now in
    let l = c.loop-program in
    let program = c.program-item.result in
    let at : slice_get programs l.program-index ≡ Some program = slice_get_read programs (length programs) l.program-index program refl c.loop-program-test.true c.program-item.is in
    λ i t accesses. (let below : c.args.total + t < c.args.graph.now.nodes = c.requires.tables l.program-index i t program at (subst (λ os. Accesses os i t) c.as_slice-ops.ensures accesses) in omega (arith, below, l.invariant.adds.nodes, c.add_flow.ensures.nodes))

pub overflow_add-first : goal.overflow_add-first
overflow_add-first c = let programs = c.args.programs.now in
    let l = c.loop-program in
    let program = c.program-item.result in
    let at : slice_get programs l.program-index ≡ Some program = slice_get_read programs (length programs) l.program-index program refl c.loop-program-test.true c.program-item.is in
    omega (arith, first_within programs l.program-index program at, ap length c.as_slice-ops.ensures, l.invariant.first, c.requires.total, c.requires.nodes, c.requires.few)

pub loop-program-preserved : goal.loop-program-preserved
loop-program-preserved c = let programs = c.args.programs.now in
    let l = c.loop-program in
    let p = l.program-index in
    let program = c.program-item.result in
    let at : slice_get programs p ≡ Some program = slice_get_read programs (length programs) p program refl c.loop-program-test.true c.program-item.is in
    let next : first_of programs (p + 1) ≡ first_of programs p + length program.ops = rw add-one (first_next programs p program at) in
    let ops = c.as_slice-ops.result.now in
    let flow = c.add_flow.new.graph in
    let new = c.add_homes.new.graph in
    record {
      first = omega (arith, next, ap length c.as_slice-ops.ensures, l.invariant.first);
      adds = upto_more (HasEdgeOf programs) c.args.graph.now l.graph new p l.invariant.adds
          (adds_alike l.graph new (λ u v. IsFlowAt ops l.first u v ⊎ HasHomeEdge ops l.first c.args.total u v) (HasEdgeOf programs p)
          (program_edges programs p program at ops l.first c.args.total c.as_slice-ops.ensures l.invariant.first c.requires.total)
          (adds_then l.graph flow new (IsFlowAt ops l.first) (HasHomeEdge ops l.first c.args.total) c.add_flow.ensures c.add_homes.ensures));
    }

pub returns : goal.returns
returns c = let programs = c.args.programs.now in
    let l = c.loop-program in
    adds_alike c.args.graph.now l.graph (IsUpTo (HasEdgeOf programs) l.program-index) (λ u v. (p : ℕ) × HasEdgeOf programs p u v) (programs_all programs l.program-index (omega (arith, c.loop-program-test.false))) l.invariant.adds
