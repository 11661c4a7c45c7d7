-- The edges that were added are the links, and their groups the slices.
use Rattle.std.proofs.Common.{◌≡◌, length, ap, ◌∙◌, subst, arith}
use Rattle.pac_graph.specs.Adding.{Adds}
use Rattle.pac_graph.proofs.AddLemmas.{upto_more}
use Rattle.pac_slice.specs.Dependent.{IsFlowAt, IsConflictFrom}
use Rattle.pac_slice.proofs.SliceLemmas.{linked, slice_groups}
use Rattle.pac_slice.proofs.local_graph.slices.Goals as goal

pub loop-from-preserved : goal.loop-from-preserved
loop-from-preserved c = let ops = c.args.program.now.ops in
    let l = c.loop-from in
    let new = c.add_conflicts_from.new.graph in
    upto_more (IsConflictFrom ops 0) c.add_flow.new.graph l.links new l.from l.invariant (subst (λ os. Adds l.links (IsConflictFrom os 0 l.from) new) c.as_slice-ops.ensures c.add_conflicts_from.ensures)

pub returns : goal.returns
returns c = let ops = c.args.program.now.ops in
    let l = c.loop-from in
    let old = c.in_ok-links.links in
    let flow = c.add_flow.new.graph in
    let size = ap length c.as_slice-ops.ensures in
    let adds : Adds old (IsFlowAt ops 0) flow = subst (λ os. Adds old (IsFlowAt os 0) flow) c.as_slice-ops.ensures c.add_flow.ensures in
    let nodes : l.links.nodes ≡ length ops = l.invariant.nodes ∙ (adds.nodes ∙ (c.in_ok-links.ensures.nodes ∙ omega (arith, size))) in
    let groups = c.in_ok-groups.groups in
    let are = c.in_ok-groups.ensures in
    record {
      each = are.each ∙ nodes;
      groups = slice_groups ops l.links nodes (linked ops old flow l.links l.from (omega (arith, c.loop-from-test.false, size)) c.in_ok-links.ensures.empty adds l.invariant) groups.numbers groups.count groups.edges are.each are.are;
    }
