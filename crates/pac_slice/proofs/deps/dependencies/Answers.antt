-- The edges that were added are the dependencies.
use Rattle.std.proofs.Common.{◌+◌, length, ap, subst, arith}
use Rattle.pac_graph.specs.Adding.{Adds, IsUpTo}
use Rattle.pac_graph.proofs.AddLemmas.{upto_more}
use Rattle.pac_ops.specs.Dependencies.{IsFlow}
use Rattle.pac_slice.specs.Dependent.{IsFlowAt, IsConflictFrom, IsConflictPair}
use Rattle.pac_slice.proofs.FlowLemmas.{flow_zero}
use Rattle.pac_slice.proofs.ConflictLemmas.{conflict_pairs}
use Rattle.pac_slice.proofs.PairLemmas.{pairs_added}
use Rattle.pac_slice.proofs.deps.dependencies.Goals as goal

pub loop-from-preserved : goal.loop-from-preserved
loop-from-preserved c = let ops = c.args.program.now.ops in
    let l = c.loop-from in
    let new = c.add_conflicts_from.new.graph in
    upto_more (λ i. IsConflictFrom ops (i + 1) i) c.in_ok-conflict.conflict l.conflict new l.from l.invariant (subst (λ os. Adds l.conflict (IsConflictFrom os (l.from + 1) l.from) new) c.as_slice-ops.ensures c.add_conflicts_from.ensures)

pub returns-clause-flow : goal.returns-clause-flow
returns-clause-flow c = let ops = c.args.program.now.ops in
    let old = c.in_ok-flow.flow in
    let new = c.add_flow.new.graph in
    let adds : Adds old (IsFlowAt ops 0) new = subst (λ os. Adds old (IsFlowAt os 0) new) c.as_slice-ops.ensures c.add_flow.ensures in
    pairs_added old new (IsFlowAt ops 0) (IsFlow ops) c.in_ok-flow.ensures.empty adds (flow_zero ops) c.in_ok-edges.field-0 c.in_ok-edges.ensures.each c.in_ok-edges.ensures.ascending

pub returns-clause-conflict : goal.returns-clause-conflict
returns-clause-conflict c = let ops = c.args.program.now.ops in
    let l = c.loop-from in
    let old = c.in_ok-conflict.conflict in
    pairs_added old l.conflict (IsUpTo (λ i. IsConflictFrom ops (i + 1) i) l.from) (IsConflictPair ops) c.in_ok-conflict.ensures.empty l.invariant
    (conflict_pairs ops l.from (omega (arith, c.loop-from-test.false, ap length c.as_slice-ops.ensures))) c.in_ok-edges-2.field-0 c.in_ok-edges-2.ensures.each c.in_ok-edges-2.ensures.ascending
