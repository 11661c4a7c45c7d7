-- The flow from the operations so far is there.
use Rattle.pac_graph.specs.Adding.{Adds, IsUpTo}
use Rattle.pac_slice.specs.Dependent.{IsFlowFrom}
use Rattle.pac_slice.proofs.deps.add_flow.Given as goal

abbrev pub invariant-loop-from : goal.invariant-loop-from
invariant-loop-from l = Adds l.fn.graph (IsUpTo (IsFlowFrom l.ops l.first) l.from) l.graph
