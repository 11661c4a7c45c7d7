-- The flow to the operations so far is there.
use Rattle.pac_graph.specs.Adding.{Adds, IsUpTo}
use Rattle.pac_slice.proofs.FlowLemmas.{FlowTo}
use Rattle.pac_slice.proofs.deps.add_flow_from.Given as goal

abbrev pub invariant-loop-to : goal.invariant-loop-to
invariant-loop-to l = Adds l.fn.graph (IsUpTo (FlowTo l.ops l.first l.from) l.to) l.graph
