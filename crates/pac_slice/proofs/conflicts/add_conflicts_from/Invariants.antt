-- The conflicts with the operations so far are there.
use Rattle.pac_graph.specs.Adding.{Adds, IsUpTo}
use Rattle.pac_slice.proofs.ConflictLemmas.{ConflictTo}
use Rattle.pac_slice.proofs.conflicts.add_conflicts_from.Given as goal

abbrev pub invariant-loop-to : goal.invariant-loop-to
invariant-loop-to l = Adds l.fn.graph (IsUpTo (ConflictTo l.ops l.at l.from) l.to) l.graph
