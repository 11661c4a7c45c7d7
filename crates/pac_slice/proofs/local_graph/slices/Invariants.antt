-- The conflicts of the operations so far are there.
use Rattle.pac_graph.specs.Adding.{Adds, IsUpTo}
use Rattle.pac_slice.specs.Dependent.{IsConflictFrom}
use Rattle.pac_slice.proofs.local_graph.slices.Given as goal

abbrev pub invariant-loop-from : goal.invariant-loop-from
invariant-loop-from l = Adds l.initial.links (IsUpTo (IsConflictFrom l.program.ops 0) l.from) l.links
