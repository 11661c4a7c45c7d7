-- The conflicts of the operations so far, with those of higher numbers, are there.
use Rattle.std.proofs.Common.{◌+◌}
use Rattle.pac_graph.specs.Adding.{Adds, IsUpTo}
use Rattle.pac_slice.specs.Dependent.{IsConflictFrom}
use Rattle.pac_slice.proofs.deps.dependencies.Given as goal

abbrev pub invariant-loop-from : goal.invariant-loop-from
invariant-loop-from l = Adds l.initial.conflict (IsUpTo (λ i. IsConflictFrom l.program.ops (i + 1) i) l.from) l.conflict
