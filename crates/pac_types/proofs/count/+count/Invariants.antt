-- What is counted, and what is left.
use Rattle.std.proofs.Common.{◌≡◌, ◌≤◌, ◌+◌, drop}
use Rattle.pac_types.specs.Meaning.{operations}
use Rattle.pac_types.specs.OperationLimits.{told}
use Rattle.pac_types.specs.declared.count.TheConstants.{MAX_COUNT}
use Rattle.pac_types.proofs.count.+count.Given as goal

abbrev pub invariant-count_operations-loop-stmt : goal.invariant-count_operations-loop-stmt
invariant-count_operations-loop-stmt l = (told (l.total + operations (drop l.stmt-index l.stmts)) ≡ told (operations l.stmts)) × (l.total ≤ MAX_COUNT)
