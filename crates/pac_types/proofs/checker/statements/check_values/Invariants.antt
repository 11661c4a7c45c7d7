use Rattle.std.proofs.Common.{◌≡◌, ◌++◌, drop, Ok}
use Rattle.pac_value.specs.Expressions.{◌>>=◌}
use Rattle.pac_types.specs.WellFormed.{types}
use Rattle.pac_types.specs.Checking.{checked_values}
use Rattle.pac_types.proofs.checker.statements.check_values.Given as goal

-- what is left gives what is after the values so far
abbrev pub invariant-loop-i : goal.invariant-loop-i
invariant-loop-i l = checked_values l.scope l.nodes (types l.columns) ≡ (checked_values l.scope (drop l.i l.nodes) (types (drop l.i l.columns)) >>= λ more. Ok (l.values.items ++ more))
