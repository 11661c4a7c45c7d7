use Rattle.std.proofs.Common.{◌≡◌, ◌++◌, drop, Ok}
use Rattle.pac_value.specs.Expressions.{◌>>=◌}
use Rattle.pac_types.specs.Checking.{checked_procs}
use Rattle.pac_types.proofs.checker.check_procs.Given as goal

-- what is left gives what is after the procedures so far
abbrev pub invariant-loop-i : goal.invariant-loop-i
invariant-loop-i l = checked_procs l.tables l.names 0 l.nodes ≡ (checked_procs l.tables l.names l.i (drop l.i l.nodes) >>= λ more. Ok (l.procs.items ++ more))
