-- The copy has what was passed.
use Rattle.std.proofs.Common.{◌≡◌, take}
use Rattle.pac_types.proofs.statement.+copy.Given as goal

abbrev pub invariant-copy_all-loop-stmt : goal.invariant-copy_all-loop-stmt
invariant-copy_all-loop-stmt l = l.copy.items ≡ take l.stmt-index l.stmts
