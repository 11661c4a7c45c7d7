-- What is written, and what is left.
use Rattle.std.proofs.Common.{◌≡◌, ◌++◌, drop}
use Rattle.pac_print.specs.Canonical.{stmts_text}
use Rattle.pac_print.proofs.statement.+statement.Given as goal

abbrev pub invariant-push_stmts-loop-stmt : goal.invariant-push_stmts-loop-stmt
invariant-push_stmts-loop-stmt l = l.out.items ++ stmts_text l.indent (drop l.stmt-index l.stmts) ≡ l.fn.out.items ++ stmts_text l.indent l.stmts
