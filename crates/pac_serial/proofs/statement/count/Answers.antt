-- What is told is exact where it is few.
use Rattle.std.proofs.Common.{◌∙◌, sym, arith}
use Rattle.pac_types.specs.Meaning.{operations}
use Rattle.pac_types.proofs.ToldLemmas.{told-most, told-small}
use Rattle.pac_serial.proofs.CodeLemmas.{count-all-operations}
use Rattle.pac_serial.proofs.statement.count.Goals as goal

pub overflow_cast-result : goal.overflow_cast-result
overflow_cast-result c = omega (arith, c.count_operations.ensures, told-most (operations c.args.stmts.now), count-all-operations c.args.stmts.now, c.requires)

pub returns : goal.returns
returns c = c.count_operations.ensures ∙ told-small (operations c.args.stmts.now) (omega (arith, count-all-operations c.args.stmts.now, c.requires)) ∙ sym (count-all-operations c.args.stmts.now)
