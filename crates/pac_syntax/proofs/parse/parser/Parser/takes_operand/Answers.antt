-- A name or an int is an operand by itself.
use Rattle.std.proofs.Common.{refl}
use Rattle.pac_syntax.proofs.Stepping.{operand_next, no_name_next}
use Rattle.pac_syntax.proofs.parse.parser.Parser.takes_operand.Goals as goal

pub returns-in_default-operand_of-clause-run : goal.returns-in_default-operand_of-clause-run
returns-in_default-operand_of-clause-run c = (refl, no_name_next _ _ _ c.in-Some.ensures c.in_default-operand_of.ensures)

pub returns-clause-run : goal.returns-clause-run
returns-clause-run c = λ d k. operand_next _ _ d _ _ k _ _ _ _ refl refl c.in-Some.ensures c.in-Some-operand_of.ensures
