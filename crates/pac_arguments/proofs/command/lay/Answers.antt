use Rattle.std.proofs.Common.{◌∙◌}
use Rattle.pac_arguments.specs.Commands.{lay_of}
use Rattle.pac_arguments.proofs.FoundLemmas.{made_some, made_none}
use Rattle.pac_arguments.proofs.command.lay.Goals as goal

pub returns-in-Some : goal.returns-in-Some
returns-in-Some c = c.lay_of.ensures ∙ made_some lay_of c.in_ok-matches.field-0 c.in-Some.matches _ c.in_ok-matches.ensures c.in-Some.is

pub returns-in-None : goal.returns-in-None
returns-in-None c = made_none lay_of c.in_ok-matches.field-0 _ c.in_ok-matches.ensures c.in-None.is
