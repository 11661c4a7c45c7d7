use Rattle.std.proofs.Common.{◌∙◌, sym, ap}
use Rattle.clap.specs.Words.{found_of}
use Rattle.pac_arguments.specs.Numbers.{number_up_to}
use Rattle.pac_arguments.specs.Found.{number_or}
use Rattle.pac_arguments.proofs.FoundLemmas.{said_some, said_none}
use Rattle.pac_arguments.proofs.found.option_number.Goals as goal

pub returns-in-Some : goal.returns-in-Some
returns-in-Some c = c.number_up_to.ensures ∙ ap (number_up_to c.args.most) c.as_bytes.ensures.value
    ∙ sym (ap (number_or c.args.default c.args.most) (said_some (found_of c.args.matches.now) c.args.id.now c.get_str.result c.in-Some.text c.get_str.ensures c.in-Some.is))

pub returns-in-None : goal.returns-in-None
returns-in-None c = sym (ap (number_or c.args.default c.args.most) (said_none (found_of c.args.matches.now) c.args.id.now c.get_str.result c.get_str.ensures c.in-None.is))
