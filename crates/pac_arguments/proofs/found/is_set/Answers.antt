use Rattle.std.proofs.Common.{◌∙◌, sym, ap}
use Rattle.clap.specs.Words.{found_of}
use Rattle.pac_arguments.specs.Found.{says_true}
use Rattle.pac_arguments.proofs.FoundLemmas.{said_some, said_none}
use Rattle.pac_arguments.proofs.found.is_set.Goals as goal

pub returns-in-Some : goal.returns-in-Some
returns-in-Some c = c.eq.ensures ∙ sym (ap says_true (said_some (found_of c.args.matches.now) c.args.id.now c.get_str.result c.in-Some.text c.get_str.ensures c.in-Some.is))

pub returns-in-None : goal.returns-in-None
returns-in-None c = sym (ap says_true (said_none (found_of c.args.matches.now) c.args.id.now c.get_str.result c.get_str.ensures c.in-None.is))
