-- The fault that is reported is the text's only first one.
use Rattle.pac_syntax.proofs.OneReading.{one_fault}
use Rattle.pac_syntax.proofs.parse.parse_catalogue.Goals as goal

pub returns-clause-one : goal.returns-clause-one
returns-clause-one c = λ fault other reported stands. one_fault c.args.text.now other fault stands (c.parse_text.ensures.fault fault reported)
