-- A text has one catalogue or one first fault.
use Rattle.pac_types.proofs.OneCatalogue.{only_catalogue, one_catalogue_fault}
use Rattle.pac_types.proofs.text.read_catalogue.Goals as goal

pub returns-clause-only : goal.returns-clause-only
returns-clause-only c = only_catalogue c.args.text.now c.read_text.result c.read_text.ensures.ok c.read_text.ensures.fault

pub returns-clause-one : goal.returns-clause-one
returns-clause-one c = λ fault other is h. one_catalogue_fault c.args.text.now other fault h (c.read_text.ensures.fault fault is)
