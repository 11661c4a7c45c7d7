-- A text is accepted with one catalogue, or not accepted for one reason.
use Rattle.pac_flat.proofs.OneAcceptance.{one_unaccepted, only_accepted}
use Rattle.pac_flat.proofs.acceptance.accepted.Goals as goal

pub returns-clause-only : goal.returns-clause-only
returns-clause-only c = only_accepted c.args.text.now c.read_accepted.result c.read_accepted.ensures.ok c.read_accepted.ensures.fault

pub returns-clause-one : goal.returns-clause-one
returns-clause-one c = λ fault other is not. one_unaccepted c.args.text.now other fault not (c.read_accepted.ensures.fault fault is)
