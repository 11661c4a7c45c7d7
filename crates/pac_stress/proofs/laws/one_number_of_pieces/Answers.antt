-- By the one plan.
use Rattle.pac_stress.proofs.OneSummary.{one-number}
use Rattle.pac_stress.proofs.laws.one_number_of_pieces.Goals as goal

pub returns : goal.returns
returns c = one-number
