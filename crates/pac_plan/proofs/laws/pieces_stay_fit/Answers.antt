use Rattle.pac_plan.proofs.AdHocLemmas.{adhoc_pieces}
use Rattle.pac_plan.proofs.InputLemmas.{inputs_there, pieces_stay_fit}
use Rattle.pac_plan.proofs.laws.pieces_stay_fit.Goals as goal

pub returns : goal.returns
returns c = record { inputs = inputs_there; pieces = pieces_stay_fit; adhoc = adhoc_pieces }
