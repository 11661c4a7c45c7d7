use Rattle.pac_lanes.proofs.FinishLemmas.{lent_has_inputs, lent_stays, return_is_finish}
use Rattle.pac_lanes.proofs.lent_share.Goals as goal

pub returns : goal.returns
returns c = record { inputs = lent_has_inputs; stays = lent_stays; back = return_is_finish }
