-- What was handed out is held until it is given back, and what is finished for good.
use Rattle.pac_sched.proofs.CallLemmas.{hands_out_ready, hands_out_once, finishes_for_good}
use Rattle.pac_sched.proofs.laws.pieces_come_once.Goals as goal

pub returns : goal.returns
returns c = record { ready = hands_out_ready; once = hands_out_once; finished = finishes_for_good }
