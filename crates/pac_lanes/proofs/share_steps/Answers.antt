use Rattle.pac_lanes.specs.Finish.{Any}
use Rattle.pac_lanes.proofs.FinishLemmas.{finish_is_steps, step_is_steps, all_keep, opens_shares, shares_stay_finished, shares_end}
use Rattle.pac_lanes.proofs.share_steps.Goals as goal

pub returns : goal.returns
returns c = record {
  finish = finish_is_steps;
  steps = λ job m n step none. step_is_steps job Any step none;
  opens = opens_shares;
  keeps = λ job is m n all inv none. all_keep job is Any all inv none;
  stays = shares_stay_finished;
  end = shares_end;
}
