use Rattle.pac_commute.proofs.PlanFacts.{end_plan, ends_as_replayed}
use Rattle.pac_commute.proofs.Replays.{is_replay}
use Rattle.pac_commute.proofs.Ends.{machine_ends}
use Rattle.pac_commute.proofs.end.Goals as goal

pub returns : goal.returns
returns c = record { all = end_plan; whole = is_replay; replayed = ends_as_replayed; machine = machine_ends }
