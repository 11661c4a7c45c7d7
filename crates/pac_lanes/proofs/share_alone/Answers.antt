use Rattle.pac_commute.specs.PlanLaws.{planned}
use Rattle.pac_commute.proofs.PlanFacts.{well_formed_plan}
use Rattle.pac_lanes.proofs.LaneLemmas.{alone, leaves, notes, put_back}
use Rattle.pac_lanes.proofs.share_alone.Goals as goal

pub returns : goal.returns
returns c = record {
  alone = λ parts is first batches env. alone (planned parts first batches) (well_formed_plan parts is first batches) env;
  leaves = λ parts is first batches env. leaves (planned parts first batches) (well_formed_plan parts is first batches) env;
  notes = λ parts is first batches env. notes (planned parts first batches) (well_formed_plan parts is first batches) env;
  put_back = λ parts is first batches env. put_back (planned parts first batches) (well_formed_plan parts is first batches) env;
}
