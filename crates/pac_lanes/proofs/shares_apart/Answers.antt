use Rattle.pac_plan.specs.Worlds.{blocks_in}
use Rattle.pac_commute.specs.PlanLaws.{planned, numbers_of}
use Rattle.pac_commute.proofs.PlanFacts.{well_formed_plan, needs_plan}
use Rattle.pac_lanes.proofs.LaneLemmas.{spares, shares_apart}
use Rattle.pac_lanes.proofs.shares_apart.Goals as goal

pub returns : goal.returns
returns c = record {
  piece = λ parts is first batches env. spares (planned parts first batches) (well_formed_plan parts is first batches) env;
  shares = λ parts is first batches run_on fits. shares_apart (planned parts first batches) (well_formed_plan parts is first batches) (numbers_of first batches) (blocks_in parts) (needs_plan parts is first batches run_on fits);
}
