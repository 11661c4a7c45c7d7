use Rattle.pac_plan.specs.Worlds.{blocks_in}
use Rattle.pac_commute.specs.PlanLaws.{numbers_of, planned}
use Rattle.pac_commute.proofs.PlanFacts.{well_formed_plan}
use Rattle.pac_commute.proofs.WorkLemmas.{within_access, work_is_apply, fresh_law}
use Rattle.pac_commute.proofs.work.Goals as goal

pub returns : goal.returns
returns c = record {
  within = λ parts is first batches. within_access (planned parts first batches) (well_formed_plan parts is first batches);
  apply = λ parts is first batches. work_is_apply (planned parts first batches) (well_formed_plan parts is first batches);
  fresh = λ parts is first batches run_on fits. fresh_law (planned parts first batches) (well_formed_plan parts is first batches) (numbers_of first batches) (blocks_in parts);
}
