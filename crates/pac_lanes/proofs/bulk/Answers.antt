use Rattle.pac_plan.specs.Worlds.{batch_of, blocks_in}
use Rattle.pac_plan.proofs.WorldLemmas.{rises-range, fits_blocks}
use Rattle.pac_commute.specs.PlanLaws.{planned, numbers_of, txns_of}
use Rattle.pac_commute.proofs.PlanFacts.{well_formed_plan}
use Rattle.pac_lanes.proofs.BulkLemmas.{bulk_runs, bulk_is_flat}
use Rattle.pac_lanes.proofs.bulk.Goals as goal

pub returns : goal.returns
returns c = record {
  runs = λ parts is first batches run_on fits. bulk_runs (planned parts first batches) (well_formed_plan parts is first batches) (numbers_of first batches) (blocks_in parts) (rises-range 0 parts.blocks);
  flat = λ parts is first batches run_on fits. bulk_is_flat (planned parts first batches) (well_formed_plan parts is first batches) (numbers_of first batches) (blocks_in parts) (rises-range 0 parts.blocks)
      (fits_blocks parts is first (batch_of batches) (txns_of batches) fits);
}
