use Rattle.std.proofs.Common.{length}
use Rattle.pac_plan.specs.Worlds.{blocks_in}
use Rattle.pac_plan.proofs.WorldLemmas.{rises-range}
use Rattle.pac_commute.specs.PlanLaws.{planned, numbers_of, txns_of}
use Rattle.pac_commute.proofs.PlanFacts.{well_formed_plan}
use Rattle.pac_commute.proofs.Theorem.{in_order}
use Rattle.pac_plan.specs.Pieces.{pieces}
use Rattle.pac_lanes.proofs.RoundLemmas.{rest_runs, share_done, rest_stays, share_ready, some_lent, first_has_needs, drain_runs}
use Rattle.pac_lanes.proofs.share_ready.Goals as goal

pub returns : goal.returns
returns c = record {
  rest = λ parts is first batches run_on fits env F test together. rest_runs (planned parts first batches) (well_formed_plan parts is first batches) env (pieces (planned parts first batches) (numbers_of first batches) (blocks_in parts)) F test together
      (in_order (planned parts first batches) (numbers_of first batches) (blocks_in parts) (rises-range first (length (txns_of batches))) (rises-range 0 parts.blocks));
  ready = λ parts is first batches run_on fits env. share_ready (planned parts first batches) (well_formed_plan parts is first batches) env (pieces (planned parts first batches) (numbers_of first batches) (blocks_in parts))
      (in_order (planned parts first batches) (numbers_of first batches) (blocks_in parts) (rises-range first (length (txns_of batches))) (rises-range 0 parts.blocks));
  done = λ parts is first batches run_on fits F test p mp t. share_done (pieces (planned parts first batches) (numbers_of first batches) (blocks_in parts)) F test p mp t;
  left = λ parts is first batches run_on fits. rest_stays (pieces (planned parts first batches) (numbers_of first batches) (blocks_in parts))
      (in_order (planned parts first batches) (numbers_of first batches) (blocks_in parts) (rises-range first (length (txns_of batches))) (rises-range 0 parts.blocks));
  some = λ parts is first batches run_on fits env. some_lent (planned parts first batches) env (pieces (planned parts first batches) (numbers_of first batches) (blocks_in parts));
  first = λ parts is first batches run_on fits env. first_has_needs (planned parts first batches) (well_formed_plan parts is first batches) env (pieces (planned parts first batches) (numbers_of first batches) (blocks_in parts))
      (in_order (planned parts first batches) (numbers_of first batches) (blocks_in parts) (rises-range first (length (txns_of batches))) (rises-range 0 parts.blocks));
  drain = λ parts is first batches run_on fits env F. drain_runs (planned parts first batches) (well_formed_plan parts is first batches) env (pieces (planned parts first batches) (numbers_of first batches) (blocks_in parts)) F
      (in_order (planned parts first batches) (numbers_of first batches) (blocks_in parts) (rises-range first (length (txns_of batches))) (rises-range 0 parts.blocks));
}
