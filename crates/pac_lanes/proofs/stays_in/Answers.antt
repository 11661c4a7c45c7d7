use Rattle.std.proofs.Common.{refl}
use Rattle.pac_plan.specs.Worlds.{blocks_in}
use Rattle.pac_commute.specs.PlanLaws.{planned, numbers_of}
use Rattle.pac_lanes.proofs.StayLemmas.{whole_stays, one_key_stays, key_from_inputs, key_from_arguments, stays_in_group, groups_are_apart, lanes_are_disjoint, groups_give_cut}
use Rattle.pac_lanes.proofs.stays_in.Goals as goal

pub returns : goal.returns
returns c = record {
  whole = λ parts is first batches. whole_stays (planned parts first batches);
  one_key = λ parts is first batches. one_key_stays (planned parts first batches);
  inputs = λ parts is first batches. key_from_inputs (planned parts first batches);
  arguments = λ parts is first batches run_on fits. key_from_arguments (planned parts first batches) (numbers_of first batches) (blocks_in parts);
  group = λ parts is first batches. stays_in_group (planned parts first batches);
  apart = λ parts is first batches. groups_are_apart (planned parts first batches);
  disjoint = lanes_are_disjoint;
  cut = λ parts is first batches run_on fits. groups_give_cut parts (planned parts first batches) (λ b c. refl) (numbers_of first batches) (blocks_in parts);
}
