-- No excess so far.
use Rattle.std.proofs.Common.{◌≡◌, ℕ, ◌<◌, ◌≤◌, take, None}
use Rattle.pac_ops.specs.declared.limits.TheConstants.{MAX_ALL_OPS}
use Rattle.pac_types.specs.OperationLimits.{all_operations, excess_at}
use Rattle.pac_flat.proofs.catalogue.test_counts.Given as goal

abbrev pub invariant-loop-number : goal.invariant-loop-number
invariant-loop-number l = record {
  sum : l.up_to ≡ all_operations (take l.number l.procs);
  few : l.up_to ≤ MAX_ALL_OPS;
  before : (n : ℕ) → n < l.number → excess_at l.procs n ≡ None;
}
