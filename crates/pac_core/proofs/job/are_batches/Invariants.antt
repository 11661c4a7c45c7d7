-- As many batches, and those so far are the same.
use Rattle.std.proofs.Common.{◌≡◌, length, map, take}
use Rattle.pac_core.specs.declared.loaded.LoadedBatch.{LoadedBatch}
use Rattle.pac_core.proofs.job.are_batches.Given as goal

abbrev pub invariant-loop-i : goal.invariant-loop-i
invariant-loop-i l = record {
  equal : length l.loaded ≡ length l.batches;
  so_far : take l.i (map (λ (one : LoadedBatch). one.batch) l.loaded) ≡ take l.i l.batches;
}
