-- Copies of the batches so far, before those of what is left, are all.
use Rattle.std.proofs.Common.{◌≡◌, ◌++◌, drop, map}
use Rattle.pac_core.specs.declared.loaded.LoadedBatch.{LoadedBatch}
use Rattle.pac_core.proofs.job.batch_copies.Given as goal

abbrev pub invariant-loop-one : goal.invariant-loop-one
invariant-loop-one l = record { all : l.batches.items ++ map (λ (one : LoadedBatch). one.batch) (drop l.one-index l.loaded) ≡ map (λ (one : LoadedBatch). one.batch) l.loaded }
