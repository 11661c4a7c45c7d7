-- The batches so far.
use Rattle.std.specs.Prelude.{◌≡◌}
use Rattle.pac_stress.specs.StressBatches.{whole_batches}
use Rattle.pac_stress.proofs.batches.whole_batches.Given as goal

abbrev pub invariant-loop-k : goal.invariant-loop-k
invariant-loop-k l = l.batches.items ≡ whole_batches 0 l.k
