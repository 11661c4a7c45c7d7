-- The transactions so far.
use Rattle.std.specs.Prelude.{◌≡◌}
use Rattle.pac_stress.specs.StressBatches.{stress_txns}
use Rattle.pac_stress.proofs.batches.stress_batch.Given as goal

abbrev pub invariant-loop-i : goal.invariant-loop-i
invariant-loop-i l = l.txns.items ≡ stress_txns l.first l.i
