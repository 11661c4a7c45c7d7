use Rattle.std.specs.Prelude.{◌≡◌, ◌+◌, vec_len}
use Rattle.pac_workers.proofs.tally.tallies_of.Given as goal

abbrev pub invariant-loop-worker : goal.invariant-loop-worker
invariant-loop-worker g l = (l.rest.parts + l.worker ≡ l.workers + 1) × (l.rest.amount ≡ 0) × (vec_len l.tallies ≡ l.worker)
