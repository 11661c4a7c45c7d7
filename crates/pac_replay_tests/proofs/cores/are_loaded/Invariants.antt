-- The job and what is out are as before.
use Rattle.std.proofs.Common.{◌≡◌}
use Rattle.pac_replay_tests.proofs.cores.are_loaded.Given as goal

abbrev pub invariant-loop-batch : goal.invariant-loop-batch
invariant-loop-batch g l = record {
  job : l.core.job ≡ l.fn.core.job;
  out : l.core.out ≡ l.fn.core.out;
}
