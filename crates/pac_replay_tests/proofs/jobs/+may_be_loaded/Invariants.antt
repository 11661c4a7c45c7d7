-- One batch less is left each time.
use Rattle.std.proofs.Common.{length}
use Rattle.pac_replay_tests.proofs.jobs.+may_be_loaded.Given as goal

abbrev pub decreases-may_be_loaded : goal.decreases-may_be_loaded
decreases-may_be_loaded l = length l.batches.now
