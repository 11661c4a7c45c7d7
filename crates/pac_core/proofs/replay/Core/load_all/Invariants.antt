-- What is left may be loaded, and that makes what loading all would.
use Rattle.std.proofs.Common.{◌≡◌}
use Rattle.std.specs.VecDeque.{deque_len}
use Rattle.pac_core.specs.Calls.{MayLoadAll, with_batches}
use Rattle.pac_core.proofs.replay.Core.load_all.Given as goal

abbrev pub invariant-loop-batch : goal.invariant-loop-batch
invariant-loop-batch g l = record {
  may : MayLoadAll l.self l.rest.items;
  all : with_batches l.self l.rest.items ≡ with_batches l.fn.self l.fn.batches;
}

abbrev pub decreases-loop-batch : goal.decreases-loop-batch
decreases-loop-batch g l = deque_len l.rest
