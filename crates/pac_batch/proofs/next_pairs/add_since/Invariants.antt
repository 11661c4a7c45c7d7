-- The pairs of the entries so far were added.
use Rattle.std.proofs.Common.{◌≤◌, ◌+◌, ◌-◌, length}
use Rattle.pac_batch.specs.Queues.{IsPairSince, ArePairsAdded}
use Rattle.pac_batch.proofs.next_pairs.add_since.Given as goal

abbrev pub invariant-loop-p : goal.invariant-loop-p
invariant-loop-p l = record {
  pairs : ArePairsAdded l.fn.pairs.items l.pairs.items (IsPairSince l.queued l.start l.p l.end);
  few : length l.pairs.items ≤ length l.fn.pairs.items + (l.p - l.start);
}
