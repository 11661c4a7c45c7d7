-- The pairs of the entries so far, and where the next one's pairs begin.
use Rattle.std.proofs.Common.{◌≤◌, ◌+◌, ◌-◌, ◌*◌, ◌↔◌, ℕ, length}
use Rattle.std.specs.Prelude.{Contains}
use Rattle.pac_batch.specs.Queues.{AreJoinedBelow, IsStart}
use Rattle.pac_batch.proofs.next_pairs.joined.Given as goal

abbrev pub invariant-loop-end : goal.invariant-loop-end
invariant-loop-end l = record {
  start : IsStart l.queued l.start l.end;
  pairs : (i j : ℕ) → Contains l.pairs.items (i, j) ↔ AreJoinedBelow l.queued l.end i j;
  few : length l.pairs.items + (l.end - l.start) ≤ 2 * l.end;
}
