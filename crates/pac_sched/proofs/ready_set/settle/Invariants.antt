-- Every node but the one that comes next is settled, and the leaves stay.
use Rattle.std.proofs.Common.{◌≡◌, ◌≢◌, ℕ, ◌+◌, ◌*◌, ◌<◌, length}
use Rattle.std.specs.Prelude.{slice_index}
use Rattle.pac_sched.specs.ReadySets.{IsSettledAt}
use Rattle.pac_sched.proofs.ready_set.settle.Given as goal

abbrev pub invariant-loop-node : goal.invariant-loop-node
invariant-loop-node l = record {
  len : length l.firsts ≡ 2 * l.len;
  inside : l.node < l.len;
  leaf : slice_index l.firsts (l.len + l.i) ≡ l.now;
  leaves : (j : ℕ) → j < l.len → j ≢ l.i → slice_index l.firsts (l.len + j) ≡ slice_index l.fn.firsts (l.len + j);
  others : (k : ℕ) → 0 < k → k < l.len → k ≢ l.node → IsSettledAt l.firsts k;
}

abbrev pub decreases-loop-node : goal.decreases-loop-node
decreases-loop-node l = l.node
