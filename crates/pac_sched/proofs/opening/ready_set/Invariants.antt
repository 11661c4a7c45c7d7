-- The flags so far are those of the pieces; none after them is raised.
use Rattle.std.proofs.Common.{◌≡◌, ℕ, ◌<◌, ◌≤◌, Bool, false, ◌&&◌, ◌==◌, length}
use Rattle.std.specs.Prelude.{slice_index, slice_index_or}
use Rattle.pac_sched.specs.Counts.{waits_at}
use Rattle.pac_sched.proofs.opening.ready_set.Given as goal

abbrev pub invariant-loop-i : goal.invariant-loop-i
invariant-loop-i l = record {
  len : length l.ready ≡ length l.states;
  done : (j : ℕ) → j < l.i → slice_index_or l.ready j false ≡ (waits_at l.states j && slice_index l.waits j == 0);
  left : (j : ℕ) (d : Bool) → l.i ≤ j → j < length l.states → slice_index_or l.ready j d ≡ false;
}
