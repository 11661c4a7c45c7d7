-- The pairs so far are counted.
use Rattle.std.proofs.Common.{◌≡◌, ℕ, ◌<◌, length}
use Rattle.std.specs.Prelude.{slice_index}
use Rattle.pac_sched.specs.Counts.{passing, holds_up}
use Rattle.pac_sched.proofs.opening.number_waits.Given as goal

abbrev pub invariant-loop-k : goal.invariant-loop-k
invariant-loop-k l = record {
  len : length l.waits.items ≡ length l.states;
  value : (j : ℕ) → j < length l.states → slice_index l.waits.items j ≡ passing (holds_up l.states j) l.pairs l.k;
}
