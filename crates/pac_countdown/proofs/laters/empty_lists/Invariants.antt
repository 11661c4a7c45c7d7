-- As many lists as the loop has gone round, and each is empty.
use Rattle.std.specs.Prelude.{◌≡◌, ℕ, [], slice_index_or, vec_len}
use Rattle.pac_countdown.proofs.laters.empty_lists.Given as goal

abbrev pub invariant-loop : goal.invariant-loop
invariant-loop l = record {
  len : vec_len l.lists ≡ l.counter;
  empty : (p : ℕ) → slice_index_or l.lists.items p [] ≡ [];
}
