-- Each pair so far is linked, and each position has the last of them.
use Rattle.std.proofs.Common.{◌≡◌, ℕ, ◌<◌, length, get_or}
use Rattle.std.specs.Prelude.{Option}
use Rattle.pac_sched.specs.Counts.{last_from}
use Rattle.pac_sched.proofs.followers.Followers.new.Given as goal

abbrev pub invariant-loop-k : goal.invariant-loop-k
invariant-loop-k l = record {
  len : length l.previous.items ≡ l.k;
  all : length l.last.items ≡ l.len;
  links : (k : ℕ) (d : Option ℕ) (e : ℕ × ℕ) → k < l.k → get_or l.previous.items k d ≡ last_from l.pairs.items (get_or l.pairs.items k e).0 k;
  heads : (i : ℕ) (d : Option ℕ) → i < l.len → get_or l.last.items i d ≡ last_from l.pairs.items i l.k;
}
