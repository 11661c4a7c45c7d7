-- When a fault may be answered.
use Rattle.std.specs.Prelude.{◌≡◌, ℕ, ◌+◌, ◌-◌, ◌^◌, ◌≤◌, min, Result, OnErr, MatchResult}

-- the count after one more; it stays at the greatest `u64` once it is there
abbrev pub one_more : ℕ → ℕ
one_more count = min (count + 1) (2 ^ 64 - 1)

-- a count rose; one that stands at the greatest `u64` afterwards counts as risen
abbrev pub Faulted : ℕ → ℕ → Type 0
Faulted before now = one_more before ≤ now

-- the count of faults never falls, and an error comes only where it rose
pub record HasCause {T E : Type 0} (before now : ℕ) (result : Result T E) : Type 0 where
  pub later : before ≤ now
  pub failed : OnErr result (Faulted before now)

-- Calls of which none comes after one that failed, and no failure is dropped: the count is one higher where the answer
-- is an error, and else as it was. An object whose calls all fail would count a second call.
abbrev pub EndsAtFault : {T E : Type 0} → ℕ → ℕ → Result T E → Type 0
EndsAtFault before now result = MatchResult result (λ _. now ≡ before) (λ _. now ≡ one_more before)
