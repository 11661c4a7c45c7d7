-- The first table over a limit is one of those that are looked at.
use Rattle.std.proofs.Common.{◌≡◌, ◌⊎◌, ◌<◌, ℕ, zero, suc, Bool, true, false, length, nat_lt, Option, Some, None, inl, inr, sym, ap, arith, if◌then◌else◌}
use Rattle.std.specs.Option.{option_or}
use Rattle.pac_value.specs.State.{Tables, keys_of}
use Rattle.pac_types.specs.Execution.{first_over, if_over}

either_is : (o e : Option (ℕ × ℕ)) (x : ℕ × ℕ) → option_or o e ≡ Some x → (o ≡ Some x) ⊎ (e ≡ Some x)
either_is (Some y) e x h = inl h
either_is None e x h = inr h

abbrev found_number : Option (ℕ × ℕ) → ℕ
found_number (Some x) = x.0
found_number None = 0

last_is : (b : Bool) (n len k rows : ℕ) → ◌≡◌ {A = Option (ℕ × ℕ)} (if b then Some (n, len) else None) (Some (k, rows)) → k ≡ n
last_is true n len k rows h = sym (ap found_number h)
last_is false n len k rows h = absurd cc

pub over_within : (limit n : ℕ) (tables : Tables) (k rows : ℕ) → first_over limit n tables ≡ Some (k, rows) → k < n
over_within limit zero tables k rows h = absurd cc
over_within limit (suc n) tables k rows h = elim (either_is (first_over limit n tables) (if_over limit n (length (keys_of tables n))) (k, rows) h) [
  | inl e ↦ (let lt = over_within limit n tables k rows e in omega (arith, lt))
  | inr e ↦ (let is = last_is (nat_lt limit (length (keys_of tables n))) n (length (keys_of tables n)) k rows e in omega (arith, is))
]
