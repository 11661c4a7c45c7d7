-- The first table that is over a limit.
use Rattle.std.proofs.Common.{◌≡◌, true, length, nat_lt, ℕ, zero, suc, ◌+◌, ◌-◌, ◌≤◌, Some, None, ap, subst, ◌∙◌, arith}
use Rattle.std.specs.Prelude.{if◌then◌else◌}
use Rattle.std.specs.Option.{option_or}
use Rattle.pac_value.specs.State.{Tables, keys_of}
use Rattle.pac_types.specs.Execution.{first_over, if_over}

more : (limit n d : ℕ) (t : Tables) (x : ℕ × ℕ) → first_over limit n t ≡ Some x → first_over limit (d + n) t ≡ Some x
more limit n zero t x h = let same : 0 + n ≡ n = omega arith in ap (λ k. first_over limit k t) same ∙ h
more limit n (suc d) t x h =
    let same : suc (d + n) ≡ suc d + n = omega arith in
    subst (λ k. first_over limit k t ≡ Some x) same (ap (λ o. option_or o (if_over limit (d + n) (length (keys_of t (d + n))))) (more limit n d t x h))

-- it is the first among more tables too
pub over-more : (limit n m : ℕ) (t : Tables) (x : ℕ × ℕ) → first_over limit n t ≡ Some x → n ≤ m → first_over limit m t ≡ Some x
over-more limit n m t x h le = let same : (m - n) + n ≡ m = omega arith in subst (λ k. first_over limit k t ≡ Some x) same (more limit n (m - n) t x h)

-- a table over the limit, with none before it, is the first
pub over-first : (limit n m : ℕ) (t : Tables) → first_over limit n t ≡ None → nat_lt limit (length (keys_of t n)) ≡ true → suc n ≤ m → first_over limit m t ≡ Some (n, length (keys_of t n))
over-first limit n m t none is le = over-more limit (suc n) m t (n, length (keys_of t n))
    (ap (λ o. option_or o (if_over limit n (length (keys_of t n)))) none ∙ ap (λ b. if b then Some (n, length (keys_of t n)) else None) is) le
