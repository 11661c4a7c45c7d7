-- What the machine's `%` gives is the remainder, and it is an int.
use Rattle.std.proofs.Common.{int_div, int_rem, ◌≡◌, ◌<◌, ◌^◌, ℤ, pos, negsuc, ◌+ℤ◌, ◌-ℤ◌, ◌*ℤ◌, Ok, SFits, of_z, w64, Err, false, ℕ, refl, sym, ap, ◌∙◌, arith, rules, if◌then◌else◌}
use Rattle.std.specs.Ordering.{int_eq}
use Rattle.std.proofs.lemmas.Bool.Decides.{nat_tests}
use Rattle.std.specs.Int.Signed.{mag_rem}
use Rattle.std.proofs.lemmas.Int.{quot-rem}
use Rattle.std.proofs.Math.IntN.{*ℤ_comm, +ℤ_comm, +ℤ-neg_ℤ_cancel}
use Rattle.pac_value.specs.declared.values.Value.TheVariants.{Int}
use Rattle.pac_value.specs.declared.expr.Trap.TheVariants.{DivZero}
use Rattle.pac_value.specs.Expressions.{checked, divided, remainder}

pub remainder-int_rem : (a d : ℤ) → remainder a d ≡ int_rem a d
remainder-int_rem a d =
    ap (λ x. x -ℤ d *ℤ int_div a d) (sym (quot-rem a d))
    ∙ ap (λ p. (int_div a d *ℤ d +ℤ int_rem a d) -ℤ p) (*ℤ_comm d (int_div a d))
    ∙ ap (λ s. s -ℤ int_div a d *ℤ d) (+ℤ_comm (int_div a d *ℤ d) (int_rem a d))
    ∙ +ℤ-neg_ℤ_cancel (int_rem a d) (int_div a d *ℤ d)

pub checked-fits : (z : ℤ) → SFits w64 z → checked z ≡ Ok (Int z)
checked-fits (pos n) fits = let small : n < 2 ^ 63 = fits.sfits in search (rules)
checked-fits (negsuc n) fits = let small : n < 2 ^ 63 = fits.sfits in search (rules)

pub rem-fits : (a d : ℤ) → SFits w64 a → SFits w64 (int_rem a d)
rem-fits a d fits = record { sfits = omega (arith, mag_rem a d, fits.sfits) }

positive : (n : ℕ) → (n ≡ 0 → ⊥) → int_eq (pos n) (pos 0) ≡ false
positive n h = grind (arith, nat_tests)

pub divided-nonzero : (d z : ℤ) → (of_z w64 d ≡ 0 → ⊥) → divided d z ≡ checked z
divided-nonzero (pos n) z h = ap (λ b. if b then Err DivZero else checked z) (positive n h)
divided-nonzero (negsuc n) z h = refl
