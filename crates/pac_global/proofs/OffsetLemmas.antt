-- Where the operations of a procedure stand among those of all.
use Rattle.std.proofs.Common.{◌≡◌, ℕ, zero, suc, ◌+◌, ◌-◌, ◌<◌, ◌≤◌, List, [], ◌∷◌, length, Some, refl, ap, inl, inr, arith}
use Rattle.std.specs.Prelude.{slice_get}
use Rattle.std.proofs.lemmas.Bool.{cases_lt}
use Rattle.std.proofs.lemmas.Option.{same_Some, none-some}
use Rattle.pac_ops.specs.declared.program.Program.{Program}
use Rattle.pac_ops.specs.Programs.{count_ops}
use Rattle.pac_global.specs.Drawing.{first_of}

pub first_next : (programs : List Program) (p : ℕ) (program : Program) → slice_get programs p ≡ Some program → first_of programs (suc p) ≡ first_of programs p + length program.ops
first_next [] p program at = absurd (none-some program at)
first_next (x ∷ xs) zero program at = let same : length x.ops ≡ length program.ops = ap (λ (q : Program). length q.ops) (same_Some x program at) in omega (arith, same)
first_next (x ∷ xs) (suc p) program at = omega (arith, first_next xs p program at)

pub first_within : (programs : List Program) (p : ℕ) (program : Program) → slice_get programs p ≡ Some program → first_of programs p + length program.ops ≤ count_ops programs
first_within [] p program at = absurd (none-some program at)
first_within (x ∷ xs) zero program at = let same : length x.ops ≡ length program.ops = ap (λ (q : Program). length q.ops) (same_Some x program at) in omega (arith, same)
first_within (x ∷ xs) (suc p) program at = omega (arith, first_within xs p program at)

pub first_all : (programs : List Program) (p : ℕ) → length programs ≤ p → first_of programs p ≡ count_ops programs
first_all [] zero le = refl
first_all [] (suc p) le = refl
first_all (x ∷ xs) zero le = absurd (omega (arith, le))
first_all (x ∷ xs) (suc p) le = let rest : first_of xs p ≡ count_ops xs = first_all xs p (omega (arith, le)) in omega (arith, rest)

pub first_later : (programs : List Program) (p q : ℕ) (program : Program) → p < q → slice_get programs p ≡ Some program → first_of programs p + length program.ops ≤ first_of programs q
first_later [] p q program lt at = absurd (none-some program at)
first_later (x ∷ xs) p zero program lt at = absurd (omega (arith, lt))
first_later (x ∷ xs) zero (suc q) program lt at = let same : length x.ops ≡ length program.ops = ap (λ (q : Program). length q.ops) (same_Some x program at) in omega (arith, same)
first_later (x ∷ xs) (suc p) (suc q) program lt at = omega (arith, first_later xs p q program (omega (arith, lt)) at)

-- each number below the count is an operation's
pub placed : (programs : List Program) (u : ℕ) → u < count_ops programs → (p : ℕ) × (i : ℕ) × (program : Program) × (slice_get programs p ≡ Some program) × (i < length program.ops) × (first_of programs p + i ≡ u)
placed [] u lt = absurd (omega (arith, lt))
placed (x ∷ xs) u lt = elim (cases_lt u (length x.ops)) [
  | inl here ↦ (0, u, x, refl, here, omega arith)
  | inr after ↦ (let r = placed xs (u - length x.ops) (omega (arith, lt, after)) in (suc r.0, r.1, r.2, r.3, r.4, omega (arith, r.5, after)))
]
