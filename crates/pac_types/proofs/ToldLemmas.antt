-- Numbers that are told as they are counted.
use Rattle.std.proofs.Common.{◌≡◌, ◌≤◌, ◌<◌, ◌*◌, ℕ, zero, suc, Bool, true, false, ◌⊎◌, inl, inr, refl, sym, ap, ◌∙◌, arith}
use Rattle.std.specs.Prelude.{nat_lt, if◌then◌else◌}
use Rattle.std.proofs.lemmas.Bool.Decides.{nat_tests}
use Rattle.std.proofs.Math.Nat.{mul-le-mul_left, mul-le-mul_right}
use Rattle.pac_types.specs.declared.count.TheConstants.{MAX_COUNT}
use Rattle.pac_types.specs.OperationLimits.{told}

pub told-small : (n : ℕ) → n < MAX_COUNT → told n ≡ n
told-small n h = ap (λ b. if b then n else MAX_COUNT) (below n h)
  where
    below : (n : ℕ) → n < MAX_COUNT → nat_lt n MAX_COUNT ≡ true
    below n h = grind (arith, nat_tests)

pub told-large : (n : ℕ) → MAX_COUNT ≤ n → told n ≡ MAX_COUNT
told-large n h = ap (λ b. if b then n else MAX_COUNT) (above n h)
  where
    above : (n : ℕ) → MAX_COUNT ≤ n → nat_lt n MAX_COUNT ≡ false
    above n h = grind (arith, nat_tests)

either_told : (n : ℕ) → ((n < MAX_COUNT) × (told n ≡ n)) ⊎ ((MAX_COUNT ≤ n) × (told n ≡ MAX_COUNT))
either_told n = go (nat_lt n MAX_COUNT) refl
  where
    go : (b : Bool) → nat_lt n MAX_COUNT ≡ b → ((n < MAX_COUNT) × (told n ≡ n)) ⊎ ((MAX_COUNT ≤ n) × (told n ≡ MAX_COUNT))
    go true e = let lt : n < MAX_COUNT = grind (arith, nat_tests) in inl (lt, told-small n lt)
    go false e = let le : MAX_COUNT ≤ n = grind (arith, nat_tests) in inr (le, told-large n le)

-- a product of which a factor is large
told-left : (a b : ℕ) → MAX_COUNT ≤ a → told (MAX_COUNT * b) ≡ told (a * b)
told-left a zero h = let same : MAX_COUNT * 0 ≡ a * 0 = omega arith in ap told same
told-left a (suc b) h =
    let one : MAX_COUNT ≤ MAX_COUNT * suc b = omega arith in
    let more : MAX_COUNT * suc b ≤ a * suc b = mul-le-mul_right (suc b) h in
    told-large (MAX_COUNT * suc b) one ∙ sym (told-large (a * suc b) (omega (arith, one, more)))

told-right : (a b : ℕ) → MAX_COUNT ≤ b → told (a * MAX_COUNT) ≡ told (a * b)
told-right zero b h = let same : 0 * MAX_COUNT ≡ 0 * b = omega arith in ap told same
told-right (suc a) b h =
    let one : MAX_COUNT ≤ suc a * MAX_COUNT = omega arith in
    let more : suc a * MAX_COUNT ≤ suc a * b = mul-le-mul_left (suc a) h in
    told-large (suc a * MAX_COUNT) one ∙ sym (told-large (suc a * b) (omega (arith, one, more)))

-- a product is told as that of its factors as they are told
pub told-product : (a b : ℕ) → told (told a * told b) ≡ told (a * b)
told-product a b = go (either_told a) (either_told b)
  where
    go : (((a < MAX_COUNT) × (told a ≡ a)) ⊎ ((MAX_COUNT ≤ a) × (told a ≡ MAX_COUNT))) → (((b < MAX_COUNT) × (told b ≡ b)) ⊎ ((MAX_COUNT ≤ b) × (told b ≡ MAX_COUNT))) → told (told a * told b) ≡ told (a * b)
    go (inl p) (inl q) = λ i. told (p.1 i * q.1 i)
    go (inl p) (inr q) = (λ i. told (p.1 i * q.1 i)) ∙ told-right a b q.0
    go (inr p) (inl q) = (λ i. told (p.1 i * q.1 i)) ∙ told-left a b p.0
    go (inr p) (inr q) = (λ i. told (p.1 i * q.1 i)) ∙ told-left MAX_COUNT MAX_COUNT (omega arith) ∙ told-right MAX_COUNT b q.0 ∙ told-left a b p.0

-- no more is told than there is
pub told-most : (n : ℕ) → told n ≤ n
told-most n = go (either_told n)
  where
    go : (((n < MAX_COUNT) × (told n ≡ n)) ⊎ ((MAX_COUNT ≤ n) × (told n ≡ MAX_COUNT))) → told n ≤ n
    go (inl p) = omega (arith, p.1)
    go (inr p) = omega (arith, p.0, p.1)

-- what is told as less than a million is told exactly
pub told-exact : (n : ℕ) → told n < MAX_COUNT → told n ≡ n
told-exact n h = go (either_told n)
  where
    go : (((n < MAX_COUNT) × (told n ≡ n)) ⊎ ((MAX_COUNT ≤ n) × (told n ≡ MAX_COUNT))) → told n ≡ n
    go (inl p) = p.1
    go (inr p) = let no_way : ⊥ = omega (arith, p.1, h) in absurd no_way
