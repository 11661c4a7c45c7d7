-- The turns of a loop, one after another.
use Rattle.std.proofs.Common.{◌≡◌, ℕ, zero, suc, ◌+◌, ℤ, pos, negsuc, ◌+ℤ◌, ◌-ℤ◌, ◌<ℤ◌, ◌≤ℤ◌, [], ◌∷◌, refl, sym, ap, ◌∙◌, arith}
use Rattle.std.proofs.lemmas.Int.{ints}
use Rattle.pac_types.specs.Unrolled.{natural, turns, ascending, turn_numbers}

-- one number more
natural-suc : (z : ℤ) → pos 0 <ℤ z → natural z ≡ suc (natural (z -ℤ pos 1))
natural-suc (pos zero) h = let no_way : ⊥ = omega (arith, ints, h) in absurd no_way
natural-suc (pos (suc n)) h = let less : pos (suc n) -ℤ pos 1 ≡ pos n = omega (arith, ints) in ap suc (ap natural (sym less))
natural-suc (negsuc n) h = let no_way : ⊥ = omega (arith, ints, h) in absurd no_way

pub turns-more : (from to : ℤ) → from <ℤ to → turns from to ≡ suc (turns (from +ℤ pos 1) to)
turns-more from to h =
    let some : pos 0 <ℤ (to -ℤ from) = omega (arith, ints, h) in
    let less : (to -ℤ from) -ℤ pos 1 ≡ to -ℤ (from +ℤ pos 1) = omega (arith, ints) in
    natural-suc (to -ℤ from) some ∙ ap (λ z. suc (natural z)) less

pub numbers-more : (from to : ℤ) → from <ℤ to → turn_numbers from to ≡ from ∷ turn_numbers (from +ℤ pos 1) to
numbers-more from to h = ap (ascending from) (turns-more from to h)

-- a number that is none below zero
pub natural-pos : (z : ℤ) → pos 0 ≤ℤ z → pos (natural z) ≡ z
natural-pos (pos n) h = refl
natural-pos (negsuc n) h = let no_way : ⊥ = omega (arith, ints, h) in absurd no_way

pos-one : (a b : ℕ) → pos a ≡ pos b → a ≡ b
pos-one a b h = omega (arith, ints, h)

-- the turns before that of a number, and those from it on
pub turns-parts : (from n to : ℤ) → from ≤ℤ n → n ≤ℤ to → natural (n -ℤ from) + turns n to ≡ turns from to
turns-parts from n to low high =
    let a : pos (natural (n -ℤ from)) ≡ n -ℤ from = natural-pos (n -ℤ from) (omega (arith, ints, low)) in
    let b : pos (turns n to) ≡ to -ℤ n = natural-pos (to -ℤ n) (omega (arith, ints, high)) in
    let c : pos (turns from to) ≡ to -ℤ from = natural-pos (to -ℤ from) (omega (arith, ints, low, high)) in
    pos-one (natural (n -ℤ from) + turns n to) (turns from to) (omega (arith, ints, a, b, c))

-- one turn more is before the next number
pub before-next : (from n : ℤ) → from ≤ℤ n → natural ((n +ℤ pos 1) -ℤ from) ≡ suc (natural (n -ℤ from))
before-next from n low =
    let some : pos 0 <ℤ ((n +ℤ pos 1) -ℤ from) = omega (arith, ints, low) in
    let less : ((n +ℤ pos 1) -ℤ from) -ℤ pos 1 ≡ n -ℤ from = omega (arith, ints) in
    natural-suc ((n +ℤ pos 1) -ℤ from) some ∙ ap (λ z. suc (natural z)) less
