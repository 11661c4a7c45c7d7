-- More digits make no smaller number.
use Rattle.std.proofs.Common.{◌≡◌, ◌≤◌, ◌<◌, ◌+◌, ◌*◌, ◌-◌, ◌^◌, ℕ, List, [], ◌∷◌, ◌++◌, Some, None, fold, take, drop, nat_le, if◌then◌else◌, arith, refl, sym, ap, ◌∙◌}
use Rattle.std.proofs.lemmas.List.{take-append-drop}
use Rattle.pac_tokens.specs.Tokens.{digits_value}

fold-grows : (n : ℕ) (digits : List ℕ) → n ≤ fold (λ n digit. n * 10 + (digit - 48)) n digits
fold-grows n [] = omega arith
fold-grows n (d ∷ ds) = omega (arith, fold-grows (n * 10 + (d - 48)) ds)

fold-append : (n : ℕ) (xs ys : List ℕ) → fold (λ n digit. n * 10 + (digit - 48)) n (xs ++ ys) ≡ fold (λ n digit. n * 10 + (digit - 48)) (fold (λ n digit. n * 10 + (digit - 48)) n xs) ys
fold-append n [] ys = refl
fold-append n (x ∷ xs) ys = fold-append (n * 10 + (x - 48)) xs ys

take-le : (digits : List ℕ) (i : ℕ) → digits_value (take i digits) ≤ digits_value digits
take-le digits i =
    let whole : digits_value digits ≡ fold (λ n digit. n * 10 + (digit - 48)) (digits_value (take i digits)) (drop i digits) =
    ap digits_value (sym (take-append-drop i digits)) ∙ fold-append 0 (take i digits) (drop i digits) in
    omega (arith, whole, fold-grows (digits_value (take i digits)) (drop i digits))

-- digits whose prefix is too large are too large
pub too_large : (digits : List ℕ) (i : ℕ) → 2 ^ 63 < digits_value (take i digits) → None ≡ (if nat_le (digits_value digits) (2 ^ 63) then Some (digits_value digits) else None)
too_large digits i large = let all = take-le digits i in grind arith
