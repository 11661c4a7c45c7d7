-- The words at first.
use Rattle.std.proofs.Common.{◌≡◌, ℕ, zero, suc, ◌+◌, ◌<◌, ◌≤◌, List, [], ◌∷◌, length, get_or, set, take, sym, refl, ap, ◌∙◌, subst, arith, get_or-set_same, get_or-set_other}
use mathlib.Core.Logic.{dite}
use native.Mathlib.Decide.{ℕ_discrete}
use Rattle.std.proofs.lemmas.List.{take_more}
use Rattle.pac_countdown.specs.Lists.{same, pair_times, pairs_to}
use Rattle.pac_countdown.specs.Counted.{starting, word}
use Rattle.pac_countdown.proofs.Sums.{same_yes, same_no, pair_no, pair_discrete, pairs_to_append, inside_default}

pub pairs_to_most : (p : ℕ) (xs : List (ℕ × ℕ)) → pairs_to p xs ≤ length xs
pairs_to_most p [] = omega arith
pairs_to_most p (x ∷ xs) = let r = pairs_to_most p xs in dite (ℕ_discrete p x.1) (λ e. let y = same_yes p x.1 e in omega arith) (λ ne. let y = same_no p x.1 ne in omega arith)

-- what holds of each pair holds of one that stands among them
pub each_pair : (P : ℕ × ℕ → Type 0) (xs : List (ℕ × ℕ)) → ((k : ℕ) (d : ℕ × ℕ) → k < length xs → P (get_or xs k d)) → (q : ℕ × ℕ) → 0 < pair_times q xs → P q
each_pair P [] h q there = absurd (omega arith)
each_pair P (x ∷ xs) h q there = dite (pair_discrete q x) (λ e. subst P (sym e) (h 0 x (omega arith)))
    (λ ne. let z = pair_no q x ne in each_pair P xs (λ k d less. h (suc k) d (omega arith)) q (omega arith))

-- of a number that is no piece there is no pair
pub none_to : (p n : ℕ) (xs : List (ℕ × ℕ)) → ((k : ℕ) (d : ℕ × ℕ) → k < length xs → (get_or xs k d).1 < n) → n ≤ p → pairs_to p xs ≡ 0
none_to p n [] h far = refl
none_to p n (x ∷ xs) h far = let first = h 0 x (omega arith) in let z = same_no p x.1 (λ (e : p ≡ x.1). omega arith) in
    let r = none_to p n xs (λ k d less. h (suc k) d (omega arith)) far in omega arith

-- one more pair
pub one_more : (pairs : List (ℕ × ℕ)) (words : List ℕ) (n k v : ℕ) → k < length pairs → length words ≡ n → (get_or pairs k (0, 0)).1 < n
    → ((p : ℕ) → p < n → get_or words p 0 ≡ starting (take k pairs) p) → v ≡ get_or words (get_or pairs k (0, 0)).1 0
    → (p : ℕ) → p < n → get_or (set words (get_or pairs k (0, 0)).1 (v + 1)) p 0 ≡ starting (take (k + 1) pairs) p
one_more pairs words n k v inside len to_inside sofar is p less =
    let to : ℕ = (get_or pairs k (0, 0)).1 in
    let more : pairs_to p (take (k + 1) pairs) ≡ pairs_to p (take k pairs) + same p to = ap (pairs_to p) (take_more pairs k (0, 0) inside) ∙ pairs_to_append p (take k pairs) (get_or pairs k (0, 0) ∷ []) ∙ omega arith in
    let before = sofar p less in
    dite (ℕ_discrete p to)
    (λ e. let y = same_yes p to e in let here : get_or (set words to (v + 1)) p 0 ≡ v + 1 = ap (λ (z : ℕ). get_or (set words to (v + 1)) z 0) e ∙ get_or-set_same words to (v + 1) 0 (omega arith) in
    let was : get_or words p 0 ≡ v = ap (λ (z : ℕ). get_or words z 0) e ∙ sym is in omega arith)
    (λ ne. let y = same_no p to ne in let there : get_or (set words to (v + 1)) p 0 ≡ get_or words p 0 = get_or-set_other words to p (v + 1) 0 ne in omega arith)

outside : (l : List ℕ) (p d : ℕ) → length l ≤ p → get_or l p d ≡ d
outside [] p d h = refl
outside (x ∷ xs) zero d h = absurd (omega arith)
outside (x ∷ xs) (suc p) d h = outside xs p d (omega arith)

pub start_at : (pairs : List (ℕ × ℕ)) (words : List ℕ) (n : ℕ) → length words ≡ n → ((k : ℕ) (d : ℕ × ℕ) → k < length pairs → (get_or pairs k d).1 < n)
    → ((p : ℕ) → p < n → get_or words p 0 ≡ starting pairs p) → (p : ℕ) → word words p ≡ starting pairs p
start_at pairs words n len small starts p = dite (native.Mathlib.Decide.dec_le n p)
    (λ far. let a = outside words p 1 (omega arith) in let b = none_to p n pairs small far in omega arith)
    (λ near. let a = inside_default words p 1 0 (omega arith) in let b = starts p (omega arith) in omega arith)
