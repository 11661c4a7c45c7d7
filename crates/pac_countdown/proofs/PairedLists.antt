-- The pairs by their earlier piece: one pair more goes to the list of its earlier piece.
use Rattle.std.proofs.Common.{◌≡◌, ℕ, ◌+◌, ◌<◌, List, [], ◌∷◌, ◌++◌, length, get_or, set, take, sym, ap, ◌∙◌, arith, get_or-set_same, get_or-set_other}
use mathlib.Core.Logic.{dite}
use native.Mathlib.Decide.{ℕ_discrete}
use Rattle.pac_countdown.specs.HandOut.{paired, AreLaters}
use Rattle.pac_countdown.proofs.Hands.{paired_append, from_yes, from_no}

pub one_later : (pairs : List (ℕ × ℕ)) (n k : ℕ) (laters : List (List ℕ)) (was : List ℕ) → k < length pairs → length laters ≡ n → (get_or pairs k (0, 0)).0 < n
    → AreLaters (take k pairs) n laters → was ≡ get_or laters (get_or pairs k (0, 0)).0 []
    → AreLaters (take (k + 1) pairs) n (set laters (get_or pairs k (0, 0)).0 (was ++ (get_or pairs k (0, 0)).1 ∷ []))
one_later pairs n k laters was inside len few are is p less =
    let from : ℕ = (get_or pairs k (0, 0)).0 in
    let to : ℕ = (get_or pairs k (0, 0)).1 in
    dite (ℕ_discrete p (get_or pairs k (0, 0)).0)
    (λ e. ap (λ (x : ℕ). paired p (get_or (set laters from (was ++ to ∷ [])) x [])) e
    ∙ ap (paired p) (get_or-set_same laters from (was ++ to ∷ []) [] (omega arith))
    ∙ paired_append p was (to ∷ [])
    ∙ (λ i. paired p (is i) ++ (e i, to) ∷ [])
    ∙ ap (λ (x : ℕ). paired p (get_or laters x []) ++ get_or pairs k (0, 0) ∷ []) (sym e)
    ∙ ap (λ (l : List (ℕ × ℕ)). l ++ get_or pairs k (0, 0) ∷ []) (are p less)
    ∙ sym (from_yes pairs k p inside (sym e)))
    (λ ne. ap (paired p) (get_or-set_other laters from p (was ++ to ∷ []) [] ne)
    ∙ are p less
    ∙ sym (from_no pairs k p inside (λ (h : (get_or pairs k (0, 0)).0 ≡ p). ne (sym h))))
