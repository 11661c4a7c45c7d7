-- Ascending pairs stand once each, and next pairs are of pieces that there are.
use Rattle.std.proofs.Common.{◌≡◌, ◌≢◌, ℕ, zero, suc, ◌+◌, ◌<◌, ◌≤◌, List, [], ◌∷◌, length, get_or, sym, ap, refl, ◌∙◌, subst, ⊎_elim, arith}
use Rattle.std.specs.Prelude.{All, Contains}
use mathlib.Core.Logic.{dite}
use Rattle.pac_graph.specs.Groups.{IsPairBelow, ArePairsAscending}
use Rattle.pac_countdown.specs.Lists.{pair_times, same_pair}
use Rattle.pac_countdown.proofs.Sums.{pair_no, pair_yes, pair_discrete}

differ : (p q : ℕ × ℕ) → IsPairBelow p q → p ≢ q
differ p q below e = ⊎_elim
    (λ less. let same : p.0 ≡ q.0 = ap (λ (x : ℕ × ℕ). x.0) e in omega arith)
    (λ both. let less = both.1 in let same : p.1 ≡ q.1 = ap (λ (x : ℕ × ℕ). x.1) e in omega arith)
    below

stands_nowhere : (q : ℕ × ℕ) (xs : List (ℕ × ℕ)) → ((j : ℕ) (d : ℕ × ℕ) → j < length xs → q ≢ get_or xs j d) → pair_times q xs ≡ 0
stands_nowhere q [] h = refl
stands_nowhere q (x ∷ xs) h = let no_first = pair_no q x (h 0 x (omega arith)) in
    let rest = stands_nowhere q xs (λ j d less. h (suc j) d (omega arith)) in omega arith

pub stand_once : (xs : List (ℕ × ℕ)) → ArePairsAscending xs → (q : ℕ × ℕ) → pair_times q xs ≤ 1
stand_once [] up q = omega arith
stand_once (x ∷ xs) up q = dite (pair_discrete q x)
    (λ e. let first = subst (λ (r : ℕ × ℕ). same_pair r x ≡ 1) (sym e) (pair_yes x) in
    let rest = stands_nowhere q xs (λ j d less same_one. differ x (get_or xs j d) (up 0 (suc j) d (omega arith) (omega arith)) (sym e ∙ same_one)) in
    omega arith)
    (λ ne. let none = pair_no q x ne in
    let rest = stand_once xs (λ i j d less inside. up (suc i) (suc j) d (omega arith) (omega arith)) q in omega arith)
