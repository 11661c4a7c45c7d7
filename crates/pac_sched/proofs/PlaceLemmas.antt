-- Where a piece stands in a list, and in one that ascends.
use Rattle.std.proofs.Common.{◌≡◌, ℕ, ◌+◌, ◌-◌, ◌<◌, ◌≤◌, Bool, true, false, cond, List, length, get_or, sym, ap, ◌∙◌, subst, ⊎_elim, ◌⊎◌, Some, None, arith}
use Rattle.std.specs.Prelude.{nat_lt, position}
use Rattle.std.specs.List.{position_or_len}
use Rattle.std.proofs.lemmas.Bool.Decides.{nat_tests}
use Rattle.std.proofs.lemmas.List.{get_or_default}
use Rattle.std.proofs.lemmas.List.Sums.{position_or_len_is}
use Rattle.pac_ops.specs.declared.piece.PieceId.{PieceId}
use Rattle.pac_plan.specs.Pieces.{is_piece}
use Rattle.pac_sched.specs.Orders.{piece_before, IsAscending}

pub lt_true : (a b : ℕ) → a < b → nat_lt a b ≡ true
lt_true a b h = grind (arith, nat_tests)

pub lt_false : (a b : ℕ) → b ≤ a → nat_lt a b ≡ false
lt_false a b h = grind (arith, nat_tests)

-- the first item that passes a test is at this position
pub first_at : {X : Type 0} (p : X → Bool) (xs : List X) (i : ℕ) (d : X) → i < length xs → p (get_or xs i d) ≡ true → ((k : ℕ) → k < i → p (get_or xs k d) ≡ false)
    → position p xs ≡ Some i
first_at p xs i d lt passes fails =
    let e : position_or_len p xs ≡ i = position_or_len_is p xs i d (omega arith) fails (λ _. passes) in
    ap (λ n. cond (nat_lt n (length xs)) (Some n) None) e ∙ ap (λ b. cond b (Some i) None) (lt_true i (length xs) lt)

-- none passes
pub none_at : {X : Type 0} (p : X → Bool) (xs : List X) (d : X) → ((k : ℕ) → k < length xs → p (get_or xs k d) ≡ false) → position p xs ≡ None
none_at p xs d fails =
    let e : position_or_len p xs ≡ length xs = position_or_len_is p xs (length xs) d (omega arith) fails (λ lt. absurd (omega arith)) in
    ap (λ n. cond (nat_lt n (length xs)) (Some n) None) e ∙ ap (λ b. cond b (Some (length xs)) None) (lt_false (length xs) (length xs) (omega arith))

-- ---- the order

pub before_trans : (a b c : PieceId) → piece_before a b ≡ true → piece_before b c ≡ true → piece_before a c ≡ true
before_trans a b c = grind (arith, nat_tests)

pub before_differs : (a b : PieceId) → piece_before a b ≡ true → is_piece a b ≡ false
before_differs a b = grind (arith, nat_tests)

pub after_differs : (a b : PieceId) → piece_before b a ≡ true → is_piece a b ≡ false
after_differs a b = grind (arith, nat_tests)

pub neither_is : (a b : PieceId) → piece_before a b ≡ false → piece_before b a ≡ false → is_piece b a ≡ true
neither_is a b = grind (arith, nat_tests)

pub same_piece : (a b : PieceId) → is_piece a b ≡ true → a ≡ b
same_piece a b h = grind (arith, nat_tests)

pub ascends_more : (xs : List PieceId) (i : ℕ) → 0 < i → i < length xs
    → ((j k : ℕ) (d : PieceId) → j < k → k < i → piece_before (get_or xs j d) (get_or xs k d) ≡ true)
    → (e : PieceId) → piece_before (get_or xs (i - 1) e) (get_or xs i e) ≡ true
    → (j k : ℕ) (d : PieceId) → j < k → k < i + 1 → piece_before (get_or xs j d) (get_or xs k d) ≡ true
ascends_more xs i pos inside all e here_e j k d lt le = ⊎_elim (λ e. subst (λ k. piece_before (get_or xs j d) (get_or xs k d) ≡ true) (sym e) (last j d (omega arith))) (λ l. all j k d lt l) (split k i le)
  where
    split : (k i : ℕ) → k < i + 1 → (k ≡ i) ⊎ (k < i)
    split k i le = grind arith

    here : (d : PieceId) → piece_before (get_or xs (i - 1) d) (get_or xs i d) ≡ true
    here d = ap (λ p. piece_before p (get_or xs i d)) (get_or_default xs (i - 1) d e (omega arith)) ∙ ap (piece_before (get_or xs (i - 1) e)) (get_or_default xs i d e inside) ∙ here_e

    split' : (j i : ℕ) → j < i → (j ≡ i - 1) ⊎ (j < i - 1)
    split' j i lt = grind arith

    last : (j : ℕ) (d : PieceId) → j < i → piece_before (get_or xs j d) (get_or xs i d) ≡ true
    last j d lt = ⊎_elim (λ e. subst (λ j. piece_before (get_or xs j d) (get_or xs i d) ≡ true) (sym e) (here d)) (λ l. before_trans (get_or xs j d) (get_or xs (i - 1) d) (get_or xs i d) (all j (i - 1) d l (omega arith)) (here d)) (split' j i lt)

-- in an ascending list what stands below one that is before the piece is none, nor what stands above one that is after it
module _ (xs : List PieceId) (up : IsAscending xs) (id : PieceId) (i : ℕ) (lt : i < length xs) (e d : PieceId) where
  at_default : get_or xs i d ≡ get_or xs i e
  at_default = get_or_default xs i d e lt

  pub none_below : piece_before (get_or xs i e) id ≡ true → (k : ℕ) → k < i + 1 → is_piece id (get_or xs k d) ≡ false
  none_below b' k le = let b : piece_before (get_or xs i d) id ≡ true = ap (λ p. piece_before p id) at_default ∙ b' in ⊎_elim (λ e. subst (λ k. is_piece id (get_or xs k d) ≡ false) (sym e) (after_differs id (get_or xs i d) b)) (λ l. after_differs id (get_or xs k d) (before_trans (get_or xs k d) (get_or xs i d) id (up k i d l lt) b)) (split k i le)
    where
      split : (k i : ℕ) → k < i + 1 → (k ≡ i) ⊎ (k < i)
      split k i le = grind arith

  pub none_above : piece_before id (get_or xs i e) ≡ true → (k : ℕ) → i ≤ k → k < length xs → is_piece id (get_or xs k d) ≡ false
  none_above b' k le in' = let b : piece_before id (get_or xs i d) ≡ true = ap (piece_before id) at_default ∙ b' in ⊎_elim (λ e. subst (λ k. is_piece id (get_or xs k d) ≡ false) (sym e) (before_differs id (get_or xs i d) b)) (λ l. before_differs id (get_or xs k d) (before_trans id (get_or xs i d) (get_or xs k d) b (up i k d l in'))) (split k i le)
    where
      split : (k i : ℕ) → i ≤ k → (k ≡ i) ⊎ (i < k)
      split k i le = grind arith

pub here_is : (xs : List PieceId) (id : PieceId) (i : ℕ) → i < length xs → (e d : PieceId) → piece_before (get_or xs i e) id ≡ false → piece_before id (get_or xs i e) ≡ false → is_piece id (get_or xs i d) ≡ true
here_is xs id i lt e d a b = ap (is_piece id) (get_or_default xs i d e lt) ∙ neither_is (get_or xs i e) id a b

-- a piece that is neither before nor after the one at a position stands there, and nowhere before
pub only_here : (xs : List PieceId) → IsAscending xs → (id : PieceId) (i : ℕ) → i < length xs → (e : PieceId) → piece_before (get_or xs i e) id ≡ false → piece_before id (get_or xs i e) ≡ false
    → position (is_piece id) xs ≡ Some i
only_here xs up id i lt e a b = first_at (is_piece id) xs i e lt (here_is xs id i lt e e a b)
    (λ k kl. after_differs id (get_or xs k e) (ap (piece_before (get_or xs k e)) same ∙ up k i e kl lt))
  where
    same : id ≡ get_or xs i e
    same = same_piece id (get_or xs i e) (neither_is (get_or xs i e) id a b)

-- a piece of an ascending list stands in one place
pub stands_once : (xs : List PieceId) → IsAscending xs → (id : PieceId) (i : ℕ) → i < length xs → (e : PieceId) → is_piece id (get_or xs i e) ≡ true → position (is_piece id) xs ≡ Some i
stands_once xs up id i lt e t = first_at (is_piece id) xs i e lt t (λ k kl. after_differs id (get_or xs k e) (ap (piece_before (get_or xs k e)) (same_piece id (get_or xs i e) t) ∙ up k i e kl lt))

-- a piece is nowhere where it is in neither of two parts
pub none_apart : (xs : List PieceId) (id : PieceId) (low high : ℕ) → high ≤ low
    → ((k : ℕ) (d : PieceId) → k < low → is_piece id (get_or xs k d) ≡ false) → ((k : ℕ) (d : PieceId) → high ≤ k → k < length xs → is_piece id (get_or xs k d) ≡ false)
    → position (is_piece id) xs ≡ None
none_apart xs id low high le below above = none_at (is_piece id) xs id (λ k lt. ⊎_elim (λ l. below k id l) (λ h. above k id (omega arith) lt) (split k low))
  where
    split : (k low : ℕ) → (k < low) ⊎ (low ≤ k)
    split k low = grind arith
