-- What a changed state changes: the finished pieces, the numbers of pairs that hold a piece up, and the counts.
use Rattle.std.proofs.Common.{◌≡◌, ◌≢◌, ℕ, zero, suc, ◌+◌, ◌<◌, ◌≤◌, Bool, true, false, cond, not, ◌&&◌, ◌||◌, ◌==◌, List, [], ◌∷◌, length, get_or, refl, sym, ap, ◌∙◌, subst, ⊎_elim, ◌⊎◌, Some, None, arith, true≢false}
use Rattle.std.specs.Prelude.{Option, slice_get, slice_set, count_by}
use Rattle.std.specs.List.{list_all}
use Rattle.std.proofs.lemmas.Bool.Decides.{nat_tests}
use Rattle.std.proofs.lemmas.List.{get_or-set_same, get_or-set_other, length-set}
use Rattle.std.proofs.lemmas.List.Sums.{sum_by-set, AllPass-from_list_all, list_all-from_AllPass}
use Rattle.std.proofs.lemmas.Option.{slice_get-get_or, slice_get_past, slice_get_within, get_or_from_slice_get}
use Rattle.pac_sched.specs.declared.state.PieceState.{PieceState}
use Rattle.pac_sched.specs.declared.state.PieceState.TheVariants.{Out, Finished}
use Rattle.pac_sched.specs.Schedules.{is_finished, some_passes}
use Rattle.pac_sched.specs.Counts.{finished_at, holds_up, leads, passing}
use Rattle.pac_sched.proofs.FollowerLemmas.{passing_grows, to_count}

split : (a b : ℕ) → (a < b) ⊎ (b ≤ a)
split a b = grind arith

equal : (a b : ℕ) → (a ≡ b) ⊎ (a ≢ b)
equal a b = grind arith

-- ---- a list with one state changed

module _ (states : List PieceState) (i : ℕ) (x : PieceState) (lt : i < length states) where
  pub get_same : slice_get (slice_set states i x) i ≡ Some x
  get_same = slice_get-get_or (slice_set states i x) i x (subst (λ n. i < n) (sym (length-set states i x)) lt) ∙ ap (λ y. Some y) (get_or-set_same states i x x lt)

  pub get_other : (k : ℕ) → k ≢ i → slice_get (slice_set states i x) k ≡ slice_get states k
  get_other k ne = ⊎_elim inside past (split k (length states))
    where
      inside : k < length states → slice_get (slice_set states i x) k ≡ slice_get states k
      inside kl = slice_get-get_or (slice_set states i x) k x (subst (λ n. k < n) (sym (length-set states i x)) kl)
          ∙ ap (λ y. Some y) (get_or-set_other states i k x x ne) ∙ sym (slice_get-get_or states k x kl)

      past : length states ≤ k → slice_get (slice_set states i x) k ≡ slice_get states k
      past ge = slice_get_past (slice_set states i x) k (subst (λ n. n ≤ k) (sym (length-set states i x)) ge) ∙ sym (slice_get_past states k ge)

  -- a test that does not tell the two states apart
  pub test_stays : (test : PieceState → Bool) (s : PieceState) → slice_get states i ≡ Some s → test s ≡ test x → (k : ℕ) → some_passes test (slice_get (slice_set states i x) k) ≡ some_passes test (slice_get states k)
  test_stays test s e same k = ⊎_elim here (λ ne. ap (some_passes test) (get_other k ne)) (equal k i)
    where
      here : k ≡ i → some_passes test (slice_get (slice_set states i x) k) ≡ some_passes test (slice_get states k)
      here h = ap (λ k. some_passes test (slice_get (slice_set states i x) k)) h ∙ ap (some_passes test) get_same ∙ sym same ∙ sym (ap (λ k. some_passes test (slice_get states k)) h ∙ ap (some_passes test) e)

  -- how many pass a test
  pub count_step : (test : PieceState → Bool) (s : PieceState) → slice_get states i ≡ Some s → count_by test (slice_set states i x) + to_count (test s) ≡ count_by test states + to_count (test x)
  count_step test s e = let a = sum_by-set (λ (y : PieceState). to_count (test y)) states i x s lt in
      let b : to_count (test (get_or states i s)) ≡ to_count (test s) = ap (λ (y : PieceState). to_count (test y)) (get_or_from_slice_get states i s s e) in
      omega (arith, a, b)

-- ---- numbers of pairs

pub passing_same : (test other : ℕ × ℕ → Bool) (pairs : List (ℕ × ℕ)) → ((o : Option (ℕ × ℕ)) → some_passes test o ≡ some_passes other o) → (m : ℕ) → passing test pairs m ≡ passing other pairs m
passing_same test other pairs same zero = refl
passing_same test other pairs same (suc m) = ap (λ n. n + cond (some_passes test (slice_get pairs m)) 1 0) (passing_same test other pairs same m) ∙ ap (λ b. passing other pairs m + cond b 1 0) (same (slice_get pairs m))

pub hold_stays : (states new : List PieceState) → ((k : ℕ) → finished_at new k ≡ finished_at states k) → (j : ℕ) (pairs : List (ℕ × ℕ)) (m : ℕ) → passing (holds_up new j) pairs m ≡ passing (holds_up states j) pairs m
hold_stays states new same j pairs m = passing_same (holds_up new j) (holds_up states j) pairs each m
  where
    each : (o : Option (ℕ × ℕ)) → some_passes (holds_up new j) o ≡ some_passes (holds_up states j) o
    each None = refl
    each (Some pair) = ap (λ b. pair.1 == j && not b) (same pair.0)

-- those of a piece that is finished are taken off
pub hold_less : (states : List PieceState) (i j : ℕ) (pairs : List (ℕ × ℕ)) → slice_get states i ≡ Some Out → (m : ℕ)
    → passing (holds_up (slice_set states i Finished) j) pairs m + passing (leads i j) pairs m ≡ passing (holds_up states j) pairs m
hold_less states i j pairs e zero = omega arith
hold_less states i j pairs e (suc m) = add _ _ _ _ _ _ (hold_less states i j pairs e m) (each (slice_get pairs m))
  where
    lt : i < length states
    lt = slice_get_within states i Out e

    add : (a b c d f g : ℕ) → a + b ≡ c → d + f ≡ g → a + d + (b + f) ≡ c + g
    add a b c d f g p q = omega arith

    was : finished_at states i ≡ false
    was = ap (some_passes is_finished) e

    is : finished_at (slice_set states i Finished) i ≡ true
    is = ap (some_passes is_finished) (get_same states i Finished lt)

    at : (a b j : ℕ) → to_count (b == j && not (finished_at (slice_set states i Finished) a)) + to_count (a == i && b == j) ≡ to_count (b == j && not (finished_at states a))
    at a b j = ⊎_elim here other (equal a i)
      where
        sum : (t : Bool) → to_count (t && false) + to_count (true && t) ≡ to_count (t && true)
        sum true = refl
        sum false = refl

        sum' : (t f : Bool) → to_count (t && f) + to_count (false && t) ≡ to_count (t && f)
        sum' true true = refl
        sum' true false = refl
        sum' false true = refl
        sum' false false = refl

        agree : (a b : ℕ) → a ≡ b → (a == b) ≡ true
        agree a b h = grind (arith, nat_tests)

        differ : (a b : ℕ) → a ≢ b → (a == b) ≡ false
        differ a b h = grind (arith, nat_tests)

        here : a ≡ i → to_count (b == j && not (finished_at (slice_set states i Finished) a)) + to_count (a == i && b == j) ≡ to_count (b == j && not (finished_at states a))
        here h = ap (λ f. to_count (b == j && not f) + to_count (a == i && b == j)) (ap (finished_at (slice_set states i Finished)) h ∙ is)
            ∙ ap (λ t. to_count (b == j && false) + to_count (t && b == j)) (agree a i h) ∙ sum (b == j)
            ∙ sym (ap (λ f. to_count (b == j && not f)) (ap (finished_at states) h ∙ was))

        other : a ≢ i → to_count (b == j && not (finished_at (slice_set states i Finished) a)) + to_count (a == i && b == j) ≡ to_count (b == j && not (finished_at states a))
        other h = ap (λ o. to_count (b == j && not (some_passes is_finished o)) + to_count (a == i && b == j)) (get_other states i Finished lt a h)
            ∙ ap (λ t. to_count (b == j && not (finished_at states a)) + to_count (t && b == j)) (differ a i h) ∙ sum' (b == j) (not (finished_at states a))

    each : (o : Option (ℕ × ℕ)) → to_count (some_passes (holds_up (slice_set states i Finished) j) o) + to_count (some_passes (leads i j) o) ≡ to_count (some_passes (holds_up states j) o)
    each None = refl
    each (Some pair) = at pair.0 pair.1 j

-- ---- none holds a piece up where all that it waits for are finished

pub all_same : {X : Type 0} (p q : X → Bool) → ((x : X) → p x ≡ q x) → (xs : List X) → list_all p xs ≡ list_all q xs
all_same p q same [] = refl
all_same p q same (x ∷ xs) = ap (λ b. b && list_all p xs) (same x) ∙ ap (λ b. q x && b) (all_same p q same xs)

-- no pair passes
pub none_passes : (test : ℕ × ℕ → Bool) (pairs : List (ℕ × ℕ)) → ((k : ℕ) → k < length pairs → test (get_or pairs k (0, 0)) ≡ false) → (m : ℕ) → passing test pairs m ≡ 0
none_passes test pairs all zero = refl
none_passes test pairs all (suc m) = sum _ _ (none_passes test pairs all m) (⊎_elim inside past (split m (length pairs)))
  where
    sum : (a : ℕ) (b : Bool) → a ≡ 0 → b ≡ false → a + cond b 1 0 ≡ 0
    sum a true e h = absurd (true≢false h)
    sum a false e h = omega arith

    inside : m < length pairs → some_passes test (slice_get pairs m) ≡ false
    inside lt = ap (some_passes test) (slice_get-get_or pairs m (0, 0) lt) ∙ all m lt

    past : length pairs ≤ m → some_passes test (slice_get pairs m) ≡ false
    past ge = ap (some_passes test) (slice_get_past pairs m ge)

pub each_fails : (test : ℕ × ℕ → Bool) (pairs : List (ℕ × ℕ)) → passing test pairs (length pairs) ≡ 0 → (k : ℕ) (d : ℕ × ℕ) → k < length pairs → test (get_or pairs k d) ≡ false
each_fails test pairs e k d lt = ap (some_passes test) (sym (slice_get-get_or pairs k d lt)) ∙ fails (some_passes test (slice_get pairs k)) (passing test pairs k) (passing test pairs (length pairs)) (passing_grows test pairs (suc k) (length pairs) lt) e
  where
    fails : (b : Bool) (p n : ℕ) → p + cond b 1 0 ≤ n → n ≡ 0 → b ≡ false
    fails true p n le z = absurd (omega arith)
    fails false p n le z = refl

-- the test by pairs and that by their number agree
pub all_or_some : (states : List PieceState) (pairs : List (ℕ × ℕ)) (j : ℕ)
    → list_all (λ pair. not (pair.1 == j) || finished_at states pair.0) pairs ≡ (passing (holds_up states j) pairs (length pairs) == 0)
all_or_some states pairs j = turned ∙ go (list_all (λ pair. not (holds_up states j pair)) pairs) refl
  where
    one : (a b : Bool) → (not a || b) ≡ not (a && not b)
    one true true = refl
    one true false = refl
    one false true = refl
    one false false = refl

    turned : list_all (λ pair. not (pair.1 == j) || finished_at states pair.0) pairs ≡ list_all (λ pair. not (holds_up states j pair)) pairs
    turned = all_same (λ (pair : ℕ × ℕ). not (pair.1 == j) || finished_at states pair.0) (λ (pair : ℕ × ℕ). not (holds_up states j pair)) (λ pair. one (pair.1 == j) (finished_at states pair.0)) pairs

    flip : (b : Bool) → not b ≡ true → b ≡ false
    flip true h = absurd (true≢false (sym h))
    flip false h = refl

    is_zero : (n : ℕ) → n ≡ 0 → (n == 0) ≡ true
    is_zero n h = grind (arith, nat_tests)

    from_zero : (n : ℕ) → (n == 0) ≡ true → n ≡ 0
    from_zero n h = grind (arith, nat_tests)

    back : (t : Bool) → (passing (holds_up states j) pairs (length pairs) == 0) ≡ t → list_all (λ pair. not (holds_up states j pair)) pairs ≡ false → false ≡ t
    back false e h = refl
    back true e h = absurd (true≢false (sym (list_all-from_AllPass (λ pair. not (holds_up states j pair)) pairs (λ k d lt. ap not (each_fails (holds_up states j) pairs (from_zero _ e) k d lt))) ∙ h))

    go : (b : Bool) → list_all (λ pair. not (holds_up states j pair)) pairs ≡ b → b ≡ (passing (holds_up states j) pairs (length pairs) == 0)
    go true e = sym (is_zero _ (none_passes (holds_up states j) pairs (λ k lt. flip _ (AllPass-from_list_all (λ pair. not (holds_up states j pair)) pairs e k (0, 0) lt)) (length pairs)))
    go false e = back _ refl e
