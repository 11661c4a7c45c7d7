-- The first of a range of numbers, and lists that grow while a range shrinks.
use Rattle.std.proofs.Common.{◌≡◌, ℕ, suc, ◌+◌, ◌-◌, ◌<◌, Bool, true, false, cond, List, [], ◌∷◌, ◌++◌, map, filter, length, refl, sym, ap, ◌∙◌, append_assoc, get_or, Some, None, arith}
use Rattle.std.specs.Prelude.{slice_get, unwrap_or, nat_lt}
use Rattle.std.specs.List.{flat_map, range_with_len}
use Rattle.std.proofs.lemmas.Option.{slice_get_read}
use borrow.Author.Tests.{ltb-true}
use Rattle.pac_ops.specs.declared.transaction.Txn.{Txn}
use Rattle.pac_plan.specs.declared.access.Access.{Access}
use Rattle.pac_plan.specs.declared.access.Access.TheVariants.{Keys}
use Rattle.pac_plan.specs.Worlds.{txn_at}
use Rattle.pac_batch.specs.Conflicts.{access_in}

pub range_open : (first end : ℕ) → first < end → range_with_len first (end - first) ≡ first ∷ range_with_len (first + 1) (end - (first + 1))
range_open first end lt = let size : end - first ≡ suc (end - (first + 1)) = omega (arith, lt) in ap (range_with_len first) size

-- ---- of a filter, mapped

module _ {A : Type 0} (test : ℕ → Bool) (f : ℕ → A) (first end : ℕ) (lt : first < end) (found : List A) where
  opened : map f (filter test (range_with_len first (end - first))) ≡ map f (cond (test first) (first ∷ filter test (range_with_len (first + 1) (end - (first + 1)))) (filter test (range_with_len (first + 1) (end - (first + 1)))))
  opened = ap (λ xs. map f (filter test xs)) (range_open first end lt)

  pub one_in : test first ≡ true → (found ++ f first ∷ []) ++ map f (filter test (range_with_len (first + 1) (end - (first + 1)))) ≡ found ++ map f (filter test (range_with_len first (end - first)))
  one_in t = append_assoc found (f first ∷ []) _ ∙ ap (λ xs. found ++ xs) (sym (opened ∙ ap (λ b. map f (cond b (first ∷ filter test (range_with_len (first + 1) (end - (first + 1)))) (filter test (range_with_len (first + 1) (end - (first + 1)))))) t))

  pub one_out : test first ≡ false → found ++ map f (filter test (range_with_len (first + 1) (end - (first + 1)))) ≡ found ++ map f (filter test (range_with_len first (end - first)))
  one_out t = ap (λ xs. found ++ xs) (sym (opened ∙ ap (λ b. map f (cond b (first ∷ filter test (range_with_len (first + 1) (end - (first + 1)))) (filter test (range_with_len (first + 1) (end - (first + 1)))))) t))

-- ---- of a list for each number

pub all_of_one : {A : Type 0} (f : ℕ → List A) (first end : ℕ) → first < end → (found : List A)
    → (found ++ f first) ++ flat_map f (range_with_len (first + 1) (end - (first + 1))) ≡ found ++ flat_map f (range_with_len first (end - first))
all_of_one f first end lt found = append_assoc found (f first) _ ∙ ap (λ xs. found ++ xs) (sym (ap (flat_map f) (range_open first end lt)))

-- ---- of what a test of items picks

module _ {A : Type 0} (test : A → Bool) (f : ℕ → A) (first end : ℕ) (lt : first < end) (found : List A) where
  opened_items : filter test (map f (range_with_len first (end - first))) ≡ cond (test (f first)) (f first ∷ filter test (map f (range_with_len (first + 1) (end - (first + 1))))) (filter test (map f (range_with_len (first + 1) (end - (first + 1)))))
  opened_items = ap (λ xs. filter test (map f xs)) (range_open first end lt)

  pub item_in : test (f first) ≡ true → (found ++ f first ∷ []) ++ filter test (map f (range_with_len (first + 1) (end - (first + 1)))) ≡ found ++ filter test (map f (range_with_len first (end - first)))
  item_in t = append_assoc found (f first ∷ []) _ ∙ ap (λ xs. found ++ xs) (sym (opened_items ∙ ap (λ b. cond b (f first ∷ filter test (map f (range_with_len (first + 1) (end - (first + 1))))) (filter test (map f (range_with_len (first + 1) (end - (first + 1)))))) t))

  pub item_out : test (f first) ≡ false → found ++ filter test (map f (range_with_len (first + 1) (end - (first + 1)))) ≡ found ++ filter test (map f (range_with_len first (end - first)))
  item_out t = ap (λ xs. found ++ xs) (sym (opened_items ∙ ap (λ b. cond b (f first ∷ filter test (map f (range_with_len (first + 1) (end - (first + 1))))) (filter test (map f (range_with_len (first + 1) (end - (first + 1)))))) t))

-- ---- of numbers from a first one on

module _ (test : ℕ → Bool) (first i n : ℕ) (lt : i < n) (found : List ℕ) where
  opened_numbers : filter test (range_with_len (first + i) (n - i)) ≡ cond (test (first + i)) ((first + i) ∷ filter test (range_with_len (first + (i + 1)) (n - (i + 1)))) (filter test (range_with_len (first + (i + 1)) (n - (i + 1))))
  opened_numbers =
      let size : n - i ≡ suc (n - (i + 1)) = omega (arith, lt) in
      let next : first + i + 1 ≡ first + (i + 1) = omega arith in
      ap (λ m. filter test (range_with_len (first + i) m)) size ∙ ap (λ k. filter test ((first + i) ∷ range_with_len k (n - (i + 1)))) next

  pub number_in : test (first + i) ≡ true → (found ++ (first + i) ∷ []) ++ filter test (range_with_len (first + (i + 1)) (n - (i + 1))) ≡ found ++ filter test (range_with_len (first + i) (n - i))
  number_in t = append_assoc found ((first + i) ∷ []) _ ∙ ap (λ xs. found ++ xs) (sym (opened_numbers ∙ ap (λ b. cond b ((first + i) ∷ filter test (range_with_len (first + (i + 1)) (n - (i + 1)))) (filter test (range_with_len (first + (i + 1)) (n - (i + 1))))) t))

  pub number_out : test (first + i) ≡ false → found ++ filter test (range_with_len (first + (i + 1)) (n - (i + 1))) ≡ found ++ filter test (range_with_len (first + i) (n - i))
  number_out t = ap (λ xs. found ++ xs) (sym (opened_numbers ∙ ap (λ b. cond b ((first + i) ∷ filter test (range_with_len (first + (i + 1)) (n - (i + 1)))) (filter test (range_with_len (first + (i + 1)) (n - (i + 1))))) t))

-- ---- what stands at a position

pub access_here : (xs : List Access) (i : ℕ) (x : Access) → i < length xs → x ≡ get_or xs i x → x ≡ access_in xs i
access_here xs i x lt is = sym (ap (λ o. unwrap_or o (Keys [])) (slice_get_read xs (length xs) i x refl lt is))

pub txn_here : (first : ℕ) (xs : List Txn) (i : ℕ) (x : Txn) → i < length xs → x ≡ get_or xs i x → txn_at first xs (first + i) ≡ Some x
txn_here first xs i x lt is = go (nat_lt (first + i) first) refl
  where
    go : (b : Bool) → nat_lt (first + i) first ≡ b → cond b None (slice_get xs (first + i - first)) ≡ Some x
    go true t = absurd (let less : first + i < first = ltb-true (first + i) first t in omega (arith, less))
    go false t = let same : first + i - first ≡ i = omega arith in ap (slice_get xs) same ∙ slice_get_read xs (length xs) i x refl lt is
