-- Members of lists that are filtered and mapped, and where they stand.
use Rattle.std.proofs.Common.{◌≡◌, ◌⊎◌, ℕ, zero, suc, Bool, true, false, cond, List, [], ◌∷◌, ◌++◌, map, Some, None, refl, sym, ap, ◌∙◌, true≢false, inl, inr}
use Rattle.std.specs.Prelude.{slice_get, slice_set, filter}
use Rattle.std.specs.Option.{option_map}
use Rattle.std.proofs.lemmas.Option.{slice_get-map, same_Some}
use Rattle.pac_base.specs.Members.{Mem}
use Rattle.pac_base.proofs.ItemLemmas.{mapped_some}

module _ {A : Type 0} (f : A → Bool) where
  pub filter_in : (xs : List A) (x : A) → Mem x xs → f x ≡ true → Mem x (filter f xs)
  filter_in [] x m e = absurd m
  filter_in (y ∷ ys) x m e = go (f y) refl m (λ n. filter_in ys x n e)
    where
      go : (b : Bool) → f y ≡ b → Mem x (y ∷ ys) → (Mem x ys → Mem x (filter f ys)) → Mem x (cond b (y ∷ filter f ys) (filter f ys))
      go true is (inl same) rest = inl same
      go true is (inr n) rest = inr (rest n)
      go false is (inl same) rest = absurd (true≢false (sym e ∙ ap f same ∙ is))
      go false is (inr n) rest = rest n

  pub filter_of : (xs : List A) (x : A) → Mem x (filter f xs) → Mem x xs × (f x ≡ true)
  filter_of [] x m = absurd m
  filter_of (y ∷ ys) x m = go (f y) refl m (λ n. filter_of ys x n)
    where
      go : (b : Bool) → f y ≡ b → Mem x (cond b (y ∷ filter f ys) (filter f ys)) → (Mem x (filter f ys) → Mem x ys × (f x ≡ true)) → Mem x (y ∷ ys) × (f x ≡ true)
      go true is (inl same) rest = (inl same, ap f same ∙ is)
      go true is (inr n) rest = let r = rest n in (inr r.0, r.1)
      go false is n rest = let r = rest n in (inr r.0, r.1)

  -- a filter depends on how the members pass alone
  pub filter_alike : (g : A → Bool) (xs : List A) → ((x : A) → Mem x xs → f x ≡ g x) → filter f xs ≡ filter g xs
  filter_alike g [] same = refl
  filter_alike g (y ∷ ys) same =
      ap (λ b. cond b (y ∷ filter f ys) (filter f ys)) (same y (inl refl)) ∙ ap (λ l. cond (g y) (y ∷ l) l) (filter_alike g ys (λ x m. same x (inr m)))

module _ {A B : Type 0} (f : A → B) where
  pub map_in : (xs : List A) (x : A) → Mem x xs → Mem (f x) (map f xs)
  map_in [] x m = absurd m
  map_in (y ∷ ys) x (inl e) = inl (ap f e)
  map_in (y ∷ ys) x (inr m) = inr (map_in ys x m)

  pub map_of : (xs : List A) (y : B) → Mem y (map f xs) → (x : A) × Mem x xs × (y ≡ f x)
  map_of [] y m = absurd m
  map_of (x ∷ xs) y (inl e) = (x, inl refl, e)
  map_of (x ∷ xs) y (inr m) = let r = map_of xs y m in (r.0, inr r.1, r.2)

  pub map_at : (xs : List A) (i : ℕ) (y : B) → slice_get (map f xs) i ≡ Some y → (x : A) × (slice_get xs i ≡ Some x) × (f x ≡ y)
  map_at xs i y e = mapped_some f (slice_get xs i) y (sym (slice_get-map f xs i) ∙ e)

  pub at_map : (xs : List A) (i : ℕ) (x : A) → slice_get xs i ≡ Some x → slice_get (map f xs) i ≡ Some (f x)
  at_map xs i x e = slice_get-map f xs i ∙ ap (λ o. option_map f o) e

pub mem_at : {A : Type 0} (xs : List A) (x : A) → Mem x xs → (i : ℕ) × (slice_get xs i ≡ Some x)
mem_at [] x m = absurd m
mem_at (y ∷ ys) x (inl e) = (0, ap (λ z. Some z) (sym e))
mem_at (y ∷ ys) x (inr m) = let r = mem_at ys x m in (suc r.0, r.1)

pub at_mem : {A : Type 0} (xs : List A) (i : ℕ) (x : A) → slice_get xs i ≡ Some x → Mem x xs
at_mem [] i x e = let wrong : None ≡ Some x = e in absurd cc
at_mem (y ∷ ys) zero x e = inl (sym (same_Some y x e))
at_mem (y ∷ ys) (suc i) x e = inr (at_mem ys i x e)

pub mem_first : {A : Type 0} (x : A) (xs ys : List A) → Mem x xs → Mem x (xs ++ ys)
mem_first x [] ys m = absurd m
mem_first x (y ∷ xs) ys (inl e) = inl e
mem_first x (y ∷ xs) ys (inr m) = inr (mem_first x xs ys m)

pub mem_second : {A : Type 0} (x : A) (xs ys : List A) → Mem x ys → Mem x (xs ++ ys)
mem_second x [] ys m = m
mem_second x (y ∷ xs) ys m = inr (mem_second x xs ys m)

pub mem_either : {A : Type 0} (x : A) (xs ys : List A) → Mem x (xs ++ ys) → Mem x xs ⊎ Mem x ys
mem_either x [] ys m = inr m
mem_either x (y ∷ xs) ys (inl e) = inl (inl e)
mem_either x (y ∷ xs) ys (inr m) = go (mem_either x xs ys m)
  where
    go : Mem x xs ⊎ Mem x ys → Mem x (y ∷ xs) ⊎ Mem x ys
    go (inl k) = inl (inr k)
    go (inr k) = inr k

-- one item is exchanged
pub set_same : {A : Type 0} (xs : List A) (i : ℕ) (x y : A) → slice_get xs i ≡ Some x → slice_get (slice_set xs i y) i ≡ Some y
set_same [] i x y e = let wrong : None ≡ Some x = e in absurd cc
set_same (z ∷ zs) zero x y e = refl
set_same (z ∷ zs) (suc i) x y e = set_same zs i x y e

-- the one that is there already
pub set_back : {A : Type 0} (xs : List A) (i : ℕ) (x : A) → slice_get xs i ≡ Some x → slice_set xs i x ≡ xs
set_back [] i x e = refl
set_back (y ∷ ys) zero x e = ap (λ z. z ∷ ys) (sym (same_Some y x e))
set_back (y ∷ ys) (suc i) x e = ap (λ l. y ∷ l) (set_back ys i x e)

pub set_other : {A : Type 0} (xs : List A) (i j : ℕ) (y : A) → (j ≡ i → ⊥) → slice_get (slice_set xs i y) j ≡ slice_get xs j
set_other [] i j y differ = refl
set_other (z ∷ zs) zero zero y differ = absurd (differ refl)
set_other (z ∷ zs) zero (suc j) y differ = refl
set_other (z ∷ zs) (suc i) zero y differ = refl
set_other (z ∷ zs) (suc i) (suc j) y differ = set_other zs i j y (λ e. differ (ap suc e))

-- what stands in what stands at an offset is one
pub same_item : {A B : Type 0} (xs : List A) (i : ℕ) (within : A → List B) (j : ℕ) (one other : B) → (a : A) × (slice_get xs i ≡ Some a) × (slice_get (within a) j ≡ Some one)
    → (b : A) × (slice_get xs i ≡ Some b) × (slice_get (within b) j ≡ Some other) → one ≡ other
same_item xs i within j one other first second =
    same_Some one other (sym first.2 ∙ ap (λ x. slice_get (within x) j) (same_Some first.0 second.0 (sym first.1 ∙ second.1)) ∙ second.2)
