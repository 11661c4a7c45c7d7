-- What holds of an item that is there.
use Rattle.std.proofs.Common.{◌≡◌, ℕ, zero, suc, ◌<◌, List, [], ◌∷◌, length, Option, Some, None, refl, sym, subst, arith}
use Rattle.std.specs.Prelude.{slice_get, IsSomeAnd}
use Rattle.std.specs.Option.{option_map}
use Rattle.std.proofs.lemmas.Option.{same_Some, slice_get_within}

pub there : {A : Type 0} (xs : List A) (i : ℕ) (x : A) (P : A → Type 0) → slice_get xs i ≡ Some x → P x → IsSomeAnd (slice_get xs i) P
there xs i x P is p = subst (λ o. IsSomeAnd o P) (sym is) p

pub so : {A : Type 0} (xs : List A) (i : ℕ) (x : A) (P : A → Type 0) → slice_get xs i ≡ Some x → IsSomeAnd (slice_get xs i) P → P x
so xs i x P is h = subst (λ o. IsSomeAnd o P) is h

pub some_one : {A : Type 0} (o : Option A) (P : A → Type 0) → IsSomeAnd o P → (x : A) × (o ≡ Some x) × P x
some_one None P h = absurd h
some_one (Some x) P h = (x, refl, h)

-- where something holds of an item there is one
pub item : {A : Type 0} (xs : List A) (i : ℕ) (P : A → Type 0) → IsSomeAnd (slice_get xs i) P → (x : A) × (slice_get xs i ≡ Some x) × P x
item xs i P h = some_one (slice_get xs i) P h

pub inside : {A : Type 0} (xs : List A) (i : ℕ) (P : A → Type 0) → IsSomeAnd (slice_get xs i) P → i < length xs
inside xs i P h = let x = item xs i P h in slice_get_within xs i x.0 x.1

-- there is an item at each number below the length
pub item_at : {A : Type 0} (xs : List A) (i : ℕ) → i < length xs → (x : A) × (slice_get xs i ≡ Some x)
item_at [] i lt = absurd (omega (arith, lt))
item_at (x ∷ xs) zero lt = (x, refl)
item_at (x ∷ xs) (suc i) lt = item_at xs i (omega (arith, lt))

-- what a function gave for an item that is there
pub mapped_some : {A B : Type 0} (f : A → B) (o : Option A) (y : B) → option_map f o ≡ Some y → (x : A) × (o ≡ Some x) × (f x ≡ y)
mapped_some f None y h = cc
mapped_some f (Some x) y h = (x, refl, same_Some (f x) y h)
