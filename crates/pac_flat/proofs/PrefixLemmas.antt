-- Lists that begin with others, and what stands in them.
use Rattle.std.proofs.Common.{◌≡◌, ℕ, zero, suc, ◌<◌, List, [], ◌∷◌, ◌++◌, length, Option, Some, None, refl, sym, ap, subst, ◌∙◌, arith, append_assoc, append-nil, get_or}
use Rattle.std.specs.Prelude.{slice_get, IsSomeAnd, Contains}
use Rattle.std.specs.List.{AllByRecursion}
use Rattle.pac_value.specs.declared.values.Ty.{Ty}
use Rattle.pac_ops.specs.declared.program.FlatOp.{FlatOp}
use Rattle.pac_ops.specs.Programs.{IsPrefixOf, given_type, scope_in}
use Rattle.pac_types.proofs.ScopeLemmas.{Within}
use Rattle.pac_flat.specs.FlatForm.{with_type, types_after}

pub at-prefix : {A : Type 0} (xs ys : List A) (i : ℕ) (x : A) → slice_get xs i ≡ Some x → slice_get (xs ++ ys) i ≡ Some x
at-prefix [] ys i x h = absurd cc
at-prefix (a ∷ xs) ys zero x h = h
at-prefix (a ∷ xs) ys (suc i) x h = at-prefix xs ys i x h

pub at-end : {A : Type 0} (xs ys : List A) (x : A) → slice_get (xs ++ x ∷ ys) (length xs) ≡ Some x
at-end [] ys x = refl
at-end (a ∷ xs) ys x = at-end xs ys x

pub some-prefix : {A : Type 0} (P : A → Type 0) (xs ys : List A) (i : ℕ) → IsSomeAnd (slice_get xs i) P → IsSomeAnd (slice_get (xs ++ ys) i) P
some-prefix P [] ys i h = absurd h
some-prefix P (a ∷ xs) ys zero h = h
some-prefix P (a ∷ xs) ys (suc i) h = some-prefix P xs ys i h

pub some-end : {A : Type 0} (P : A → Type 0) (xs ys : List A) (x : A) → P x → IsSomeAnd (slice_get (xs ++ x ∷ ys) (length xs)) P
some-end P [] ys x h = h
some-end P (a ∷ xs) ys x h = some-end P xs ys x h

pub some-within : {A : Type 0} (P : A → Type 0) (xs : List A) (i : ℕ) → IsSomeAnd (slice_get xs i) P → i < length xs
some-within P [] i h = absurd h
some-within P (a ∷ xs) zero h = omega arith
some-within P (a ∷ xs) (suc i) h = omega (arith, some-within P xs i h)

pub some-mapped : {A : Type 0} (P Q : A → Type 0) → ((x : A) → P x → Q x) → (o : Option A) → IsSomeAnd o P → IsSomeAnd o Q
some-mapped P Q f None h = h
some-mapped P Q f (Some x) h = f x h

-- what holds of each holds of those that a list contains
pub of-contained : {A : Type 0} (P : A → Type 0) (xs : List A) (x : A) → AllByRecursion P xs → Contains xs x → P x
of-contained P xs x all (k, within, is) = go xs k all within is
  where
    go : (ys : List _) (k : ℕ) → AllByRecursion P ys → k < length ys → get_or ys k x ≡ x → P x
    go [] k all within is = let no_way : ⊥ = omega arith in absurd no_way
    go (y ∷ ys) zero all within is = subst P is all.0
    go (y ∷ ys) (suc k) all within is = go ys k all.1 (omega (arith, within)) is

pub prefix-itself : {A : Type 0} (xs : List A) → IsPrefixOf xs xs
prefix-itself xs = ([], sym (append-nil xs))

pub prefix-more : {A : Type 0} (xs ys zs : List A) → IsPrefixOf xs ys → IsPrefixOf xs (ys ++ zs)
prefix-more xs ys zs h = (h.0 ++ zs, ap (λ l. l ++ zs) h.1 ∙ append_assoc xs h.0 zs)

pub prefix-trans : {A : Type 0} (xs ys zs : List A) → IsPrefixOf xs ys → IsPrefixOf ys zs → IsPrefixOf xs zs
prefix-trans xs ys zs h g = (h.0 ++ g.0, g.1 ∙ ap (λ l. l ++ g.0) h.1 ∙ append_assoc xs h.0 g.0)

-- ---- types of variables

pub types_after-append : (vars : List Ty) (xs ys : List FlatOp) → types_after vars (xs ++ ys) ≡ types_after (types_after vars xs) ys
types_after-append vars [] ys = refl
types_after-append vars (x ∷ xs) ys = types_after-append (with_type vars (given_type (scope_in vars) x.kind)) xs ys

prefix-with_type : (vars : List Ty) (o : Option Ty) → IsPrefixOf vars (with_type vars o)
prefix-with_type vars None = prefix-itself vars
prefix-with_type vars (Some ty) = (ty ∷ [], refl)

pub prefix-types_after : (ops : List FlatOp) (vars : List Ty) → IsPrefixOf vars (types_after vars ops)
prefix-types_after [] vars = prefix-itself vars
prefix-types_after (op ∷ ops) vars = prefix-trans vars (with_type vars (given_type (scope_in vars) op.kind)) _ (prefix-with_type vars (given_type (scope_in vars) op.kind))
    (prefix-types_after ops (with_type vars (given_type (scope_in vars) op.kind)))

pub within-prefix : (vars more : List Ty) → IsPrefixOf vars more → Within (scope_in vars) (scope_in more)
within-prefix vars more h x ty is = subst (λ (l : List Ty). slice_get l x ≡ Some ty) (sym h.1) (at-prefix vars h.0 x ty is)
