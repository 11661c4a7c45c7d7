-- What holds of each item of a list and of one more.
use Rattle.std.proofs.Common.{◌≡◌, ◌⊎◌, ◌<◌, ◌≤◌, ◌+◌, ℕ, List, [], ◌∷◌, ◌++◌, length, get_or, Some, sym, ap, subst, ◌∙◌, arith, inl, inr}
use Rattle.std.specs.Prelude.{slice_get}
use Rattle.std.proofs.lemmas.Bool.{cases_lt}
use Rattle.std.proofs.lemmas.List.{length_push, get_or_append_left, get_or-append-add}
use Rattle.std.proofs.lemmas.Option.{slice_get_within, get_or_from_slice_get, slice_get-get_or}

pub each_push : {X : Type 0} (P : ℕ → X → Type 0) (xs ys : List X) (x : X) (n : ℕ) → ys ≡ xs ++ x ∷ [] → length xs ≡ n → ((k : ℕ) (e : X) → slice_get xs k ≡ Some e → P k e) → P n x → (k : ℕ) (e : X) → slice_get ys k ≡ Some e → P k e
each_push {X} P xs ys x n more is old new k e found = go (cases_lt k (length xs))
  where
    there : slice_get (xs ++ x ∷ []) k ≡ Some e
    there = ap (λ (l : List X). slice_get l k) (sym more) ∙ found

    read : get_or (xs ++ x ∷ []) k e ≡ e
    read = get_or_from_slice_get (xs ++ x ∷ []) k e e there

    within : k < length xs + 1
    within = subst (λ (m : ℕ). k < m) (length_push xs x) (slice_get_within (xs ++ x ∷ []) k e there)

    go : (k < length xs) ⊎ (length xs ≤ k) → P k e
    go (inl lt) = old k e (slice_get-get_or xs k e lt ∙ ap Some (sym (get_or_append_left xs (x ∷ []) e k lt) ∙ read))
    go (inr past) =
        let last : k ≡ length xs + 0 = omega (arith, within) in
        let own : x ≡ e = sym (get_or-append-add xs (x ∷ []) 0 e) ∙ ap (λ m. get_or (xs ++ x ∷ []) m e) (sym last) ∙ read in
        let at : n ≡ k = omega (arith, within) in
        subst (λ (m : ℕ). P m e) at (subst (P n) own new)
