-- Sets after something else is kept of one, or nothing.
use Rattle.std.proofs.Common.{◌≡◌, ◌⊎◌, ℕ, zero, suc, List, [], ◌∷◌, map, Option, Some, None, refl, sym, ap, subst, ◌∙◌, inl, inr, arith}
use Rattle.std.specs.Prelude.{slice_get, T}
use Rattle.std.specs.FinMap.{is_sorted}
use Rattle.std.proofs.lemmas.Option.{same_Some}
use Rattle.pac_sets.specs.declared.set_id.SetId.{SetId}
use Rattle.pac_sets.specs.SetOrder.{set_cmp}
use Rattle.pac_sets.specs.Sets.{Kept, WaitsForNothing, kept_of, with_kept_at}
use Rattle.pac_sets.proofs.KeptLemmas.{sorted_stays}
use Rattle.pac_sets.proofs.SetLemmas.{kept_there, there_kept}

pub equal_or_not : (i j : ℕ) → (i ≡ j) ⊎ (i ≡ j → ⊥)
equal_or_not i j = grind arith

module _ {P : Type 0} where
  pub get_changed : (sets : List (Kept P)) (at : ℕ) (set : Kept P) (kept : Option P) → slice_get sets at ≡ Some set → slice_get (with_kept_at sets at kept) at ≡ Some (set.0, kept)
  get_changed [] at set kept e = let wrong : None ≡ Some set = e in absurd cc
  get_changed (s ∷ ss) zero set kept e = ap (λ (x : Kept P). Some (x.0, kept)) (same_Some s set e)
  get_changed (s ∷ ss) (suc at) set kept e = get_changed ss at set kept e

  pub get_other : (sets : List (Kept P)) (at j : ℕ) (kept : Option P) → (j ≡ at → ⊥) → slice_get (with_kept_at sets at kept) j ≡ slice_get sets j
  get_other [] at j kept differ = refl
  get_other (s ∷ ss) zero zero kept differ = absurd (differ refl)
  get_other (s ∷ ss) zero (suc j) kept differ = refl
  get_other (s ∷ ss) (suc at) zero kept differ = refl
  get_other (s ∷ ss) (suc at) (suc j) kept differ = get_other ss at j kept (λ e. differ (ap suc e))

  pub ids_stay : (sets : List (Kept P)) (at : ℕ) (kept : Option P) → map (λ (set : Kept P). set.0) (with_kept_at sets at kept) ≡ map (λ (set : Kept P). set.0) sets
  ids_stay [] at kept = refl
  ids_stay (s ∷ ss) zero kept = refl
  ids_stay (s ∷ ss) (suc at) kept = ap (λ l. s.0 ∷ l) (ids_stay ss at kept)

  module _ (sets : List (Kept P)) (up : T (is_sorted set_cmp sets)) (at : ℕ) (id : SetId) (old new : Option P) (there : slice_get sets at ≡ Some (id, old)) where
    abbrev after : List (Kept P)
    after = with_kept_at sets at new

    pub still_up : T (is_sorted set_cmp (with_kept_at sets at new))
    still_up = subst T (sym (sorted_stays sets at new)) up

    pub kept_changed : kept_of id (with_kept_at sets at new) ≡ new
    kept_changed = kept_there after still_up at id new (get_changed sets at (id, old) new there)

    pub kept_stays : (s : SetId) → (s ≡ id → ⊥) → kept_of s (with_kept_at sets at new) ≡ kept_of s sets
    kept_stays s differ = go (kept_of s after) refl
      where
        not_here : (j : ℕ) (p : P) → slice_get sets j ≡ Some (s, Some p) → j ≡ at → ⊥
        not_here j p e same = differ (ap (λ (x : Kept P). x.0) (same_Some (s, Some p) (id, old) (sym e ∙ ap (slice_get sets) same ∙ there)))

        not_after : (j : ℕ) (p : P) → slice_get after j ≡ Some (s, Some p) → j ≡ at → ⊥
        not_after j p e same = differ (ap (λ (x : Kept P). x.0) (same_Some (s, Some p) (id, new) (sym e ∙ ap (slice_get after) same ∙ get_changed sets at (id, old) new there)))

        go : (o : Option P) → kept_of s after ≡ o → kept_of s after ≡ kept_of s sets
        go (Some p) e =
            let j = there_kept after still_up s p e in
            e ∙ sym (kept_there sets up j.0 s (Some p) (sym (get_other sets at j.0 new (not_after j.0 p j.1)) ∙ j.1))
        go None e = e ∙ sym (none (kept_of s sets) refl)
          where
            none : (o : Option P) → kept_of s sets ≡ o → o ≡ None
            none None f = refl
            none (Some p) f =
                let j = there_kept sets up s p f in
                let here : kept_of s after ≡ Some p = kept_there after still_up j.0 s (Some p) (get_other sets at j.0 new (not_here j.0 p j.1) ∙ j.1) in
                let wrong : None ≡ Some p = sym e ∙ here in absurd cc

    -- what waits for nothing does so still, where a set is opened or finished
    pub passes_still : (edges : List (ℕ × ℕ)) (s : SetId) → ((other : SetId) → other ≡ id → old ≡ None → new ≡ None) → WaitsForNothing edges sets s → WaitsForNothing edges (with_kept_at sets at new) s
    passes_still edges s stays passed other wait = same_or_not (λ same. ap (λ o. kept_of o after) same ∙ kept_changed ∙ stays other same (sym (kept_there sets up at id old there) ∙ ap (λ o. kept_of o sets) (sym same) ∙ passed other wait))
        (λ differ. kept_stays other differ ∙ passed other wait)
      where
        same_or_not : (other ≡ id → kept_of other after ≡ None) → ((other ≡ id → ⊥) → kept_of other after ≡ None) → kept_of other after ≡ None
        same_or_not when_same when_not = go (equal_or_not other.batch id.batch) (equal_or_not other.block id.block)
          where
            go : (other.batch ≡ id.batch) ⊎ (other.batch ≡ id.batch → ⊥) → (other.block ≡ id.block) ⊎ (other.block ≡ id.block → ⊥) → kept_of other after ≡ None
            go (inl b) (inl c) = when_same (λ i. record { batch = b i; block = c i })
            go (inl b) (inr c) = when_not (λ e. c (ap (λ (x : SetId). x.block) e))
            go (inr b) c = when_not (λ e. b (ap (λ (x : SetId). x.batch) e))
