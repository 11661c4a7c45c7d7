-- Of one batch other values are kept.
use Rattle.std.proofs.Common.{◌≡◌, ◌⊎◌, ℕ, zero, suc, ◌==◌, cond, List, [], ◌∷◌, map, Some, refl, sym, ap, ◌∙◌, inl, inr}
use Rattle.std.specs.Prelude.{slice_get, slice_set}
use Rattle.std.proofs.lemmas.Option.{same_Some}
use Rattle.pac_base.proofs.TestLemmas.{equal_number, same_number, unlike}
use Rattle.pac_value.specs.Expressions.{Values}
use Rattle.pac_core.specs.declared.loaded.LoadedBatch.{LoadedBatch}
use Rattle.pac_core.specs.Moves.{AreValuesKept, keeps_now_at}
use Rattle.pac_core.proofs.KeptAt.{equal_or_not}
use Rattle.pac_core.proofs.Lists.{set_back, set_other, set_same}

batches_stay : (old : List LoadedBatch) (b : ℕ) (loaded new : LoadedBatch) → slice_get old b ≡ Some loaded → new.batch ≡ loaded.batch
    → map (λ (l : LoadedBatch). l.batch) (slice_set old b new) ≡ map (λ (l : LoadedBatch). l.batch) old
batches_stay [] b loaded new there same = refl
batches_stay (l ∷ ls) zero loaded new there same = ap (λ x. x ∷ map (λ (l : LoadedBatch). l.batch) ls) (same ∙ ap (λ (l : LoadedBatch). l.batch) (sym (same_Some l loaded there)))
batches_stay (l ∷ ls) (suc b) loaded new there same = ap (λ xs. l.batch ∷ xs) (batches_stay ls b loaded new there same)

pub values_kept : (old : List LoadedBatch) (b : ℕ) (loaded new : LoadedBatch) → slice_get old b ≡ Some loaded → new.batch ≡ loaded.batch → (change : List Values → List Values) → new.kept.items ≡ change loaded.kept.items
    → AreValuesKept old b change (slice_set old b new)
values_kept old b loaded new there same change kept = record { batches = batches_stay old b loaded new there same; each = λ k l at. go k l at (equal_or_not k b) }
  where
    go : (k : ℕ) (l : LoadedBatch) → slice_get (slice_set old b new) k ≡ Some l → (k ≡ b) ⊎ (k ≡ b → ⊥)
        → (before : LoadedBatch) × (slice_get old k ≡ Some before) × (l.batch ≡ before.batch) × (l.kept.items ≡ cond (k == b) (change before.kept.items) before.kept.items)
    go k l at (inl e) =
        let is : new ≡ l = same_Some _ _ (sym (set_same old b loaded new there) ∙ ap (slice_get (slice_set old b new)) (sym e) ∙ at) in (
          loaded,
          ap (slice_get old) e ∙ there,
          ap (λ (x : LoadedBatch). x.batch) (sym is) ∙ same,
          ap (λ (x : LoadedBatch). x.kept.items) (sym is) ∙ kept ∙ ap (λ c. cond c (change loaded.kept.items) loaded.kept.items) (sym (equal_number k b e)),
        )
    go k l at (inr differ) = (
      l,
      sym (set_other old b k new differ) ∙ at,
      refl,
      ap (λ c. cond c (change l.kept.items) l.kept.items) (sym (unlike (k == b) (λ h. differ (same_number k b h)))),
    )

-- a transaction keeps the values that it has
pub values_stay : (old : List LoadedBatch) (b i : ℕ) (kept : Values) (loaded : LoadedBatch) → slice_get old b ≡ Some loaded → slice_get loaded.kept.items i ≡ Some kept → AreValuesKept old b (keeps_now_at i kept) old
values_stay old b i kept loaded there at = record { batches = refl; each = λ k l here. (l, here, refl, go k l here (equal_or_not k b)) }
  where
    go : (k : ℕ) (l : LoadedBatch) → slice_get old k ≡ Some l → (k ≡ b) ⊎ (k ≡ b → ⊥) → l.kept.items ≡ cond (k == b) (keeps_now_at i kept l.kept.items) l.kept.items
    go k l here (inl e) =
        let is : loaded ≡ l = same_Some _ _ (sym there ∙ ap (slice_get old) (sym e) ∙ here) in
        sym (ap (λ c. cond c (keeps_now_at i kept l.kept.items) l.kept.items) (equal_number k b e)
        ∙ set_back l.kept.items i kept (ap (λ (x : LoadedBatch). slice_get x.kept.items i) (sym is) ∙ at))
    go k l here (inr differ) = sym (ap (λ c. cond c (keeps_now_at i kept l.kept.items) l.kept.items) (unlike (k == b) (λ h. differ (same_number k b h))))
