-- Sets are reclaimed one after another.
use Rattle.std.proofs.Common.{◌≡◌, ℕ, zero, suc, ◌≤◌, List, [], ◌∷◌, length, Option, Some, None, refl, sym, ap, arith}
use Rattle.std.specs.Prelude.{slice_get}
use Rattle.std.proofs.lemmas.Option.{same_Some}
use Rattle.pac_sets.specs.declared.set_id.SetId.{SetId}
use Rattle.pac_sets.specs.Sets.{Kept, with_kept_at}
use Rattle.pac_core.specs.declared.progress.Progress.{Progress}
use Rattle.pac_core.specs.declared.stage.SetStage.{SetStage}
use Rattle.pac_core.specs.declared.stage.SetStage.TheVariants.{Waiting, Open}
use Rattle.pac_core.specs.Moves.{StandsOpen, reclaimed_kept, reclaimed_sets}

-- as many of the first sets are reclaimed
abbrev pub upto : ℕ → List (Kept SetStage) → List (Kept SetStage)
upto zero sets = sets
upto (suc n) [] = []
upto (suc n) (s ∷ ss) = (s.0, reclaimed_kept s.1) ∷ upto n ss

pub upto_len : (n : ℕ) (sets : List (Kept SetStage)) → length (upto n sets) ≡ length sets
upto_len zero sets = refl
upto_len (suc n) [] = refl
upto_len (suc n) (s ∷ ss) = ap suc (upto_len n ss)

pub upto_get : (n : ℕ) (sets : List (Kept SetStage)) → slice_get (upto n sets) n ≡ slice_get sets n
upto_get zero sets = refl
upto_get (suc n) [] = refl
upto_get (suc n) (s ∷ ss) = upto_get n ss

pub upto_step : (n : ℕ) (sets : List (Kept SetStage)) (set : SetId) (kept : Option SetStage) → slice_get sets n ≡ Some (set, kept) → with_kept_at (upto n sets) n (reclaimed_kept kept) ≡ upto (suc n) sets
upto_step zero [] set kept e = let wrong : None ≡ Some (set, kept) = e in absurd cc
upto_step zero (s ∷ ss) set kept e = ap (λ (k : Option SetStage). (s.0, reclaimed_kept k) ∷ ss) (sym (ap (λ (x : Kept SetStage). x.1) (same_Some s (set, kept) e)))
upto_step (suc n) [] set kept e = let wrong : None ≡ Some (set, kept) = e in absurd cc
upto_step (suc n) (s ∷ ss) set kept e = ap (λ l. (s.0, reclaimed_kept s.1) ∷ l) (upto_step n ss set kept e)

pub upto_all : (n : ℕ) (sets : List (Kept SetStage)) → length sets ≤ n → upto n sets ≡ reclaimed_sets sets
upto_all zero [] le = refl
upto_all zero (s ∷ ss) le = absurd (omega (arith, le))
upto_all (suc n) [] le = refl
upto_all (suc n) (s ∷ ss) le = ap (λ l. (s.0, reclaimed_kept s.1) ∷ l) (upto_all n ss (omega (arith, le)))

-- where the same is kept nothing is changed
pub same_kept : (sets : List (Kept SetStage)) (at : ℕ) (set : SetId) (kept : Option SetStage) → slice_get sets at ≡ Some (set, kept) → with_kept_at sets at kept ≡ sets
same_kept [] at set kept e = refl
same_kept (s ∷ ss) zero set kept e = ap (λ (k : Option SetStage). (s.0, k) ∷ ss) (sym (ap (λ (x : Kept SetStage). x.1) (same_Some s (set, kept) e)))
same_kept (s ∷ ss) (suc at) set kept e = ap (λ l. s ∷ l) (same_kept ss at set kept e)

-- a set that isn't opened has none out
pub not_open : (p : Progress) (at : ℕ) (set : SetId) (kept : Option SetStage) → slice_get p.sets.sets at ≡ Some (set, kept) → (StandsOpen p at → ⊥) → reclaimed_kept kept ≡ kept
not_open p at set None there shut = refl
not_open p at set (Some (Waiting txns)) there shut = refl
not_open p at set (Some (Open opening)) there shut = absurd (shut (record { set = set; opening = opening; there = there }))
