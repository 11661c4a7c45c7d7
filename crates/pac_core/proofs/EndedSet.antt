-- Sets where one is opened, moved or finished: each stays in its block, and one that is open stays open.
use Rattle.std.proofs.Common.{◌≡◌, ℕ, ◌<◌, List, Option, Some, None, sym, ap, subst, ◌∙◌}
use Rattle.std.specs.Prelude.{slice_get, T}
use Rattle.std.specs.FinMap.{is_sorted}
use Rattle.pac_sets.specs.declared.set_id.SetId.{SetId}
use Rattle.pac_sets.specs.SetOrder.{set_cmp}
use Rattle.pac_sets.specs.Sets.{IsOpenSet, Kept, with_kept_at}
use Rattle.pac_core.proofs.KeptAt.{get_changed, ids_stay, passes_still}
use Rattle.pac_core.proofs.Lists.{at_map, map_at}

module _ {P : Type 0} (sets : List (Kept P)) (at : ℕ) (kept : Option P) where
  pub blocks_still : (blocks : ℕ) → ((j : ℕ) (set : Kept P) → slice_get sets j ≡ Some set → set.0.block < blocks) → (j : ℕ) (set : Kept P) → slice_get (with_kept_at sets at kept) j ≡ Some set → set.0.block < blocks
  blocks_still blocks inside j set there =
      let old = map_at (λ (s : Kept P). s.0) sets j set.0 (ap (λ l. slice_get l j) (sym (ids_stay sets at kept)) ∙ at_map (λ (s : Kept P). s.0) (with_kept_at sets at kept) j set there) in
      subst (λ (s : SetId). s.block < blocks) old.2 (inside j old.0 old.1)

-- something else is kept of an open set
pub open_still : {P : Type 0} (edges : List (ℕ × ℕ)) (sets : List (Kept P)) (at : ℕ) (new : P) → T (is_sorted set_cmp sets) → IsOpenSet edges sets at → IsOpenSet edges (with_kept_at sets at (Some new)) at
open_still {P} edges sets at new up opened = record {
  set = opened.set;
  kept = new;
  there = get_changed sets at (opened.set, Some opened.kept) (Some new) opened.there;
  passed = passes_still sets up at opened.set (Some opened.kept) (Some new) opened.there edges opened.set (λ other same none. absurd (not_none none)) opened.passed;
}
  where
    not_none : ◌≡◌ {A = Option P} (Some opened.kept) None → ⊥
    not_none e = cc
