-- By what is kept of it.
use Rattle.std.proofs.Common.{◌≡◌, ℕ, List, Option, Some, refl, sym, ap, ◌∙◌, true≢false}
use Rattle.std.specs.Prelude.{slice_get}
use Rattle.std.proofs.lemmas.Option.{same_Some}
use Rattle.pac_sets.specs.declared.set_id.SetId.{SetId}
use Rattle.pac_sets.specs.Sets.{Kept}
use Rattle.pac_core.specs.declared.stage.SetStage.{SetStage}
use Rattle.pac_core.specs.declared.stage.SetStage.TheVariants.{Open, Waiting}
use Rattle.pac_core.proofs.progress.Progress.is_open.Goals as goal

-- what stands at the offset is what was read
read_is : (sets : List (Kept SetStage)) (at : ℕ) (read : Kept SetStage) (kept other : Option SetStage) (set : SetId) → slice_get sets at ≡ Some read → read.1 ≡ kept → slice_get sets at ≡ Some (set, other) → other ≡ kept
read_is sets at read kept other set here is there = ap (λ (x : Kept SetStage). x.1) (same_Some _ _ (sym there ∙ here)) ∙ is

pub returns-in-Open : goal.returns-in-Open
returns-in-Open c = (
  (λ t. record {
    set = c.get.result.now.0;
    opening = c.in-Open.field-0;
    there = c.get.ensures ∙ (λ k. Some (c.get.result.now.0, (c.in-Some.is ∙ ap (λ (s : SetStage). Some s) c.in-Open.is) k));
  }),
  (λ stands. refl),
)

pub returns-in-Waiting : goal.returns-in-Waiting
returns-in-Waiting c = (
  (λ t. absurd (true≢false (sym t))),
  (λ stands.
      let is : ◌≡◌ {A = Option SetStage} (Some (Open stands.opening)) (Some (Waiting c.in-Waiting.field-0)) = read_is c.args.self.now.sets.sets c.args.at c.get.result.now _ _ stands.set c.get.ensures (c.in-Some.is ∙ ap (λ (s : SetStage). Some s) c.in-Waiting.is) stands.there in
      absurd cc),
)
