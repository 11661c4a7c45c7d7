-- By what is kept of it.
use Rattle.std.proofs.Common.{◌≡◌, true, Option, Some, None, sym, ap, ◌∙◌, true≢false}
use Rattle.std.specs.Prelude.{is_some}
use Rattle.pac_sets.specs.Sets.{Kept}
use Rattle.std.proofs.lemmas.Option.{same_Some}
use Rattle.pac_sets.proofs.SetLemmas.{kept_there}
use Rattle.pac_core.specs.declared.stage.SetStage.{SetStage}
use Rattle.pac_core.proofs.progress.Progress.is_unfinished.Goals as goal

some_stage : (o : Option SetStage) → is_some o ≡ true → (s : SetStage) × (o ≡ Some s)
some_stage None e = absurd (true≢false (sym e))
some_stage (Some s) e = (s, λ k. Some s)

pub returns-in-Some : goal.returns-in-Some
returns-in-Some c =
    let sets = c.args.self.now.sets.sets in
    let at = c.in-Some.at in
    let found = c.in-Some.ensures.found in
    let kept : found.0 ≡ c.get.result.now.1 = ap (λ (x : Kept SetStage). x.1) (same_Some _ _ (sym found.1 ∙ c.get.ensures)) in (
      (λ t. let s = some_stage found.0 (ap is_some kept ∙ sym c.is_some.ensures ∙ t) in (at, s.0, found.1 ∙ ap (λ (o : Option SetStage). Some (c.args.set, o)) s.1)),
      (λ u. c.is_some.ensures ∙ ap is_some (sym kept ∙ sym (kept_there sets c.requires at c.args.set found.0 found.1) ∙ kept_there sets c.requires u.0 c.args.set (Some u.1) u.2)),
    )

pub returns-in-None : goal.returns-in-None
returns-in-None c = ((λ t. absurd (true≢false (sym t))), (λ u. absurd (c.in-None.ensures.absent u.0 (Some u.1, u.2))))
