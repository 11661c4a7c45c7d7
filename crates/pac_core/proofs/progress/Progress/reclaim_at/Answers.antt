-- An open set is lifted, reclaimed and kept again; another has none out.
use Rattle.std.proofs.Common.{◌≡◌, [], Option, Some, sym, ap, ◌∙◌, true≢false}
use Rattle.std.specs.Prelude.{slice_get}
use Rattle.std.proofs.lemmas.Option.{same_Some}
use Rattle.pac_sched.specs.Schedules.{reclaimed}
use Rattle.pac_sets.specs.Sets.{Kept, with_kept_at}
use Rattle.pac_core.specs.declared.progress.Progress.{Progress}
use Rattle.pac_core.specs.declared.stage.SetStage.{SetStage}
use Rattle.pac_core.specs.declared.stage.SetStage.TheVariants.{Open, Waiting}
use Rattle.pac_core.specs.Moves.{reclaimed_kept}
use Rattle.pac_core.proofs.KeptAt.{get_changed}
use Rattle.pac_core.proofs.Moved.{moved_to, open_is}
use Rattle.pac_core.proofs.ReclaimSteps.{not_open, same_kept}
use Rattle.pac_core.proofs.progress.Progress.reclaim_at.Goals as goal

pub keep-requires : goal.keep-requires
keep-requires c =
    let is = c.is_open.ensures.0 c.if-is_open.true in
    (is.set, Waiting [], ap (λ (p : Progress). slice_get p.sets.sets c.args.at) c.lift-open.ensures.now ∙ get_changed c.args.self.now.sets.sets c.args.at (is.set, Some (Open is.opening)) (Some (Waiting [])) is.there)

pub returns-then-is_open : goal.returns-then-is_open
returns-then-is_open c = λ set kept there.
    let p = c.args.self.now in
    let is = c.is_open.ensures.0 c.if-is_open.true in
    let same : Some (Open is.opening) ≡ kept = ap (λ (x : Kept SetStage). x.1) (same_Some _ _ (sym is.there ∙ there)) in
    moved_to p c.lift-open.new.self c.args.at c.lift-open.ensures.now c.keep.new.self _ _ c.keep.ensures
    (open_is reclaimed c.lift-open.result is.opening c.reclaim.new.self c.reclaim.ensures (c.lift-open.ensures.was is.set is.opening is.there))
    ∙ ap (λ (k : Option SetStage). record p { sets = record p.sets { sets = with_kept_at p.sets.sets c.args.at (reclaimed_kept k) } }) same

pub returns-else-is_open : goal.returns-else-is_open
returns-else-is_open c = λ set kept there.
    let p = c.args.self.now in
    let still = not_open p c.args.at set kept there (λ stands. true≢false (sym (c.is_open.ensures.1 stands) ∙ c.if-is_open.false)) in
    λ k. record p { sets = record p.sets { sets = (sym (ap (with_kept_at p.sets.sets c.args.at) still ∙ same_kept p.sets.sets c.args.at set kept there)) k } }
