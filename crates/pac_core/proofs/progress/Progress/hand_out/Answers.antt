-- The set is lifted, a piece is taken, and it is kept again.
use Rattle.std.proofs.Common.{[], Some, ap, ◌∙◌}
use Rattle.std.specs.Prelude.{slice_get}
use Rattle.pac_sched.specs.Schedules.{after_take}
use Rattle.pac_core.specs.declared.progress.Progress.{Progress}
use Rattle.pac_core.specs.declared.stage.SetStage.TheVariants.{Open, Waiting}
use Rattle.pac_core.proofs.KeptAt.{get_changed}
use Rattle.pac_core.proofs.Moved.{moved_to, open_is}
use Rattle.pac_core.proofs.progress.Progress.hand_out.Goals as goal

pub keep-requires : goal.keep-requires
keep-requires c = (
  c.requires.set,
  Waiting [],
  ap (λ (p : Progress). slice_get p.sets.sets c.args.at) c.lift-open.ensures.now ∙ get_changed c.args.self.now.sets.sets c.args.at (c.requires.set, Some (Open c.requires.opening)) (Some (Waiting [])) c.requires.there,
)

pub returns-clause-moved : goal.returns-clause-moved
returns-clause-moved c = λ set opening there.
    moved_to c.args.self.now c.lift-open.new.self c.args.at c.lift-open.ensures.now c.keep.new.self _ _ c.keep.ensures
    (open_is after_take c.lift-open.result opening c.take.new.self c.take.ensures.after (c.lift-open.ensures.was set opening there))
