-- The set is lifted, the piece waits again, and it is kept again.
use Rattle.std.proofs.Common.{[], Some, ap, ◌∙◌}
use Rattle.std.specs.Prelude.{slice_get}
use Rattle.pac_sched.specs.declared.state.PieceState.TheVariants as state
use Rattle.pac_sched.specs.Schedules.{with_state}
use Rattle.pac_core.specs.declared.progress.Progress.{Progress}
use Rattle.pac_core.specs.declared.stage.SetStage.TheVariants.{Open, Waiting}
use Rattle.pac_core.proofs.KeptAt.{get_changed}
use Rattle.pac_core.proofs.Moved.{moved_to, open_is}
use Rattle.pac_core.proofs.progress.Progress.put_back.Goals as goal

pub keep-requires : goal.keep-requires
keep-requires c = (
  c.requires.stands.set,
  Waiting [],
  ap (λ (p : Progress). slice_get p.sets.sets c.args.at) c.lift-open.ensures.now ∙ get_changed c.args.self.now.sets.sets c.args.at (c.requires.stands.set, Some (Open c.requires.stands.opening)) (Some (Waiting [])) c.requires.stands.there,
)

pub returns-clause-moved : goal.returns-clause-moved
returns-clause-moved c = λ set opening there.
    moved_to c.args.self.now c.lift-open.new.self c.args.at c.lift-open.ensures.now c.keep.new.self _ _ c.keep.ensures
    (open_is (λ sched. with_state sched c.args.piece state.Waiting) c.lift-open.result opening c.give_back.new.self c.give_back.ensures (c.lift-open.ensures.was set opening there))
