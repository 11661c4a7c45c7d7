-- A core none of whose pieces is out any more.
use Rattle.std.proofs.Common.{◌≡◌, ◌≤◌, ℕ, Some, sym, ap, subst, ◌∙◌, arith}
use Rattle.std.specs.Prelude.{slice_get}
use Rattle.pac_plan.specs.Pieces.{Present}
use Rattle.pac_sched.specs.Schedules.{IsInOrder, reclaimed}
use Rattle.pac_sets.specs.declared.set_id.SetId.{SetId}
use Rattle.pac_undo.specs.Undo.{Undoable}
use Rattle.pac_commute.specs.Loads.{Job}
use Rattle.pac_core.specs.declared.progress.Progress.{Progress}
use Rattle.pac_core.specs.declared.stage.OpenSet.{OpenSet}
use Rattle.pac_core.specs.declared.stage.SetStage.TheVariants.{Open}
use Rattle.pac_core.specs.Links.{IsCore, KeepsProgress, core_of, job_of}
use Rattle.pac_core.specs.Moves.{reclaimed_sets}
use Rattle.pac_core.specs.Replay.{present_of, with_none_out}
use Rattle.pac_core.proofs.Ready.{set_at}
use Rattle.pac_core.proofs.Reclaimed.{reclaimed_keeps, reclaimed_now, reclaimed_present}
use Rattle.pac_core.proofs.ReclaimOrder.{reclaimed_order}

-- its pieces were in order
orders : (job : Job) (p : Progress) → KeepsProgress job p → (j : ℕ) (set : SetId) (opening : OpenSet) → slice_get p.sets.sets j ≡ Some (set, Some (Open opening)) → IsInOrder (reclaimed opening.sched)
orders job p keeps j set opening there =
    let at = set_at job p keeps j set (Some (Open opening)) there in
    reclaimed_order opening.sched (keeps.stages j set (Open opening) at.batch there at.batch_there).2.order

module _ (p : Progress) (u : Undoable) (core : IsCore p u) (anew : p.recent ≡ 0) where
  abbrev back : Progress
  back = record p { sets = record p.sets { sets = reclaimed_sets p.sets.sets } }

  back_is : core_of back u ≡ with_none_out (core_of p u)
  back_is = reclaimed_now (job_of p u) p core.progress (orders (job_of p u) p core.progress)

  back_core : IsCore back u
  back_core = record {
    progress = reclaimed_keeps (job_of p u) p core.progress (orders (job_of p u) p core.progress);
    tables = core.tables;
    rows = core.rows ∙ ap (λ (s : Present). s.tables) (reclaimed_present (job_of p u) p core.progress (orders (job_of p u) p core.progress) ∙ ap present_of (sym back_is));
    seen = λ q j kept ready there. subst (λ n. n ≤ j) (sym anew) (omega arith);
  }

  module _ (new : Progress) (is : new ≡ record p { sets = record p.sets { sets = reclaimed_sets p.sets.sets } }) where
    pub reclaimed_core : IsCore new u
    reclaimed_core = subst (λ (q : Progress). IsCore q u) (sym is) back_core

    pub reclaimed_is : core_of new u ≡ with_none_out (core_of p u)
    reclaimed_is = ap (λ (q : Progress). core_of q u) is ∙ back_is
