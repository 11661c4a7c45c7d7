-- What is kept tells it.
use Rattle.std.proofs.Common.{map, sym, ap, subst, ◌∙◌}
use Rattle.pac_core.specs.declared.loaded.LoadedBatch.{LoadedBatch}
use Rattle.pac_core.specs.Calls.{IsJobOf}
use Rattle.pac_core.specs.Replay.{Replay}
use Rattle.pac_core.proofs.replay.Core.job.Goals as goal

pub returns : goal.returns
returns g c =
    subst (λ (r : Replay). IsJobOf r c.in_ok-plan.plan c.self.inside.progress.first (g.R.Rows.tables c.in_ok-opening.opening) (g.R.Rows.held c.in_ok-opening.opening) c.listed-batches.result) c.self.view_is
    (record {
      parts_are = c.in_ok-plan.ensures ∙ c.plan.ensures ∙ c.get.ensures;
      first_is = λ k. c.self.inside.progress.first;
      tables_are = c.in_ok-opening.ensures.tables ∙ c.self.invariant.tables;
      held_is = c.in_ok-opening.ensures.rows;
      batches_are = c.listed-batches.ensures ∙ sym c.in_ok-batch_copies.ensures ∙ ap (map (λ (one : LoadedBatch). one.batch)) c.deref.ensures.value;
    })
