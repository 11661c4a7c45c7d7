-- Each piece is finished: what stands is what executing the transactions one after another makes.
use Rattle.std.proofs.Common.{length, sym, ap, subst, ◌∙◌}
use Rattle.pac_value.specs.State.{Tables}
use Rattle.pac_ops.specs.Shapes.{RowsFit}
use Rattle.pac_core.specs.Calls.{IsReplayDone, IsReplayOutcome}
use Rattle.pac_core.specs.Links.{core_of}
use Rattle.pac_core.specs.Replay.{Replay}
use Rattle.pac_core.proofs.CoreLoads.{outcome_fits, outcome_is}
use Rattle.pac_core.proofs.replay.Core.outcome.Goals as goal

pub returns-clause-replayed : goal.returns-clause-replayed
returns-clause-replayed g c =
    let p = c.self.inside.progress in
    subst (λ (r : Replay). IsReplayOutcome r (g.R.Rows.held c.into_rows.result) p.note) c.self.view_is
    (subst (λ (t : Tables). IsReplayOutcome (core_of p c.self.inside.rows) t p.note) (sym c.into_rows.ensures.rows)
    (outcome_is p c.self.inside.rows c.self.invariant (subst IsReplayDone (sym c.self.view_is) c.requires)))

pub returns-clause-tables : goal.returns-clause-tables
returns-clause-tables g c = c.into_rows.ensures.tables ∙ c.self.invariant.tables ∙ ap (λ (r : Replay). length r.job.parts.tables) c.self.view_is

pub returns-clause-fit : goal.returns-clause-fit
returns-clause-fit g c =
    let p = c.self.inside.progress in
    let u = c.self.inside.rows in
    subst (λ (r : Replay). RowsFit r.job.parts.tables (g.R.Rows.held c.into_rows.result)) c.self.view_is
    (subst (λ (t : Tables). RowsFit (core_of p u).job.parts.tables t) (sym c.into_rows.ensures.rows) (outcome_fits p u c.self.invariant))
