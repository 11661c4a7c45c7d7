-- What is left is of the batches that were loaded, and a core can be sent.
use Rattle.std.proofs.Common.{◌+◌, length, ap, subst, ◌∙◌}
use Rattle.std.specs.Prelude.{sum}
use denote.Param.Send.{sendable}
use Rattle.pac_ops.specs.Shapes.{RowsFit}
use Rattle.pac_commute.specs.Loads.{Job}
use Rattle.pac_core.proofs.Executions.{job_is, left_is, note_is, tables_are}
use Rattle.pac_core.proofs.Sent.{core_send, done_send, work_send}
use Rattle.pac_core.proofs.execution.execute.Goals as goal

pub replay-requires-send-M : goal.replay-requires-send-M
replay-requires-send-M g c κs within = let sent = c.type_bounds.send-R in search (sendable, core_send)

pub replay-requires-send-M-Work : goal.replay-requires-send-M-Work
replay-requires-send-M-Work g c κs within = search (sendable, work_send)

pub replay-requires-send-M-Done : goal.replay-requires-send-M-Done
replay-requires-send-M-Done g c κs within = search (sendable, done_send)

pub returns-clause-tables : goal.returns-clause-tables
returns-clause-tables g c =
    let job : Job = record { parts = c.args.plan; first = c.args.first; tables = g.R.Rows.held c.args.tables } in
    c.into_executed.ensures.tables ∙ ap (λ (j : Job). length j.parts.tables) (job_is job c.args.batches c.in_ok-core.core c.in_ok-core.ensures c.in_ok-replayed.replayed.machine c.in_ok-replayed.ensures.job)

pub returns-clause-fit : goal.returns-clause-fit
returns-clause-fit g c =
    let job : Job = record { parts = c.args.plan; first = c.args.first; tables = g.R.Rows.held c.args.tables } in
    subst (λ (j : Job). RowsFit j.parts.tables (g.R.Rows.held c.into_executed.result.tables))
    (job_is job c.args.batches c.in_ok-core.core c.in_ok-core.ensures c.in_ok-replayed.replayed.machine c.in_ok-replayed.ensures.job) c.into_executed.ensures.fit

pub returns-clause-held : goal.returns-clause-held
returns-clause-held g c =
    let job : Job = record { parts = c.args.plan; first = c.args.first; tables = g.R.Rows.held c.args.tables } in
    tables_are job c.args.batches c.in_ok-core.core c.in_ok-core.ensures c.in_ok-replayed.replayed.machine c.in_ok-replayed.ensures.job _ _ c.into_executed.ensures.outcome

pub returns-clause-note : goal.returns-clause-note
returns-clause-note g c =
    let job : Job = record { parts = c.args.plan; first = c.args.first; tables = g.R.Rows.held c.args.tables } in
    note_is job c.args.batches c.in_ok-core.core c.in_ok-core.ensures c.in_ok-replayed.replayed.machine c.in_ok-replayed.ensures.job _ _ c.into_executed.ensures.outcome

pub returns-clause-counted : goal.returns-clause-counted
returns-clause-counted g c =
    let job : Job = record { parts = c.args.plan; first = c.args.first; tables = g.R.Rows.held c.args.tables } in
    (λ i. sum (c.into_executed.ensures.counts.0 i) + c.into_executed.ensures.counts.1 i) ∙ c.in_ok-replayed.ensures.counted ∙ left_is job c.args.batches c.in_ok-core.core c.in_ok-core.ensures
