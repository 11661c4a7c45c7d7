-- What is left is of the batches that the feed gave, and a core can be sent.
use Rattle.std.proofs.Common.{◌+◌, length, map, refl, sym, ap, subst, ◌∙◌, arith}
use Rattle.std.specs.Prelude.{sum}
use denote.Param.Send.{sendable}
use Rattle.pac_ops.specs.declared.program.Program.{Program}
use Rattle.pac_ops.specs.Shapes.{RowsFit}
use Rattle.pac_commute.specs.Loads.{Job, next_in_job}
use Rattle.pac_core.specs.Calls.{with_batches}
use Rattle.pac_core.specs.Replay.{Replay, closed, opening_replay}
use Rattle.pac_core.proofs.Executions.{fed_counted, fed_same, job_is, note_is, tables_are}
use Rattle.pac_core.proofs.Sent.{core_send, done_send, work_send}
use Rattle.pac_core.proofs.execution.execute_feed.Goals as goal

pub replay_feed-requires-send-M : goal.replay_feed-requires-send-M
replay_feed-requires-send-M g c κs within = let sent = c.type_bounds.send-R in search (sendable, core_send)

pub replay_feed-requires-send-M-Work : goal.replay_feed-requires-send-M-Work
replay_feed-requires-send-M-Work g c κs within = search (sendable, work_send)

pub replay_feed-requires-send-M-Done : goal.replay_feed-requires-send-M-Done
replay_feed-requires-send-M-Done g c κs within = search (sendable, done_send)

pub replay_feed-requires-clause-open : goal.replay_feed-requires-clause-open
replay_feed-requires-clause-open g c κs within = ap (λ (r : Replay). r.is_closed) c.in_ok-core.ensures

pub replay_feed-requires-clause-next : goal.replay_feed-requires-clause-next
replay_feed-requires-clause-next g c κs within =
    let next = ap (λ (r : Replay). next_in_job r.job r.batches) c.in_ok-core.ensures in
    omega (arith, c.requires.next, next)

pub replay_feed-requires-clause-types : goal.replay_feed-requires-clause-types
replay_feed-requires-clause-types g c κs within = (
  c.requires.types.0 ∙ sym (ap (λ (r : Replay). map (λ (program : Program). program.params) r.job.parts.programs) c.in_ok-core.ensures),
  c.requires.types.1 ∙ sym (ap (λ (r : Replay). r.job.parts.tables) c.in_ok-core.ensures),
)

pub returns-clause-tables : goal.returns-clause-tables
returns-clause-tables g c =
    let job : Job = record { parts = c.args.plan; first = c.args.first; tables = g.R.Rows.held c.args.tables } in
    let fed = c.in_ok-replayed.ensures.job in
    let core : Replay = closed (with_batches (opening_replay job) fed.batches) in
    let last = c.in_ok-replayed.replayed.machine in
    let same = fed_same job fed.batches c.in_ok-core.core last c.in_ok-core.ensures fed.job_is in
    c.into_executed.ensures.tables ∙ ap (λ (j : Job). length j.parts.tables) (job_is job fed.batches core refl last same)

pub returns-clause-fit : goal.returns-clause-fit
returns-clause-fit g c =
    let job : Job = record { parts = c.args.plan; first = c.args.first; tables = g.R.Rows.held c.args.tables } in
    let fed = c.in_ok-replayed.ensures.job in
    let core : Replay = closed (with_batches (opening_replay job) fed.batches) in
    let last = c.in_ok-replayed.replayed.machine in
    let same = fed_same job fed.batches c.in_ok-core.core last c.in_ok-core.ensures fed.job_is in
    subst (λ (j : Job). RowsFit j.parts.tables (g.R.Rows.held c.into_executed.result.tables)) (job_is job fed.batches core refl last same) c.into_executed.ensures.fit

pub returns-clause-executed : goal.returns-clause-executed
returns-clause-executed g c =
    let job : Job = record { parts = c.args.plan; first = c.args.first; tables = g.R.Rows.held c.args.tables } in
    let fed = c.in_ok-replayed.ensures.job in
    let core : Replay = closed (with_batches (opening_replay job) fed.batches) in
    let last = c.in_ok-replayed.replayed.machine in
    let same = fed_same job fed.batches c.in_ok-core.core last c.in_ok-core.ensures fed.job_is in
    record {
      batches = fed.batches;
      given = fed.given;
      tables_are = tables_are job fed.batches core refl last same _ _ c.into_executed.ensures.outcome;
      note_is = note_is job fed.batches core refl last same _ _ c.into_executed.ensures.outcome;
      counted = (λ i. sum (c.into_executed.ensures.counts.0 i) + c.into_executed.ensures.counts.1 i) ∙ fed_counted job fed.batches c.in_ok-core.core last _ c.in_ok-core.ensures same c.in_ok-replayed.ensures.counted;
    }
