-- By the cells of the piece, and what is kept for it.
use Rattle.std.proofs.Common.{sym, subst}
use Rattle.pac_value.specs.State.{Tables}
use Rattle.pac_sched.specs.declared.state.PieceState.TheVariants as state
use Rattle.pac_commute.specs.Machine.{access_at}
use Rattle.pac_commute.proofs.Steps.{needs_finished}
use Rattle.pac_core.specs.Cells.{AreCellsOf, AreOf}
use Rattle.pac_core.specs.Links.{core_of, job_of}
use Rattle.pac_core.specs.Replay.{machine_of}
use Rattle.pac_core.specs.Takes.{IsWorkOver}
use Rattle.pac_core.proofs.EventFacts.{block_inside, cells_within, fits, given_work}
use Rattle.pac_core.proofs.PlacedPieces.{cells_are}
use Rattle.pac_core.proofs.PlacedTxns.{as_placed}
use Rattle.pac_core.proofs.events.given.Goals as goal

pub txn_at-txn-requires : goal.txn_at-txn-requires
txn_at-txn-requires g c = as_placed c.requires.place

pub values_at-kept-requires-clause-place : goal.values_at-kept-requires-clause-place
values_at-kept-requires-clause-place g c = as_placed c.requires.place

pub work_of-requires-clause-fits : goal.work_of-requires-clause-fits
work_of-requires-clause-fits g c = fits c.args.progress.now c.args.rows.now c.requires.core c.args.place c.args.piece (as_placed c.requires.place) c.txn_at-txn.result.now c.txn_at-txn.ensures

pub work_of-requires-clause-block : goal.work_of-requires-clause-block
work_of-requires-clause-block g c = block_inside c.args.progress.now c.args.rows.now c.requires.core c.args.place c.args.piece (as_placed c.requires.place) c.txn_at-txn.result.now c.txn_at-txn.ensures

pub work_of-requires-clause-cells : goal.work_of-requires-clause-cells
work_of-requires-clause-cells g c =
    let p = c.args.progress.now in
    let u = c.args.rows.now in
    let access = access_at (job_of p u) (machine_of (core_of p u)) c.args.piece in
    let named : AreCellsOf access c.in-Keys.cells.items = subst (AreOf access) c.in-Keys.is (cells_are (job_of p u) p c.requires.core.progress c.args.place c.args.piece state.Waiting c.requires.place c.cells_at.result.now c.cells_at.ensures) in
    cells_within p u c.requires.core c.args.place c.args.piece (as_placed c.requires.place) c.txn_at-txn.result.now c.txn_at-txn.ensures
    c.as_slice.result.now (subst (AreCellsOf access) (sym c.as_slice.ensures.value) named) _ (sym c.rows.ensures.tables)

pub returns-in_ok-work-in-Keys-clause-given : goal.returns-in_ok-work-in-Keys-clause-given
returns-in_ok-work-in-Keys-clause-given g c =
    let p = c.args.progress.now in
    let u = c.args.rows.now in
    let access = access_at (job_of p u) (machine_of (core_of p u)) c.args.piece in
    let named : AreCellsOf access c.in-Keys.cells.items = subst (AreOf access) c.in-Keys.is (cells_are (job_of p u) p c.requires.core.progress c.args.place c.args.piece state.Waiting c.requires.place c.cells_at.result.now c.cells_at.ensures) in
    given_work p u c.requires.core c.args.place c.args.piece (as_placed c.requires.place) c.txn_at-txn.result.now c.txn_at-txn.ensures c.values_at-kept.result.now c.values_at-kept.ensures
    c.as_slice.result.now (subst (AreCellsOf access) (sym c.as_slice.ensures.value) named) c.in_ok-work-in-Keys.work
    (subst (λ (t : Tables). IsWorkOver p.pieces c.args.piece c.txn_at-txn.result.now c.values_at-kept.result.now c.as_slice.result.now t c.in_ok-work-in-Keys.work) c.rows.ensures.rows c.in_ok-work-in-Keys.ensures)
    (needs_finished (job_of c.args.progress.now c.args.rows.now) c.requires.core.progress.is_plan (machine_of (core_of c.args.progress.now c.args.rows.now)) c.args.piece c.requires.ready.3)

pub returns-in-Whole-clause-whole : goal.returns-in-Whole-clause-whole
returns-in-Whole-clause-whole g c =
    let p = c.args.progress.now in
    let u = c.args.rows.now in
    subst (AreOf (access_at (job_of p u) (machine_of (core_of p u)) c.args.piece)) c.in-Whole.is
    (cells_are (job_of p u) p c.requires.core.progress c.args.place c.args.piece state.Waiting c.requires.place c.cells_at.result.now c.cells_at.ensures)
