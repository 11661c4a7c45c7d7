-- By the place of the piece that is out, and what is kept for it.
use Rattle.std.proofs.Common.{sym, subst, ◌∙◌, true≢false}
use Rattle.pac_sched.specs.declared.state.PieceState.TheVariants as state
use Rattle.pac_commute.specs.Machine.{access_at}
use Rattle.pac_core.specs.Cells.{AreCellsOf, AreOf}
use Rattle.pac_core.specs.Links.{core_of, job_of}
use Rattle.pac_core.specs.Replay.{machine_of}
use Rattle.pac_core.specs.Takes.{IsWorkOver}
use Rattle.pac_core.proofs.EventFacts.{block_inside, cells_within, fits, of_own, own_of}
use Rattle.pac_core.proofs.OutPlaces.{if_none}
use Rattle.pac_core.proofs.PlacedPieces.{cells_are}
use Rattle.pac_core.proofs.PlacedTxns.{as_placed}
use Rattle.pac_core.proofs.events.own_place.Goals as goal

pub place_of_out-requires : goal.place_of_out-requires
place_of_out-requires g c = record { job = job_of c.args.progress.now c.args.rows.now; keeps = c.requires.progress }

pub cells_at-requires-clause-kept : goal.cells_at-requires-clause-kept
cells_at-requires-clause-kept g c = record { job = job_of c.args.progress.now c.args.rows.now; keeps = c.requires.progress }

pub cells_at-requires-clause-place : goal.cells_at-requires-clause-place
cells_at-requires-clause-place g c = (state.Out, c.in_ok-place.ensures.found)

pub txn_at-txn-requires : goal.txn_at-txn-requires
txn_at-txn-requires g c = as_placed c.in_ok-place.ensures.found

pub values_at-kept-requires-clause-place : goal.values_at-kept-requires-clause-place
values_at-kept-requires-clause-place g c = as_placed c.in_ok-place.ensures.found

pub is_work_of-requires-clause-fits : goal.is_work_of-requires-clause-fits
is_work_of-requires-clause-fits g c = fits c.args.progress.now c.args.rows.now c.requires c.in_ok-place.place c.args.work.now.piece (as_placed c.in_ok-place.ensures.found) c.txn_at-txn.result.now c.txn_at-txn.ensures

pub is_work_of-requires-clause-block : goal.is_work_of-requires-clause-block
is_work_of-requires-clause-block g c = block_inside c.args.progress.now c.args.rows.now c.requires c.in_ok-place.place c.args.work.now.piece (as_placed c.in_ok-place.ensures.found) c.txn_at-txn.result.now c.txn_at-txn.ensures

pub is_work_of-requires-clause-cells : goal.is_work_of-requires-clause-cells
is_work_of-requires-clause-cells g c =
    let p = c.args.progress.now in
    let u = c.args.rows.now in
    let access = access_at (job_of p u) (machine_of (core_of p u)) c.args.work.now.piece in
    let named : AreCellsOf access c.in-Keys.cells.items = subst (AreOf access) c.in-Keys.is (cells_are (job_of p u) p c.requires.progress c.in_ok-place.place c.args.work.now.piece state.Out c.in_ok-place.ensures.found c.cells_at.result.now c.cells_at.ensures) in
    cells_within p u c.requires c.in_ok-place.place c.args.work.now.piece (as_placed c.in_ok-place.ensures.found) c.txn_at-txn.result.now c.txn_at-txn.ensures
    c.as_slice.result.now (subst (AreCellsOf access) (sym c.as_slice.ensures.value) named) _ (sym c.rows.ensures.tables)

pub returns-then-is_work_of-clause-own : goal.returns-then-is_work_of-clause-own
returns-then-is_work_of-clause-own g c =
    let p = c.args.progress.now in
    let u = c.args.rows.now in
    let access = access_at (job_of p u) (machine_of (core_of p u)) c.args.work.now.piece in
    let named : AreCellsOf access c.in-Keys.cells.items = subst (AreOf access) c.in-Keys.is (cells_are (job_of p u) p c.requires.progress c.in_ok-place.place c.args.work.now.piece state.Out c.in_ok-place.ensures.found c.cells_at.result.now c.cells_at.ensures) in
    own_of p u c.requires c.in_ok-place.place c.args.work.now c.in_ok-place.ensures.found c.txn_at-txn.result.now c.txn_at-txn.ensures c.values_at-kept.result.now c.values_at-kept.ensures
    c.as_slice.result.now (subst (AreCellsOf access) (sym c.as_slice.ensures.value) named)
    (subst (λ t. IsWorkOver p.pieces c.args.work.now.piece c.txn_at-txn.result.now c.values_at-kept.result.now c.as_slice.result.now t c.args.work.now) c.rows.ensures.rows (c.is_work_of.ensures.0 c.if-is_work_of.true))

pub returns-else-is_work_of-clause-foreign : goal.returns-else-is_work_of-clause-foreign
returns-else-is_work_of-clause-foreign g c = λ own.
    let p = c.args.progress.now in
    let u = c.args.rows.now in
    let access = access_at (job_of p u) (machine_of (core_of p u)) c.args.work.now.piece in
    let named : AreCellsOf access c.in-Keys.cells.items = subst (AreOf access) c.in-Keys.is (cells_are (job_of p u) p c.requires.progress c.in_ok-place.place c.args.work.now.piece state.Out c.in_ok-place.ensures.found c.cells_at.result.now c.cells_at.ensures) in
    let over = of_own p u c.requires c.in_ok-place.place c.args.work.now c.in_ok-place.ensures.found c.txn_at-txn.result.now c.txn_at-txn.ensures c.values_at-kept.result.now c.values_at-kept.ensures
    c.as_slice.result.now (subst (AreCellsOf access) (sym c.as_slice.ensures.value) named) own in
    true≢false (sym (c.is_work_of.ensures.1 (subst (λ t. IsWorkOver p.pieces c.args.work.now.piece c.txn_at-txn.result.now c.values_at-kept.result.now c.as_slice.result.now t c.args.work.now) (sym c.rows.ensures.rows) over)) ∙ c.if-is_work_of.false)

pub returns-in-Whole-clause-foreign : goal.returns-in-Whole-clause-foreign
returns-in-Whole-clause-foreign g c = λ own.
    let p = c.args.progress.now in
    let u = c.args.rows.now in
    let access = access_at (job_of p u) (machine_of (core_of p u)) c.args.work.now.piece in
    own.1.named.keys (subst (AreOf access) c.in-Whole.is (cells_are (job_of p u) p c.requires.progress c.in_ok-place.place c.args.work.now.piece state.Out c.in_ok-place.ensures.found c.cells_at.result.now c.cells_at.ensures))

pub returns-in_err-place-clause-foreign : goal.returns-in_err-place-clause-foreign
returns-in_err-place-clause-foreign g c = if_none c.from_residual.result _ (λ own.
    true≢false (sym own.0 ∙ c.in_err-place.ensures.none (job_of c.args.progress.now c.args.rows.now) c.requires.progress))
