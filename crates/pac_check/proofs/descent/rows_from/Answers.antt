-- Each step reads one row, and it is taken after the others.
use Rattle.std.proofs.Common.{◌∙◌, ◌+◌, ◌++◌, ◌∷◌, [], Option, Some, refl, sym, subst}
use Rattle.std.proofs.lemmas.Result.{err_from_is_err_and}
use Rattle.pac_outside.specs.Disk.{IfKnown}
use Rattle.pac_value.specs.declared.values.Key.{Key}
use Rattle.pac_check.specs.Checkpoints.{IsRowAfter}
use Rattle.pac_check.specs.CheckpointReading.{next_row}
use Rattle.pac_check.specs.PieceStates.{HasFault, WasRead}
use Rattle.pac_check.proofs.RowsLemmas.{AreUpTo}
use Rattle.pac_check.proofs.LoadingLemmas.{RowsSoFar, took-none, took-on, up-to-on, rows-read-none, rows-read-on, rows-read-fail, rows-read-done}
use Rattle.pac_check.proofs.PieceLemmas.{stop_again}
use Rattle.pac_check.proofs.descent.rows_from.Goals as goal

pub loop-init : goal.loop-init
loop-init g c = record {
  same = refl;
  quiet = refl;
  tables = refl;
  read = ([], refl, took-none c.args.table.now c.args.number (g.T.Taker.holds c.args.taker.now), rows-read-none (g.D.Disk.known c.args.disk.now) c.args.table.now c.args.pieces.now c.args.count c.requires.of);
}

pub returns-in_err-key-clause-fault : goal.returns-in_err-key-clause-fault
returns-in_err-key-clause-fault g c = λ fault is.
    let p = err_from_is_err_and c.from_residual.result c.from_residual.ensures.1 in
    let here = stop_again c.in_err-key.field-0.0 fault (rw (p.1, p.2) at is) in
    let table = c.args.table.now in
    let fails = subst (λ k. IfKnown (λ h. HasFault h.now.seen c.loop.pieces fault (next_row table c.loop.before)) k) c.loop.invariant.same
    (subst (λ (before : Option Key). IfKnown (λ h. HasFault h.now.seen c.loop.pieces fault (next_row table before)) (g.D.Disk.known c.loop.disk)) c.as_ref.ensures.value (c.in_err-key.ensures.fault fault here)) in
    rows-read-fail (g.D.Disk.known c.args.disk.now) table c.args.pieces.now c.loop.pieces c.loop.invariant.read.0 c.args.count c.loop.counter c.loop.before fault c.loop-test.true c.loop.invariant.read.3 fails

pub loop-preserved : goal.loop-preserved
loop-preserved g c =
    let table = c.args.table.now in
    let key = c.in_ok-key.key in
    let row = c.in_ok-key.row in
    let so_far = c.loop.invariant.read in
    let rows = so_far.0 in
    let known = g.D.Disk.known c.args.disk.now in
    let next = c.keyed_row_from.new.pieces in
    let form = subst (λ (before : Option Key). IsRowAfter table before (key, row)) c.as_ref.ensures.value c.in_ok-key.ensures.row in
    let read = subst (λ k. IfKnown (λ h. WasRead h.now.seen c.loop.pieces next (key, row) (next_row table c.loop.before)) k) c.loop.invariant.same
    (subst (λ (before : Option Key). IfKnown (λ h. WasRead h.now.seen c.loop.pieces next (key, row) (next_row table before)) (g.D.Disk.known c.loop.disk)) c.as_ref.ensures.value c.in_ok-key.ensures.read) in
    record {
      same = c.keyed_row_from.ensures.same ∙ c.loop.invariant.same;
      quiet = c.in_ok-key.ensures.quiet (λ e. cc) ∙ c.loop.invariant.quiet;
      tables = c.in_ok-take.ensures.tables ∙ c.loop.invariant.tables;
      read = (
        rows ++ (key, row) ∷ [],
        subst (λ (k : Key). AreUpTo (Some k) (rows ++ (key, row) ∷ [])) (sym c.copied.ensures) (up-to-on table c.loop.before key row form rows so_far.1),
        took-on table c.loop.before key row form (g.T.Taker.holds c.args.taker.now) (g.T.Taker.holds c.loop.taker) (g.T.Taker.holds c.take.new.self) c.args.number rows so_far.1 so_far.2 c.in_ok-take.ensures.took,
        subst (λ (k : Key). RowsSoFar known table c.args.pieces.now next (rows ++ (key, row) ∷ []) c.args.count (c.loop.counter + 1) (Some k)) (sym c.copied.ensures)
            (rows-read-on table c.loop.before key row form known c.args.pieces.now c.loop.pieces next rows c.args.count c.loop.counter c.loop-test.true so_far.3 read),
      );
    }

pub returns-clause-read : goal.returns-clause-read
returns-clause-read g c =
    let so_far = c.loop.invariant.read in
    (so_far.0, so_far.2, rows-read-done (g.D.Disk.known c.args.disk.now) c.args.table.now c.args.pieces.now c.loop.pieces so_far.0 c.args.count c.loop.counter c.loop.before c.loop-test.false so_far.3)
