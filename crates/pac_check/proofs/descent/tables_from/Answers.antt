-- Each step reads the rows of one table.
use Rattle.std.proofs.Common.{◌≡◌, ◌∙◌, ◌++◌, ◌∷◌, [], ℕ, length, refl, subst, arith}
use Rattle.std.proofs.lemmas.Result.{err_from_is_err_and}
use Rattle.pac_outside.specs.Disk.{IfKnown}
use Rattle.pac_bytes.proofs.Loops.{next_key}
use Rattle.pac_check.specs.CheckpointReading.{next_table}
use Rattle.pac_check.specs.PieceStates.{HasFault, WasRead}
use Rattle.pac_check.specs.Taking.{TookTables}
use Rattle.pac_check.proofs.LoadingLemmas.{at-place, tables-took-none, tables-took-on, tables-read-none, tables-read-on, tables-read-fail, tables-read-done}
use Rattle.pac_check.proofs.descent.tables_from.Goals as goal

pub loop-i-init : goal.loop-i-init
loop-i-init g c = record {
  same = refl;
  quiet = refl;
  tables = refl;
  read = ([], tables-took-none c.args.tables.now (g.T.Taker.holds c.args.taker.now), tables-read-none (g.D.Disk.known c.args.disk.now) c.args.tables.now c.args.pieces.now c.requires.of);
}

pub returns-in_err-table_from-clause-fault : goal.returns-in_err-table_from-clause-fault
returns-in_err-table_from-clause-fault g c = λ fault is.
    let p = err_from_is_err_and c.from_residual.result c.from_residual.ensures.1 in
    let here = rw (p.1, p.2) at is in
    let tables = c.args.tables.now in
    let next = rw (← c.index-tables-i.is) at (next_key tables c.loop-i.i c.index-tables-i.result c.loop-i-test.true) in
    let fails = subst (λ k. IfKnown (λ h. HasFault h.now.seen c.loop-i.pieces fault (next_table c.index-tables-i.result)) k) c.loop-i.invariant.same (c.in_err-table_from.ensures.fault fault here) in
    tables-read-fail (g.D.Disk.known c.args.disk.now) tables c.args.pieces.now c.loop-i.pieces c.loop-i.invariant.read.0 c.loop-i.i c.index-tables-i.result fault next c.loop-i.invariant.read.2 fails

pub loop-i-preserved : goal.loop-i-preserved
loop-i-preserved g c =
    let tables = c.args.tables.now in
    let table = c.index-tables-i.result in
    let i = c.loop-i.i in
    let so_far = c.loop-i.invariant.read in
    let known = g.D.Disk.known c.args.disk.now in
    let more = c.in_ok-table_from.ensures.read in
    let next = rw (← c.index-tables-i.is) at (next_key tables i table c.loop-i-test.true) in
    let read = subst (λ k. IfKnown (λ h. WasRead h.now.seen c.loop-i.pieces c.table_from.new.pieces more.0 (next_table table)) k) c.loop-i.invariant.same more.2 in
    record {
      same = c.table_from.ensures.same ∙ c.loop-i.invariant.same;
      quiet = c.in_ok-table_from.ensures.quiet (λ e. cc) ∙ c.loop-i.invariant.quiet;
      tables = c.table_from.ensures.tables ∙ c.loop-i.invariant.tables;
      read = (
        so_far.0 ++ more.0 ∷ [],
        tables-took-on tables i table more.0 so_far.0 (g.T.Taker.holds c.args.taker.now) (g.T.Taker.holds c.loop-i.taker) (g.T.Taker.holds c.table_from.new.taker) (at-place tables i table c.loop-i-test.true c.index-tables-i.is) so_far.1 more.1,
        tables-read-on known tables c.args.pieces.now c.loop-i.pieces c.table_from.new.pieces so_far.0 more.0 i table next so_far.2 read,
      );
    }

pub returns-clause-read : goal.returns-clause-read
returns-clause-read g c =
    let so_far = c.loop-i.invariant.read in
    let tables = c.args.tables.now in
    let end : c.loop-i.i ≡ length tables = omega (arith, c.loop-i-test.false, c.loop-i.auto.i-end) in (
      so_far.0,
      subst (λ (n : ℕ). TookTables (g.T.Taker.holds c.args.taker.now) (g.T.Taker.holds c.loop-i.taker) tables n so_far.0) end so_far.1,
      tables-read-done (g.D.Disk.known c.args.disk.now) tables c.args.pieces.now c.loop-i.pieces so_far.0 c.loop-i.i c.loop-i-test.false so_far.2,
    )
