-- The rows so far were taken, and before what reading gives of the rest they are what it gives of all.
use Rattle.std.proofs.Common.{◌≡◌, List}
use Rattle.pac_check.specs.Checkpoints.{KeyedRow}
use Rattle.pac_check.specs.Taking.{TookRows}
use Rattle.pac_check.proofs.RowsLemmas.{AreUpTo}
use Rattle.pac_check.proofs.LoadingLemmas.{RowsSoFar}
use Rattle.pac_check.proofs.descent.rows_from.Given as goal

abbrev pub invariant-loop : goal.invariant-loop
invariant-loop g l = record {
  same : g.D.Disk.known l.disk ≡ g.D.Disk.known l.fn.disk;
  quiet : g.D.Disk.faults l.disk ≡ g.D.Disk.faults l.fn.disk;
  tables : g.T.Taker.tables l.taker ≡ g.T.Taker.tables l.fn.taker;
  read : (rows : List KeyedRow) × AreUpTo l.before rows × TookRows (g.T.Taker.holds l.fn.taker) (g.T.Taker.holds l.taker) l.table l.number rows × RowsSoFar (g.D.Disk.known l.fn.disk) l.table l.fn.pieces l.pieces rows l.count l.counter l.before;
}
