-- The rows of the tables so far were taken, and before what reading gives of the rest they are what it gives of all.
use Rattle.std.proofs.Common.{◌≡◌, List}
use Rattle.pac_check.specs.Checkpoints.{KeyedRow}
use Rattle.pac_check.specs.Taking.{TookTables}
use Rattle.pac_check.proofs.LoadingLemmas.{TablesSoFar}
use Rattle.pac_check.proofs.descent.tables_from.Given as goal

abbrev pub invariant-loop-i : goal.invariant-loop-i
invariant-loop-i g l = record {
  same : g.D.Disk.known l.disk ≡ g.D.Disk.known l.fn.disk;
  quiet : g.D.Disk.faults l.disk ≡ g.D.Disk.faults l.fn.disk;
  tables : g.T.Taker.tables l.taker ≡ g.T.Taker.tables l.fn.taker;
  read : (rows : List (List KeyedRow)) × TookTables (g.T.Taker.holds l.fn.taker) (g.T.Taker.holds l.taker) l.tables l.i rows × TablesSoFar (g.D.Disk.known l.fn.disk) l.tables l.fn.pieces l.pieces rows l.i;
}
