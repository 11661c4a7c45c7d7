-- The first transactions gave these tables, and what is left gives what all gives.
use Rattle.std.proofs.Common.{◌≡◌, ◌+◌, Ok, drop, take}
use Rattle.std.specs.List.{AllByRecursion}
use Rattle.pac_types.specs.Execution.{serial}
use Rattle.pac_types.specs.Fits.{FitsCatalogue, TxnFits}
use Rattle.pac_serial.proofs.serial.exec_all.Given as goal

abbrev pub invariant-loop-i : goal.invariant-loop-i
invariant-loop-i g l = record {
  fit : AllByRecursion (TxnFits l.cat) (drop l.i l.batch.txns);
  rows : FitsCatalogue l.cat (g.R.Rows.tables l.rows) (g.R.Rows.held l.rows);
  tables : g.R.Rows.tables l.rows ≡ g.R.Rows.tables l.fn.rows;
  so_far : serial l.cat.procs (l.batch.first + l.i) (drop l.i l.batch.txns) (g.R.Rows.held l.rows) ≡ serial l.cat.procs l.batch.first l.batch.txns (g.R.Rows.held l.fn.rows);
  done : serial l.cat.procs l.batch.first (take l.i l.batch.txns) (g.R.Rows.held l.fn.rows) ≡ Ok (g.R.Rows.held l.rows);
}
