-- The first transactions gave these tables and are listed, and what is left gives what all give.
use Rattle.std.proofs.Common.{◌≡◌, ◌≤◌, ◌+◌, ◌++◌, Ok, drop, take, length, map}
use Rattle.std.specs.List.{All, AllByRecursion}
use Rattle.pac_ops.specs.Shapes.{RecordsFit}
use Rattle.pac_types.specs.Execution.{serial}
use Rattle.pac_types.specs.Fits.{shape, FitsCatalogue, TxnFits}
use Rattle.pac_tuple.specs.AfterImages.{all_after_images}
use Rattle.pac_tuple.specs.Laying.{tables_laid}
use Rattle.pac_tuple.proofs.recording.images_of.Given as goal

abbrev pub invariant-loop-i : goal.invariant-loop-i
invariant-loop-i g l = record {
  fit : AllByRecursion (TxnFits l.cat) (drop l.i l.batch.txns);
  rows : FitsCatalogue l.cat (g.R.Rows.tables l.rows) (g.R.Rows.held l.rows);
  tables : g.R.Rows.tables l.rows ≡ g.R.Rows.tables l.fn.rows;
  so_far : serial l.cat.procs (l.batch.first + l.i) (drop l.i l.batch.txns) (g.R.Rows.held l.rows) ≡ serial l.cat.procs l.batch.first l.batch.txns (g.R.Rows.held l.fn.rows);
  done : serial l.cat.procs l.batch.first (take l.i l.batch.txns) (g.R.Rows.held l.fn.rows) ≡ Ok (g.R.Rows.held l.rows);
  len : l.images.len ≡ l.i;
  room : length l.batch.txns ≤ l.images.cap;
  images : l.images.items ++ all_after_images l.cat.procs (drop l.i l.batch.txns) (g.R.Rows.held l.rows) ≡ all_after_images l.cat.procs l.batch.txns (g.R.Rows.held l.fn.rows);
  laid : tables_laid (g.R.Rows.held l.fn.rows) l.images.items ≡ g.R.Rows.held l.rows;
  records : All (RecordsFit (map shape l.cat.tables)) l.images.items;
}
