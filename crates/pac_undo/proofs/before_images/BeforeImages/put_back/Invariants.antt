-- What is left, put back into the tables so far, makes what all images make.
use Rattle.std.proofs.Common.{◌≡◌, length}
use Rattle.pac_tables.specs.Written.{AreWithin, written}
use Rattle.pac_undo.specs.Images.{as_writes}
use Rattle.pac_undo.proofs.before_images.BeforeImages.put_back.Given as goal

abbrev pub invariant-loop-cell : goal.invariant-loop-cell
invariant-loop-cell g l = record {
  rest : written (g.R.Rows.held l.rows) (as_writes l.left) ≡ written (g.R.Rows.held l.fn.rows) l.fn.self;
  within : AreWithin (g.R.Rows.tables l.rows) (as_writes l.left);
  tables : g.R.Rows.tables l.rows ≡ g.R.Rows.tables l.fn.rows;
}

abbrev pub decreases-loop-cell : goal.decreases-loop-cell
decreases-loop-cell g l = length l.left
