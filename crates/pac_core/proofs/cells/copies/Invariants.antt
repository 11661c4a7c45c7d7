-- The copies so far, and those of the cells that are left, are all.
use Rattle.std.proofs.Common.{◌≡◌, ◌++◌, drop}
use Rattle.pac_core.specs.Cells.{copies_at}
use Rattle.pac_core.proofs.cells.copies.Given as goal

abbrev pub invariant-loop-cell : goal.invariant-loop-cell
invariant-loop-cell g l = record {
  all : l.copies.items ++ copies_at (g.R.Rows.held l.rows) (drop l.cell-index l.cells) ≡ copies_at (g.R.Rows.held l.rows) l.cells;
}
