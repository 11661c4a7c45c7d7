-- The copies so far are equal.
use Rattle.std.proofs.Common.{◌≡◌, take, length}
use Rattle.pac_core.specs.Cells.{copies_at}
use Rattle.pac_core.proofs.cells.are_copies.Given as goal

abbrev pub invariant-loop-i : goal.invariant-loop-i
invariant-loop-i g l = record {
  equal : length l.writes ≡ length l.cells;
  so_far : take l.i l.writes ≡ take l.i (copies_at (g.R.Rows.held l.rows) l.cells);
}
