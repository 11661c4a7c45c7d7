-- What is left to take out leaves what all of it would have.
use Rattle.std.proofs.Common.{◌≡◌, ◌<◌}
use Rattle.std.specs.List.{All}
use Rattle.pac_tables.specs.Room.{without_cells}
use Rattle.pac_tables.proofs.writes.roll_back.Given as goal

abbrev pub invariant-loop-table : goal.invariant-loop-table
invariant-loop-table g l = record {
  rest : without_cells (g.R.Rows.held l.rows) l.cells.items ≡ without_cells (g.R.Rows.held l.fn.rows) l.fn.cells.items;
  within : All (λ cell. cell.0 < g.R.Rows.tables l.rows) l.cells.items;
  tables : g.R.Rows.tables l.rows ≡ g.R.Rows.tables l.fn.rows;
}

abbrev pub decreases-loop-table : goal.decreases-loop-table
decreases-loop-table g l = goal.left-loop-table g l
