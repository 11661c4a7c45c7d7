-- The writes so far are ready, and what was made for them can be taken back.
use Rattle.std.proofs.Common.{◌≡◌, ◌<◌, ℕ, get_or}
use Rattle.std.specs.List.{All}
use Rattle.pac_tables.specs.declared.writes.Write.{Write}
use Rattle.pac_tables.specs.Written.{HasRow}
use Rattle.pac_tables.specs.Room.{Grows, without_cells}
use Rattle.pac_tables.proofs.writes.make_room.Given as goal

abbrev pub invariant-loop-write : goal.invariant-loop-write
invariant-loop-write g l = record {
  placed : (k : ℕ) (d : Write) → k < l.write-index → HasRow (g.R.Rows.held l.rows) (get_or l.writes k d);
  grows : Grows l.writes (g.R.Rows.held l.fn.rows) (g.R.Rows.held l.rows);
  back : without_cells (g.R.Rows.held l.rows) l.made.items ≡ g.R.Rows.held l.fn.rows;
  made : All (λ cell. cell.0 < g.R.Rows.tables l.rows) l.made.items;
  tables : g.R.Rows.tables l.rows ≡ g.R.Rows.tables l.fn.rows;
}
