-- What is left finds room, and leaves what all of it would have.
use Rattle.std.proofs.Common.{◌≡◌}
use Rattle.pac_tables.specs.Written.{written}
use Rattle.pac_piece.specs.InPlace.{HaveCellRoom}
use Rattle.pac_piece.proofs.ground.make_all.Given as goal

abbrev pub invariant-loop-write : goal.invariant-loop-write
invariant-loop-write g l = record {
  room : HaveCellRoom (g.R.Rows.tables l.rows) (g.R.Rows.held l.rows) l.writes.items;
  rest : written (g.R.Rows.held l.rows) l.writes.items ≡ written (g.R.Rows.held l.fn.rows) l.fn.writes.items;
  tables : g.R.Rows.tables l.rows ≡ g.R.Rows.tables l.fn.rows;
}

abbrev pub decreases-loop-write : goal.decreases-loop-write
decreases-loop-write g l = goal.left-loop-write g l
