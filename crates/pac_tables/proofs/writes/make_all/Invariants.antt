-- What is left is ready, and leaves what all of it would have.
use Rattle.std.proofs.Common.{◌≡◌}
use Rattle.std.specs.List.{AllByRecursion}
use Rattle.pac_tables.specs.Written.{IsOnce, written}
use Rattle.pac_tables.specs.Room.{IsReady}
use Rattle.pac_tables.proofs.writes.make_all.Given as goal

abbrev pub invariant-loop-write : goal.invariant-loop-write
invariant-loop-write g l = record {
  ready : AllByRecursion (IsReady (g.R.Rows.tables l.rows) (g.R.Rows.held l.rows)) l.writes.items;
  once : IsOnce l.writes.items;
  rest : written (g.R.Rows.held l.rows) l.writes.items ≡ written (g.R.Rows.held l.fn.rows) l.fn.writes.items;
  tables : g.R.Rows.tables l.rows ≡ g.R.Rows.tables l.fn.rows;
}

abbrev pub decreases-loop-write : goal.decreases-loop-write
decreases-loop-write g l = goal.left-loop-write g l
