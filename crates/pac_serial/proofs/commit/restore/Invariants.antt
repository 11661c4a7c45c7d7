-- What is left to bring back leaves what all of it would have.
use Rattle.std.proofs.Common.{◌≡◌, drop}
use Rattle.pac_serial.specs.Commits.{AreThere, cells, restored}
use Rattle.pac_serial.proofs.commit.restore.Given as goal

abbrev pub invariant-loop-at : goal.invariant-loop-at
invariant-loop-at g l = record {
  rest : restored (g.R.Rows.held l.rows) (drop l.at l.fn.changes) ≡ restored (g.R.Rows.held l.fn.rows) l.fn.changes;
  same : drop l.at l.changes ≡ drop l.at l.fn.changes;
  cells : cells l.changes ≡ cells l.fn.changes;
  there : AreThere (g.R.Rows.held l.rows) (drop l.at l.fn.changes);
  tables : g.R.Rows.tables l.rows ≡ g.R.Rows.tables l.fn.rows;
}
