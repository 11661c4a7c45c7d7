-- What is left to delete leaves what all of it would have.
use Rattle.std.proofs.Common.{◌≡◌, drop}
use Rattle.pac_serial.specs.Commits.{with_deletes}
use Rattle.pac_serial.proofs.commit.delete_rows.Given as goal

abbrev pub invariant-loop-table : goal.invariant-loop-table
invariant-loop-table g l = record {
  rest : with_deletes (g.R.Rows.held l.rows) (drop l.table-index l.changes) ≡ with_deletes (g.R.Rows.held l.fn.rows) l.changes;
  tables : g.R.Rows.tables l.rows ≡ g.R.Rows.tables l.fn.rows;
}
