-- The rows of the first changes are put.
use Rattle.std.proofs.Common.{◌≡◌, take}
use Rattle.pac_serial.specs.Commits.{with_puts}
use Rattle.pac_serial.proofs.CommitLemmas.{partly}
use Rattle.pac_serial.proofs.commit.put_rows.Given as goal

abbrev pub invariant-loop-at : goal.invariant-loop-at
invariant-loop-at g l = record {
  rows : g.R.Rows.held l.rows ≡ with_puts (g.R.Rows.held l.fn.rows) (take l.at l.fn.changes);
  changes : l.changes ≡ partly (g.R.Rows.held l.fn.rows) l.at l.fn.changes;
  tables : g.R.Rows.tables l.rows ≡ g.R.Rows.tables l.fn.rows;
}
