-- The bytes so far are those of the head and of the tables so far, which are written where they have room.
use Rattle.std.proofs.Common.{◌≡◌, ◌≤◌, ◌<◌, ◌+◌, ◌*◌, ◌++◌, ℕ, length, flat_map}
use Rattle.std.specs.List.{AllByRecursion}
use Rattle.pac_check.specs.declared.head.TheConstants.{MAX_HEAD_LEN}
use Rattle.pac_check.specs.declared.limits.TheConstants.{MAX_SLOT_LEN}
use Rattle.pac_check.specs.declared.text.TheConstants.{MAX_TABLE_LEN}
use Rattle.pac_check.specs.Checkpoints.{RowHasBytes, rows_bytes}
use Rattle.pac_check.specs.Saved.{table_rows, rows_of_tables}
use Rattle.pac_check.proofs.text.add_tables.Given as goal

abbrev pub invariant-loop-table : goal.invariant-loop-table
invariant-loop-table g l = record {
  exact : l.len ≡ l.head_len + length (flat_map rows_bytes (rows_of_tables (g.R.Rows.held l.rows) l.table));
  few : l.len ≤ MAX_HEAD_LEN + MAX_TABLE_LEN * l.table;
  bytes : l.len < MAX_SLOT_LEN → l.out.items ≡ l.fn.out.items ++ flat_map rows_bytes (rows_of_tables (g.R.Rows.held l.rows) l.table);
  form : l.len < MAX_SLOT_LEN → (table : ℕ) → table < l.table → AllByRecursion RowHasBytes (table_rows (g.R.Rows.held l.rows) table);
}
