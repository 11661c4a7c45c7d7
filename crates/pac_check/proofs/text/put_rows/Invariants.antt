-- What is written so far is the number and the rows so far.
use Rattle.std.proofs.Common.{◌≡◌, ◌++◌, length, take, flat_map}
use Rattle.std.specs.Int.{w64, to_le_bytes}
use Rattle.std.specs.List.{AllByRecursion}
use Rattle.pac_check.specs.Checkpoints.{RowHasBytes, keyed_bytes}
use Rattle.pac_check.specs.Saved.{table_rows}
use Rattle.pac_check.proofs.text.put_rows.Given as goal

abbrev pub invariant-loop-entry : goal.invariant-loop-entry
invariant-loop-entry g l = record {
  bytes : l.out.items ≡ (l.fn.out.items ++ to_le_bytes w64 (length (table_rows (g.R.Rows.held l.rows) l.table))) ++ flat_map keyed_bytes (take l.entry-index (table_rows (g.R.Rows.held l.rows) l.table));
  form : AllByRecursion RowHasBytes (take l.entry-index (table_rows (g.R.Rows.held l.rows) l.table));
}
