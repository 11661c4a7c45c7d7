-- The bytes so far are those of the number and of the rows so far.
use Rattle.std.proofs.Common.{◌≡◌, ◌≤◌, ◌+◌, ◌*◌, length, take, flat_map}
use Rattle.pac_check.specs.declared.text.TheConstants.{MAX_ROW_LEN}
use Rattle.pac_check.specs.Checkpoints.{keyed_bytes}
use Rattle.pac_check.specs.Saved.{table_rows}
use Rattle.pac_check.proofs.text.rows_len.Given as goal

abbrev pub invariant-loop-entry : goal.invariant-loop-entry
invariant-loop-entry g l = record {
  exact : l.len ≡ 8 + length (flat_map keyed_bytes (take l.entry-index (table_rows (g.R.Rows.held l.rows) l.table)));
  few : l.len ≤ 8 + MAX_ROW_LEN * l.entry-index;
}
