-- The first records are made, and what is left fits.
use Rattle.std.proofs.Common.{◌≡◌, ◌||◌, map, drop}
use Rattle.std.specs.FinMap.{contains_key, empty}
use Rattle.pac_value.specs.State.{Cell, cell_cmp}
use Rattle.pac_ops.specs.Shapes.{RecordsFit}
use Rattle.pac_ops.specs.Transactions.{with_changes}
use Rattle.pac_types.specs.Fits.{shape}
use Rattle.pac_serial.specs.declared.pending.Pending.{Pending}
use Rattle.pac_serial.specs.Writes.{is_among, image_cell}
use Rattle.pac_serial.specs.WriteSets.{as_changed}
use Rattle.pac_serial.specs.Transactions.{RunsOver}
use Rattle.pac_serial.proofs.execute.run_records.Given as goal

abbrev pub invariant-loop-change : goal.invariant-loop-change
invariant-loop-change g l = record {
  over : RunsOver l.tables (g.R.Rows.tables l.rows) (g.R.Rows.held l.rows) l.txn.write_set;
  fit : RecordsFit (map shape l.tables) (drop l.change-index l.changes);
  so_far : with_changes (as_changed (g.R.Rows.held l.rows) l.txn.write_set) (drop l.change-index l.changes) ≡ with_changes (g.R.Rows.held l.rows) l.changes;
  written : (q : Cell) → (is_among q (map image_cell (drop l.change-index l.changes)) || contains_key l.txn.write_set q) ≡ (is_among q (map image_cell l.changes) || contains_key {X = Pending} {R = cell_cmp} empty q);
}
