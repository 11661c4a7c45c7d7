-- The tables so far can be saved.
use Rattle.std.proofs.Common.{◌<◌, ◌≤◌, ℕ, length}
use Rattle.pac_value.specs.State.{keys_of}
use Rattle.pac_check.specs.declared.limits.TheConstants.{MAX_SAVED_ROWS}
use Rattle.pac_check.proofs.savable.can_be_saved.Given as goal

abbrev pub invariant-loop-table : goal.invariant-loop-table
invariant-loop-table g l = (table : ℕ) → table < l.table → length (keys_of (g.R.Rows.held l.rows) table) ≤ MAX_SAVED_ROWS
