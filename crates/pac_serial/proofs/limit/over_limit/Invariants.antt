-- None of the first tables is over the limit.
use Rattle.std.proofs.Common.{◌≡◌, None}
use Rattle.pac_types.specs.Execution.{first_over}
use Rattle.pac_serial.specs.WriteSets.{as_changed}
use Rattle.pac_serial.proofs.limit.over_limit.Given as goal

abbrev pub invariant-loop-table : goal.invariant-loop-table
invariant-loop-table g l = first_over l.limit l.table (as_changed (g.R.Rows.held l.rows) l.write_set) ≡ None
