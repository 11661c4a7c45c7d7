-- The tables are the same at the cells of the images so far.
use Rattle.std.proofs.Common.{◌≡◌, ◌<◌, ℕ, get_or}
use Rattle.std.specs.FinMap.{get}
use Rattle.pac_tables.specs.declared.writes.Write.{Write}
use Rattle.pac_tables.specs.Written.{cell_written, written}
use Rattle.pac_undo.proofs.compare.is_same_where_changed.Given as goal

abbrev pub invariant-loop-at : goal.invariant-loop-at
invariant-loop-at g l =
    (k : ℕ) (d : Write) → k < l.at → get (g.R.Rows.held l.other) (cell_written (get_or l.before k d)) ≡ get (written (g.R.Rows.held l.rows) l.before) (cell_written (get_or l.before k d))
