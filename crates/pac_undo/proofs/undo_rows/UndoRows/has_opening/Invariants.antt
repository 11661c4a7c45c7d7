-- The tables so far are the same.
use Rattle.pac_undo.proofs.SameLemmas.{AreSameInEach}
use Rattle.pac_undo.proofs.undo_rows.UndoRows.has_opening.Given as goal

abbrev pub invariant-loop-table : goal.invariant-loop-table
invariant-loop-table g l = AreSameInEach (g.R.Rows.held l.other) (g.R.Rows.held l.self-inside.rows) l.self-inside.before l.table
