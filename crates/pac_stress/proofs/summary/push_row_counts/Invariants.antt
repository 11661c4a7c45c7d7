-- What is written, and what is left.
use Rattle.std.proofs.Common.{◌≡◌, ◌++◌, drop}
use Rattle.pac_stress.specs.Summary.{row_counts}
use Rattle.pac_stress.proofs.summary.push_row_counts.Given as goal

abbrev pub invariant-loop-i : goal.invariant-loop-i
invariant-loop-i g l = l.out.items ++ row_counts (g.R.Rows.held l.rows) l.i (drop l.i l.cat.tables) ≡ l.fn.out.items ++ row_counts (g.R.Rows.held l.rows) 0 l.cat.tables
