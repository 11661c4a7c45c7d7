-- What is written, and what is left.
use Rattle.std.proofs.Common.{◌≡◌, ◌++◌, drop}
use Rattle.pac_report.specs.Dump.{tables_text}
use Rattle.pac_report.proofs.tables.dump.Given as goal

abbrev pub invariant-loop-i : goal.invariant-loop-i
invariant-loop-i g l = l.out.items ++ tables_text (g.R.Rows.held l.rows) l.i (drop l.i l.cat.tables) ≡ tables_text (g.R.Rows.held l.rows) 0 l.cat.tables
