-- What is written, and what is left.
use Rattle.std.proofs.Common.{◌≡◌, ◌++◌, drop, flat_map}
use Rattle.pac_report.specs.Dump.{table_dump}
use Rattle.pac_report.proofs.DumpLemmas.{line}
use Rattle.pac_report.proofs.tables.push_table.Given as goal

abbrev pub invariant-loop-entry : goal.invariant-loop-entry
invariant-loop-entry g l = l.out.items ++ flat_map (λ e. line e.0.now e.1.now) (drop l.entry-index l.entry-items) ≡ l.fn.out.items ++ table_dump (g.R.Rows.held l.rows) l.table l.fn.name
