-- What is written, and what is left.
use Rattle.std.proofs.Common.{◌≡◌, ◌++◌, drop, flat_map}
use Rattle.pac_print.specs.Canonical.{table_text, proc_text, canonical}
use Rattle.pac_print.proofs.tree.print.Given as goal

abbrev pub invariant-loop-table : goal.invariant-loop-table
invariant-loop-table l = l.out.items ++ flat_map table_text (drop l.table-index l.table-items) ≡ flat_map table_text l.tree.tables

abbrev pub invariant-loop-proc : goal.invariant-loop-proc
invariant-loop-proc l = l.out.items ++ flat_map proc_text (drop l.proc-index l.proc-items) ≡ canonical l.tree
