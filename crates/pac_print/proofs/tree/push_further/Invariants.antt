-- What is written, and what is left.
use Rattle.std.proofs.Common.{◌≡◌, ◌++◌, drop, flat_map}
use Rattle.pac_print.specs.Canonical.{further_column_text}
use Rattle.pac_print.proofs.tree.push_further.Given as goal

abbrev pub invariant-loop-column : goal.invariant-loop-column
invariant-loop-column l = l.out.items ++ flat_map further_column_text (drop l.column-index l.columns) ≡ l.fn.out.items ++ flat_map further_column_text l.columns
