-- The count so far, and that of what is left.
use Rattle.std.proofs.Common.{◌≡◌, max, drop}
use Rattle.pac_graph.specs.Classes.{class_count}
use Rattle.pac_report.proofs.slices.slice_count.Given as goal

abbrev pub invariant-loop-slice : goal.invariant-loop-slice
invariant-loop-slice l = max l.count (class_count (drop l.slice-index l.slice_of)) ≡ class_count l.slice_of
