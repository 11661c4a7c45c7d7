-- The operations so far.
use Rattle.pac_graph.specs.Classes.{class_count}
use Rattle.pac_report.specs.GroupTexts.{Hold, first_slice_members}
use Rattle.pac_report.proofs.slices.slice_texts.Given as goal

abbrev pub invariant-loop-op : goal.invariant-loop-op
invariant-loop-op l = Hold l.texts.items (first_slice_members l.slice_of l.op) (class_count l.slice_of)
