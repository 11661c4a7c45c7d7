-- The tables so far.
use Rattle.std.proofs.Common.{map}
use Rattle.std.specs.List.{range_with_len}
use Rattle.pac_plan.specs.Nodes.{VirtualWrite}
use Rattle.pac_report.specs.GroupTexts.{Hold, listed_members}
use Rattle.pac_report.proofs.blocks.table_texts.Given as goal

abbrev pub invariant-loop-t : goal.invariant-loop-t
invariant-loop-t l = Hold l.texts.items (listed_members l.fn.cat l.fn.plan (map VirtualWrite (range_with_len 0 l.t))) l.fn.plan.blocks
