-- The operations of the program so far.
use Rattle.std.proofs.Common.{◌++◌, map}
use Rattle.std.specs.List.{range_with_len}
use Rattle.pac_plan.specs.Nodes.{Operation}
use Rattle.pac_report.specs.GroupTexts.{Hold, listed_members, first_nodes}
use Rattle.pac_report.proofs.blocks.push_program.Given as goal

abbrev pub invariant-loop-i : goal.invariant-loop-i
invariant-loop-i l = Hold l.texts.items (listed_members l.fn.cat l.fn.plan (first_nodes l.fn.plan l.fn.p ++ map (Operation l.fn.p) (range_with_len 0 l.i))) l.fn.plan.blocks
