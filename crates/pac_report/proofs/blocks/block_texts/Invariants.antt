-- The tables, and the operations of the programs so far.
use Rattle.pac_report.specs.GroupTexts.{Hold, listed_members, first_nodes}
use Rattle.pac_report.proofs.blocks.block_texts.Given as goal

abbrev pub invariant-loop-p : goal.invariant-loop-p
invariant-loop-p l = Hold l.texts.items (listed_members l.fn.cat l.fn.plan (first_nodes l.fn.plan l.p)) l.fn.plan.blocks
