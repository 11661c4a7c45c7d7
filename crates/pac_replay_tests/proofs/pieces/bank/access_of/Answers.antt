-- No edge of the plan leads to the block.
use Rattle.std.proofs.Common.{ℕ, subst}
use Rattle.pac_plan.specs.Analysis.{HasBlockEdge}
use Rattle.pac_replay_tests.proofs.pieces.bank.access_of.Goals as goal

pub has_arguments-requires-clause-entry : goal.has_arguments-requires-clause-entry
has_arguments-requires-clause-entry c = subst (λ parts. (from : ℕ) → HasBlockEdge parts from c.args.block → ⊥) c.plan-else-block-blocks.ensures (c.is_entry.ensures.0 c.if-not-is_entry.false)
