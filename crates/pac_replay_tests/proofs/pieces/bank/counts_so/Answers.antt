-- No edge of the plan leads to the block.
use Rattle.pac_replay_tests.proofs.pieces.bank.counts_so.Goals as goal

pub arguments_run-requires-clause-entry : goal.arguments_run-requires-clause-entry
arguments_run-requires-clause-entry c = c.is_entry.ensures.0 c.if-not-is_entry.false
