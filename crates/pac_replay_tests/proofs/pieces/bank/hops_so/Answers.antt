-- No edge of the plan leads to the block, and no row stands.
use Rattle.std.proofs.Common.{sym, subst}
use Rattle.pac_value.specs.State.{Tables}
use Rattle.pac_ops.specs.Shapes.{RowsFit}
use Rattle.pac_piece.proofs.ArgumentWork.{none_fit}
use Rattle.pac_replay_tests.proofs.pieces.bank.hops_so.Goals as goal

pub arguments_run_on-requires-clause-entry : goal.arguments_run_on-requires-clause-entry
arguments_run_on-requires-clause-entry g c = c.is_entry.ensures.0 c.if-not-is_entry.false

pub arguments_run_on-requires-clause-rows : goal.arguments_run_on-requires-clause-rows
arguments_run_on-requires-clause-rows g c = let tables = c.plan-plan.result.now.tables in subst (λ (held : Tables). RowsFit tables held) (sym c.requires) (none_fit tables)
