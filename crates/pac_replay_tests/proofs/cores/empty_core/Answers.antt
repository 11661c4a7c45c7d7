-- No rows fit any tables.
use Rattle.std.proofs.Common.{subst, sym}
use Rattle.pac_ops.specs.Shapes.{RowsFit}
use Rattle.pac_tables.specs.Joined.{Held}
use Rattle.pac_piece.proofs.ArgumentWork.{none_fit}
use Rattle.pac_replay_tests.proofs.cores.empty_core.Goals as goal

pub new-requires-in-Ok-new-clause-fit : goal.new-requires-in-Ok-new-clause-fit
new-requires-in-Ok-new-clause-fit c = subst (λ (held : Held). RowsFit c.in-Ok.copy.tables held.rows) (sym c.in-Ok-new.ensures) (none_fit c.in-Ok.copy.tables)
