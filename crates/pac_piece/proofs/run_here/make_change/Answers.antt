-- The table of the record is there.
use Rattle.std.proofs.Common.{◌<◌, refl, subst}
use Rattle.pac_ops.specs.declared.transaction.Change.{Change}
use Rattle.pac_ops.specs.Effects.{record_op}
use Rattle.pac_piece.specs.Sources.{HasTable}
use Rattle.pac_piece.proofs.run_here.make_change.Goals as goal

pub leave-requires-clause-there : goal.leave-requires-clause-there
leave-requires-clause-there g c = subst (λ (change : Change). HasTable (λ t. t < g.R.Rows.tables c.args.ground.now.rows) (record_op change).kind) c.in-Put.is c.requires.there c.in-Put.table refl

pub leave-requires-in-Delete-clause-there : goal.leave-requires-in-Delete-clause-there
leave-requires-in-Delete-clause-there g c = subst (λ (change : Change). HasTable (λ t. t < g.R.Rows.tables c.args.ground.now.rows) (record_op change).kind) c.in-Delete.is c.requires.there c.in-Delete.table refl
