-- The table of a read, a put or a delete is there.
use Rattle.std.proofs.Common.{◌<◌, refl, subst}
use Rattle.pac_ops.specs.declared.program.OpKind.{OpKind}
use Rattle.pac_piece.specs.Sources.{HasTable}
use Rattle.pac_piece.proofs.run_here.do_here.Goals as goal

pub read_here-requires-clause-there : goal.read_here-requires-clause-there
read_here-requires-clause-there g c = subst (λ (kind : OpKind). HasTable (λ t. t < g.R.Rows.tables c.args.ground.now.rows) kind) c.in-Read.is c.requires.there c.in-Read.table refl

pub put_here-requires-clause-there : goal.put_here-requires-clause-there
put_here-requires-clause-there g c = subst (λ (kind : OpKind). HasTable (λ t. t < g.R.Rows.tables c.args.ground.now.rows) kind) c.in-Put.is c.requires.there c.in-Put.table refl

pub delete_here-requires-clause-there : goal.delete_here-requires-clause-there
delete_here-requires-clause-there g c = subst (λ (kind : OpKind). HasTable (λ t. t < g.R.Rows.tables c.args.ground.now.rows) kind) c.in-Delete.is c.requires.there c.in-Delete.table refl
