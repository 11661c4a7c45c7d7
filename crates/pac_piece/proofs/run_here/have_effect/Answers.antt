-- The cell that is touched is in a table that is there.
use Rattle.pac_piece.proofs.HereLemmas.{cell_there}
use Rattle.std.proofs.Common.{◌<◌}
use Rattle.pac_piece.proofs.run_here.have_effect.Goals as goal

pub have-requires-clause-there : goal.have-requires-clause-there
have-requires-clause-there g c = cell_there (λ t. t < g.R.Rows.tables c.args.ground.now.rows) c.args.kind.now c.args.ground.now.frame.env c.in_ok-cell.cell c.in_ok-cell.ensures.0 c.requires.there
