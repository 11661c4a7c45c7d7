-- A row stands at each cell of what is to stand at the end.
use Rattle.pac_piece.proofs.PlaceLemmas.{room-ends}
use Rattle.pac_piece.proofs.ground.settle.Goals as goal

pub make_all-requires : goal.make_all-requires
make_all-requires g c =
    let old = c.args.ground.now in
    room-ends (g.R.Rows.tables old.rows) (g.R.Rows.held old.rows) old.frame.writes.items c.requires.once c.requires.there c.requires.placed
