-- What stood at the cell is kept after all others, and is put back first.
use Rattle.std.proofs.Common.{◌∷◌, [], ◌++◌, List, sym, ap, ◌∙◌, subst}
use Rattle.pac_tables.specs.declared.writes.Write.{Write}
use Rattle.pac_piece.specs.InPlace.{HaveCellRoom}
use Rattle.pac_piece.proofs.PlaceLemmas.{room-kept, before-kept}
use Rattle.pac_piece.proofs.ground.put.Goals as goal

pub returns-clause-before : goal.returns-clause-before
returns-clause-before g c =
    let t = g.R.Rows.held c.args.rows.now in
    let olds = c.args.olds.now.items in
    before-kept t (c.args.table, c.args.key.now) c.args.row (g.R.Rows.held c.exchange.new.rows) olds c.push_reserved.new.self.items c.in_ok-old.old
    c.in_ok-old.ensures.ok c.in_ok-old.ensures.old (c.push_reserved.ensures.items ∙ ap (λ (ws : List Write). ws ++ c.in_ok-old.old ∷ []) c.reserve.ensures.items)

pub returns-clause-room : goal.returns-clause-room
returns-clause-room g c = λ room.
    let t = g.R.Rows.held c.args.rows.now in
    let n = g.R.Rows.tables c.args.rows.now in
    let olds = c.args.olds.now.items in
    subst (λ m. HaveCellRoom m (g.R.Rows.held c.exchange.new.rows) c.push_reserved.new.self.items) (sym c.in_ok-old.ensures.tables)
    (room-kept t (c.args.table, c.args.key.now) c.args.row (g.R.Rows.held c.exchange.new.rows) olds c.push_reserved.new.self.items c.in_ok-old.old
    c.in_ok-old.ensures.ok c.in_ok-old.ensures.old (c.push_reserved.ensures.items ∙ ap (λ (ws : List Write). ws ++ c.in_ok-old.old ∷ []) c.reserve.ensures.items) n c.requires.there room)
