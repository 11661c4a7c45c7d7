-- An image of another share, or at a cell that has a later one, adds nothing; any other is kept.
use Rattle.std.proofs.Common.{◌∙◌, nat_eq, is_some, sym, ap}
use Rattle.std.specs.FinMap.{get, insert}
use Rattle.pac_value.specs.State.{Cell}
use Rattle.pac_value.proofs.CellLemmas.{cells_total, cells_antisymmetric}
use Rattle.pac_value.proofs.MapLemmas.{insert-by_test}
use Rattle.pac_tuple.specs.Shares.{share_number, LastRows}
use Rattle.pac_tuple.proofs.LastLemmas.{cell_eq, cells_tie, found-at}
use Rattle.pac_tuple.proofs.ShareLemmas.{add-outside, add-known, add-new}
use Rattle.pac_tuple.proofs.last.LastImages.add.Goals as goal

pub returns-then-not-has : goal.returns-then-not-has
returns-then-not-has c = add-outside c.args.share.now c.args.self.now c.args.image.now
    (ap (λ (x : Cell). nat_eq (share_number c.args.share.now.count x) c.args.share.now.number) (sym c.cell_of-cell.ensures) ∙ sym c.has.ensures ∙ c.if-not-has.true)

pub returns-then-contains_key : goal.returns-then-contains_key
returns-then-contains_key c = add-known c.args.share.now c.args.self.now c.args.image.now
    (ap is_some (ap (get c.args.self.now) (sym c.cell_of-cell.ensures) ∙ sym (found-at c.self.inside.rows.entries c.args.self.now c.cell_of-cell.result c.self.view_is)) ∙ sym c.contains_key.ensures ∙ c.if-contains_key.true)

pub returns : goal.returns
returns c = add-new c.args.share.now c.args.self.now _ c.args.image.now c.in_ok-row_left.field-0
    (ap (λ (x : Cell). nat_eq (share_number c.args.share.now.count x) c.args.share.now.number) (sym c.cell_of-cell.ensures) ∙ sym c.has.ensures ∙ c.if-not-has.false)
    (ap is_some (ap (get c.args.self.now) (sym c.cell_of-cell.ensures) ∙ sym (found-at c.self.inside.rows.entries c.args.self.now c.cell_of-cell.result c.self.view_is)) ∙ sym c.contains_key.ensures ∙ c.if-contains_key.false)
    c.in_ok-row_left.ensures
    (insert-by_test cells_total cell_eq cells_tie cells_antisymmetric c.self.inside.rows.entries c.insert.new.self.entries c.cell_of-cell.result c.in_ok-row_left.field-0 c.in_ok-insert.ensures.updates.0
    ∙ ap (λ (m : LastRows). insert m c.cell_of-cell.result c.in_ok-row_left.field-0) c.self.view_is
    ∙ ap (λ (x : Cell). insert c.args.self.now x c.in_ok-row_left.field-0) c.cell_of-cell.ensures)
