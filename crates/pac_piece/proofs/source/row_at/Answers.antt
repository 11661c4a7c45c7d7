-- The first write at the cell says what stands there, and the source where there is none.
use Rattle.std.proofs.Common.{sym, ◌∙◌}
use Rattle.pac_value.specs.State.{Cell}
use Rattle.pac_piece.proofs.WriteLookups.{first_at, get-found, get-none, none_at}
use Rattle.pac_piece.proofs.source.row_at.Goals as goal

pub returns-in-Some : goal.returns-in-Some
returns-in-Some g c =
    let cell : Cell = (c.args.table, c.args.key.now) in
    c.as_ref.ensures.value ∙ sym (get-found (g.S.RowSource.base c.args.source.now) cell c.args.writes.now c.in-Some.at c.index-writes-at.result (first_at cell c.args.writes.now c.in-Some.at (sym c.find.ensures ∙ c.in-Some.is)))

pub returns-in-None : goal.returns-in-None
returns-in-None g c =
    let cell : Cell = (c.args.table, c.args.key.now) in
    c.row.ensures ∙ sym (get-none (g.S.RowSource.base c.args.source.now) cell c.args.writes.now (none_at cell c.args.writes.now (sym c.find.ensures ∙ c.in-None.is)))
