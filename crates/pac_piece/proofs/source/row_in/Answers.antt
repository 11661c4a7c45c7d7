-- The first write at the cell says what stands there.
use Rattle.std.proofs.Common.{sym, ◌∙◌}
use Rattle.std.specs.FinMap.{empty, get-empty}
use Rattle.pac_value.specs.State.{Cell, cell_cmp}
use Rattle.pac_piece.proofs.WriteLookups.{first_at, get-found, get-none, none_at}
use Rattle.pac_piece.proofs.source.row_in.Goals as goal

pub returns-in-Some : goal.returns-in-Some
returns-in-Some c =
    let cell : Cell = (c.args.table, c.args.key.now) in
    c.as_ref.ensures.value ∙ sym (get-found empty cell c.args.rows.now c.in-Some.at c.index-rows-at.result (first_at cell c.args.rows.now c.in-Some.at (sym c.find.ensures ∙ c.in-Some.is)))

pub returns-in-None : goal.returns-in-None
returns-in-None c =
    let cell : Cell = (c.args.table, c.args.key.now) in
    sym (get-empty cell_cmp cell) ∙ sym (get-none empty cell c.args.rows.now (none_at cell c.args.rows.now (sym c.find.ensures ∙ c.in-None.is)))
