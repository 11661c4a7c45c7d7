-- The image says what stood there, and where there is none what stands there now.
use Rattle.std.proofs.Common.{Option, ap, sym, ◌∙◌}
use Rattle.std.specs.Option.{unwrap_or}
use Rattle.std.specs.FinMap.{get}
use Rattle.pac_value.specs.State.{Cell, RowValues}
use Rattle.pac_undo.specs.Images.{before_image_at}
use Rattle.pac_undo.proofs.ImageLemmas.{get-written}
use Rattle.pac_undo.proofs.SameLemmas.{iff-same}
use Rattle.pac_undo.proofs.compare.is_same_at.Goals as goal

pub returns-in-Some : goal.returns-in-Some
returns-in-Some g c =
    let now = g.R.Rows.held c.args.rows.now in
    let cell : Cell = (c.args.table, c.args.key.now) in
    iff-same c.is_same_row.ensures c.get-found.ensures
    (c.as_ref.ensures.value ∙ ap (λ (o : Option (Option RowValues)). unwrap_or o (get now cell)) {y = before_image_at c.args.before.now cell} c.in-Some.ensures ∙ sym (get-written now c.args.before.now cell))

pub returns-in-None : goal.returns-in-None
returns-in-None g c =
    let now = g.R.Rows.held c.args.rows.now in
    let cell : Cell = (c.args.table, c.args.key.now) in
    iff-same c.is_same_row-in-None.ensures c.get-found.ensures
    (c.get-in-None.ensures ∙ ap (λ (o : Option (Option RowValues)). unwrap_or o (get now cell)) {y = before_image_at c.args.before.now cell} c.in-None.ensures ∙ sym (get-written now c.args.before.now cell))
