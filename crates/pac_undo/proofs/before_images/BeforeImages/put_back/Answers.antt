-- The last image that is left is put back.
use Rattle.std.proofs.Common.{◌≡◌, ◌<◌, ◌++◌, ◌∷◌, [], Option, Some, ap, sym, subst, ◌∙◌}
use Rattle.std.proofs.lemmas.List.{map-append}
use Rattle.std.proofs.lemmas.List.Elements.{All-pop}
use Rattle.pac_value.specs.State.{Cell, RowValues, Tables, with_row}
use Rattle.pac_tables.specs.declared.writes.Write.{Write}
use Rattle.pac_tables.specs.Written.{AreWithin, written}
use Rattle.pac_tables.proofs.WriteLemmas.{written-last}
use Rattle.pac_undo.specs.Images.{as_writes}
use Rattle.pac_undo.proofs.before_images.BeforeImages.put_back.Goals as goal

pub loop-cell-preserved : goal.loop-cell-preserved
loop-cell-preserved g c =
    let e : Cell × Option RowValues = (c.in-Some.cell.now, c.in-Some.image.now) in
    let w : Write = record { table = e.0.0; key = e.0.1; row = e.1 } in
    let held = g.R.Rows.held c.loop-cell.rows in
    let others = as_writes c.next_back.new.self in
    let left : as_writes c.loop-cell.left ≡ others ++ w ∷ [] = ap as_writes c.in-Some.ensures.steps ∙ map-append _ c.next_back.new.self (e ∷ []) in
    record {
      rest = ap (λ (m : Tables). written m others) {y = with_row held e.0 e.1} c.in_ok-put_image.ensures.rows ∙ sym (written-last held others w) ∙ sym (ap (written held) {y = others ++ w ∷ []} left) ∙ c.loop-cell.invariant.rest;
      within =
          subst (λ n. AreWithin n others) (sym c.in_ok-put_image.ensures.tables)
          (All-pop (λ (v : Write). v.table < g.R.Rows.tables c.loop-cell.rows) (as_writes c.loop-cell.left) others (Some w) left c.loop-cell.invariant.within).0;
      tables = c.in_ok-put_image.ensures.tables ∙ c.loop-cell.invariant.tables;
    }
