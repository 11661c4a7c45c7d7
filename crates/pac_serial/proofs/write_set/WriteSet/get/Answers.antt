-- The cell is changed, or the tables have it.
use Rattle.std.proofs.Common.{◌≡◌, List, Option, T, ap, sym, subst, ◌∙◌}
use Rattle.std.specs.FinMap as map
use Rattle.std.specs.FinMap.{is_sorted}
use Rattle.pac_value.specs.State.{Cell, cell_cmp}
use Rattle.pac_serial.specs.declared.pending.Pending.{Pending}
use Rattle.pac_value.specs.Sorted.{IsOffsetOf}
use Rattle.pac_value.proofs.CellLemmas.{cells_total}
use Rattle.pac_serial.specs.WriteSets.{Change, Changes}
use Rattle.pac_value.proofs.SortedLemmas.{found-get, gap-get}
use Rattle.pac_serial.proofs.WriteSetLemmas.{row_or, get-seen}
use Rattle.pac_serial.proofs.write_set.WriteSet.get.Goals as goal

pub returns-in-Ok : goal.returns-in-Ok
returns-in-Ok g c =
    let cell : Cell = (c.args.table, c.args.key.now) in
    let held = g.R.Rows.held c.args.rows.now in
    let offset = subst (λ (es : List Change). IsOffsetOf es cell c.in-Ok.at) c.deref.ensures.value c.in-Ok.ensures.found in
    let found = found-get cells_total c.self.inside.changes.items c.self.invariant cell c.in-Ok.at offset c.index.result.now in
    c.as_ref.ensures.value
    ∙ ap (λ (x : Change). x.1.row) c.index.ensures
    ∙ ap (λ (o : Option Pending). row_or o (map.get held cell)) (sym found ∙ ap (λ m. map.get m cell) c.self.view_is)
    ∙ sym (get-seen held c.args.self.now cell)

pub returns-in-Err : goal.returns-in-Err
returns-in-Err g c =
    let cell : Cell = (c.args.table, c.args.key.now) in
    let held = g.R.Rows.held c.args.rows.now in
    let sorted = subst (λ (es : List Change). T (is_sorted cell_cmp es)) (sym c.deref.ensures.value) c.self.invariant in
    let same : ◌≡◌ {A = Changes} (map.from_sorted c.deref.result.now) c.args.self.now = ap map.from_sorted c.deref.ensures.value ∙ c.self.view_is in
    c.get.ensures
    ∙ ap (λ (o : Option Pending). row_or o (map.get held cell)) (sym (gap-get cells_total c.deref.result.now sorted cell c.in-Err.field-0 c.in-Err.ensures.absent) ∙ ap (λ m. map.get m cell) same)
    ∙ sym (get-seen held c.args.self.now cell)
