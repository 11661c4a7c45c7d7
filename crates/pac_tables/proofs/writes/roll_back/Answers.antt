-- The last of what is left is taken out.
use Rattle.std.proofs.Common.{◌≡◌, ◌<◌, ◌++◌, ◌∷◌, [], sym, ap, subst, ◌∙◌}
use Rattle.std.specs.List.{All}
use Rattle.std.proofs.lemmas.List.Elements.{All-take}
use Rattle.pac_value.specs.State.{Cell}
use Rattle.pac_tables.specs.Room.{without_cells}
use Rattle.pac_tables.proofs.WriteLemmas.{without_cells-last}
use Rattle.pac_tables.proofs.writes.roll_back.Goals as goal

pub loop-table-preserved : goal.loop-table-preserved
loop-table-preserved g c =
    let cell : Cell = (c.in-Some.table, c.in-Some.key) in
    let items : c.loop-table.cells.items ≡ c.pop.new.self.items ++ cell ∷ [] = c.in-Some.ensures.items in
    record {
      rest =
          ap (λ t. without_cells t c.pop.new.self.items) c.delete.ensures.rows
          ∙ sym (without_cells-last (g.R.Rows.held c.loop-table.rows) c.pop.new.self.items cell)
          ∙ sym (ap (without_cells (g.R.Rows.held c.loop-table.rows)) items)
          ∙ c.loop-table.invariant.rest;
      within = subst (λ n. All (λ (q : Cell). q.0 < n) c.pop.new.self.items) (sym c.delete.ensures.tables)
          (subst (All (λ (q : Cell). q.0 < g.R.Rows.tables c.loop-table.rows)) (sym c.in-Some.ensures.rest) (All-take (λ (q : Cell). q.0 < g.R.Rows.tables c.loop-table.rows) _ c.loop-table.cells.items c.loop-table.invariant.within));
      tables = c.delete.ensures.tables ∙ c.loop-table.invariant.tables;
    }
