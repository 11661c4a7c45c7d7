-- The last entry that is left is made.
use Rattle.std.proofs.Common.{◌<◌, ◌∙◌, Option, Some, sym, ap, subst, refl}
use Rattle.std.specs.List.{All}
use Rattle.std.specs.Option.{unwrap_or}
use Rattle.std.specs.FinMap.{get}
use Rattle.std.proofs.lemmas.List.Elements.{All-pop}
use Rattle.pac_value.specs.State.{Cell, RowValues}
use Rattle.pac_tuple.proofs.LastLemmas.{found-at, one_row_made, entries-within}
use Rattle.pac_tuple.proofs.last.LastImages.make.Goals as goal

pub loop-cell-init : goal.loop-cell-init
loop-cell-init g c = record {
  rows = λ q. ap (λ (o : Option (Option RowValues)). unwrap_or o (get (g.R.Rows.held c.args.rows.now) q)) (found-at c.self.inside.rows.entries c.args.self q c.self.view_is);
  within = entries-within (g.R.Rows.tables c.args.rows.now) c.self.inside.rows.entries c.args.self c.self.view_is c.requires;
  tables = refl;
}

pub set_row-requires : goal.set_row-requires
set_row-requires g c =
    let e : Cell × Option RowValues = (c.in-Some.cell, c.in-Some.row) in
    (All-pop (λ (e : Cell × Option RowValues). e.0.0 < g.R.Rows.tables c.loop-cell.rows) c.loop-cell.left.entries c.pop.new.self.entries (Some e) c.in-Some.ensures.entries c.loop-cell.invariant.within).1

pub loop-cell-preserved : goal.loop-cell-preserved
loop-cell-preserved g c =
    let e : Cell × Option RowValues = (c.in-Some.cell, c.in-Some.row) in
    record {
      rows = λ q. one_row_made c.loop-cell.left.entries c.pop.new.self.entries c.in-Some.cell c.in-Some.row (g.R.Rows.held c.loop-cell.rows) (g.R.Rows.held c.set_row.new.rows) q c.in-Some.ensures.entries c.in_ok-set_row.ensures.rows ∙ c.loop-cell.invariant.rows q;
      within =
          subst (λ n. All (λ (e : Cell × Option RowValues). e.0.0 < n) c.pop.new.self.entries) (sym c.in_ok-set_row.ensures.tables)
          (All-pop (λ (e : Cell × Option RowValues). e.0.0 < g.R.Rows.tables c.loop-cell.rows) c.loop-cell.left.entries c.pop.new.self.entries (Some e) c.in-Some.ensures.entries c.loop-cell.invariant.within).0;
      tables = c.in_ok-set_row.ensures.tables ∙ c.loop-cell.invariant.tables;
    }
