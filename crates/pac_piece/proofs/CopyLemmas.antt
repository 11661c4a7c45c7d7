-- Copies that fit make rows that fit.
use Rattle.std.proofs.Common.{◌≡◌, Bool, true, false, cond, List, [], ◌∷◌, Option, None, Some, refl, sym, ◌∙◌, subst}
use Rattle.std.specs.Prelude.{IfSome}
use Rattle.std.specs.List.{AllByRecursion}
use Rattle.std.specs.Ordering.{eq_by_cmp}
use Rattle.std.specs.FinMap.{empty, get, get-empty}
use Rattle.pac_value.specs.State.{RowValues, cell_cmp}
use Rattle.pac_value.proofs.CellLemmas.{get-with_row, tied_same}
use Rattle.pac_ops.specs.declared.shapes.TableTypes.{TableTypes}
use Rattle.pac_ops.specs.Shapes.{RowFits, RowsFit}
use Rattle.pac_tables.specs.declared.writes.Write.{Write}
use Rattle.pac_tables.specs.Written.{cell_written, written}
use Rattle.pac_piece.specs.Copies.{CopyFits}

pub copies_fit : (tables : List TableTypes) (rows : List Write) → AllByRecursion (CopyFits tables) rows → RowsFit tables (written empty rows)
copies_fit tables [] fit cell row e = let none : ◌≡◌ {A = Option RowValues} None (Some row) = sym (get-empty cell_cmp cell) ∙ e in absurd cc
copies_fit tables (w ∷ ws) fit cell row e = go (eq_by_cmp cell_cmp cell (cell_written w)) refl w.row fit.0 (sym (get-with_row (written empty ws) (cell_written w) w.row cell) ∙ e) (copies_fit tables ws fit.1 cell row)
  where
    go : (b : Bool) → eq_by_cmp cell_cmp cell (cell_written w) ≡ b → (o : Option RowValues) → IfSome o (RowFits tables (cell_written w))
        → cond b o (get (written empty ws) cell) ≡ Some row → (get (written empty ws) cell ≡ Some row → RowFits tables cell row) → RowFits tables cell row
    go false t o f h rest = rest h
    go true t None f h rest = absurd cc
    go true t (Some r) f h rest =
        let same : r ≡ row = cc in
        subst (λ c. RowFits tables c row) (sym (tied_same cell (cell_written w) t)) (subst (λ x. RowFits tables (cell_written w) x) same f)
