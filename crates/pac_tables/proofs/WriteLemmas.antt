-- The last of several writes may be made first.
use Rattle.std.proofs.Common.{◌≡◌, Bool, true, false, cond, List, [], ◌∷◌, ◌++◌, Some, None, refl, sym, ap, ◌∙◌}
use Rattle.std.specs.Ordering.{eq_by_cmp}
use Rattle.std.specs.FinMap.{get, insert, remove, get-insert, get-remove, same_map}
use Rattle.pac_value.specs.State.{Cell, cell_cmp, RowValues, Tables, with_row}
use Rattle.pac_value.proofs.CellLemmas.{cells_total, cells_antisymmetric, tied_same}
use Rattle.pac_tables.specs.declared.writes.Write.{Write}
use Rattle.pac_tables.specs.Written.{cell_written, written}
use Rattle.pac_tables.specs.Room.{without_cells}

pub written-last : (t : Tables) (ws : List Write) (w : Write) → written t (ws ++ w ∷ []) ≡ written (with_row t (cell_written w) w.row) ws
written-last t [] w = refl
written-last t (v ∷ ws) w = ap (λ (m : Tables). with_row m (cell_written v) v.row) (written-last t ws w)

pub without_cells-last : (t : Tables) (cs : List Cell) (c : Cell) → without_cells t (cs ++ c ∷ []) ≡ without_cells (remove t c) cs
without_cells-last t [] c = refl
without_cells-last t (d ∷ cs) c = ap (λ (m : Tables). remove m d) (without_cells-last t cs c)

module _ (t : Tables) (c : Cell) (absent : get t c ≡ None) where
  gone : (q : Cell) (b : Bool) → eq_by_cmp cell_cmp q c ≡ b → cond b None (get t q) ≡ get t q
  gone q true h = sym (ap (get t) (tied_same q c h) ∙ absent)
  gone q false h = refl

  -- where no row stands, none is removed
  pub remove-absent : remove t c ≡ t
  remove-absent = same_map cells_total cells_antisymmetric _ _ (λ q. get-remove cells_total t c q ∙ gone q (eq_by_cmp cell_cmp q c) refl)

  covered : (q : Cell) (v : RowValues) (b : Bool) → eq_by_cmp cell_cmp q c ≡ b → cond b None (cond b (Some v) (get t q)) ≡ get t q
  covered q v true h = gone q true h
  covered q v false h = refl

  -- a row that is put where none stands can be taken back
  pub remove-inserted : (v : RowValues) → remove (insert t c v) c ≡ t
  remove-inserted v = same_map cells_total cells_antisymmetric _ _ (λ q.
      get-remove cells_total (insert t c v) c q
      ∙ ap (cond (eq_by_cmp cell_cmp q c) None) (get-insert cells_total t c v q)
      ∙ covered q v (eq_by_cmp cell_cmp q c) refl)
