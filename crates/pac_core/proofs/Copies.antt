-- Copies of what stands at cells: what is found there.
use Rattle.std.proofs.Common.{◌≡◌, ◌⊎◌, Bool, true, false, cond, List, [], ◌∷◌, None, refl, sym, ap, ◌∙◌, true≢false, inl, inr}
use Rattle.std.specs.Ordering.{eq_by_cmp}
use Rattle.std.specs.FinMap.{empty, get, get-empty}
use Rattle.pac_base.specs.Members.{Mem}
use Rattle.pac_value.specs.State.{Cell, Tables, cell_cmp}
use Rattle.pac_value.proofs.CellLemmas.{get-with_row, same-cell, tied_same}
use Rattle.pac_tables.specs.Written.{written}
use Rattle.pac_core.specs.Cells.{copies_at}

module _ (tables : Tables) where
  abbrev copied : List Cell → Tables
  copied cells = written empty (copies_at tables cells)

  -- what stands at a cell that was copied
  pub copied_in : (cells : List Cell) (a : Cell) → Mem a cells → get (written empty (copies_at tables cells)) a ≡ get tables a
  copied_in [] a m = absurd m
  copied_in (c ∷ cs) a m = get-with_row (copied cs) c (get tables c) a ∙ go (eq_by_cmp cell_cmp a c) refl m (copied_in cs a)
    where
      go : (b : Bool) → eq_by_cmp cell_cmp a c ≡ b → Mem a (c ∷ cs) → (Mem a cs → get (copied cs) a ≡ get tables a) → cond b (get tables c) (get (copied cs) a) ≡ get tables a
      go true e n rest = ap (get tables) (sym (tied_same a c e))
      go false e (inl same) rest = absurd (true≢false (sym (ap (eq_by_cmp cell_cmp a) (sym same) ∙ same-cell a) ∙ e))
      go false e (inr n) rest = rest n

  -- and at any: that, or nothing
  pub copied_or : (cells : List Cell) (a : Cell) → (get (written empty (copies_at tables cells)) a ≡ get tables a) ⊎ (get (written empty (copies_at tables cells)) a ≡ None)
  copied_or [] a = inr (get-empty cell_cmp a)
  copied_or (c ∷ cs) a = go (eq_by_cmp cell_cmp a c) refl (copied_or cs a)
    where
      go : (b : Bool) → eq_by_cmp cell_cmp a c ≡ b → (get (copied cs) a ≡ get tables a) ⊎ (get (copied cs) a ≡ None)
          → (get (copied (c ∷ cs)) a ≡ get tables a) ⊎ (get (copied (c ∷ cs)) a ≡ None)
      go true e rest = inl (get-with_row (copied cs) c (get tables c) a ∙ ap (λ b. cond b (get tables c) (get (copied cs) a)) e ∙ ap (get tables) (sym (tied_same a c e)))
      go false e (inl h) = inl (get-with_row (copied cs) c (get tables c) a ∙ ap (λ b. cond b (get tables c) (get (copied cs) a)) e ∙ h)
      go false e (inr h) = inr (get-with_row (copied cs) c (get tables c) a ∙ ap (λ b. cond b (get tables c) (get (copied cs) a)) e ∙ h)
