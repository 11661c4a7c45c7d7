-- An image holds one checkpoint, and a checkpoint is of one state of the tables.
use Rattle.std.proofs.Common.{◌≡◌, ◌∙◌, inl, inr, ℕ, zero, suc, ◌+◌, ◌<◌, ◌≤◌, List, ◌∷◌, ◌++◌, map, length, drop, Option, Some, None, Result, Ok, refl, sym, ap, arith}
use Rattle.std.specs.Prelude.{slice_get, IsSomeAnd}
use Rattle.std.specs.Option.{option_map}
use Rattle.std.specs.FinMap.{get, entries, get-entries, find, same_map}
use Rattle.std.proofs.lemmas.Bool.{cases_lt}
use Rattle.std.proofs.lemmas.Option.{slice_get-map, slice_get_past}
use Rattle.pac_value.specs.Keys.{key_cmp}
use Rattle.pac_value.specs.State.{Cell, RowValues, Tables}
use Rattle.pac_value.proofs.CellLemmas.{cells_total, cells_antisymmetric}
use Rattle.pac_ops.specs.declared.shapes.TableTypes.{TableTypes}
use Rattle.pac_ops.specs.Shapes.{KeyFits, ColumnsFit}
use Rattle.pac_types.specs.declared.table.Table.{Table}
use Rattle.pac_types.specs.Fits.{FitTables, shape}
use Rattle.pac_check.specs.declared.damage.SlotFault.{SlotFault}
use Rattle.pac_check.specs.Checkpoints.{Checkpoint, checkpoint_bytes}
use Rattle.pac_check.specs.CheckpointReading.{next_checkpoint}
use Rattle.pac_check.specs.Saved.{table_rows, rows_of_tables}
use Rattle.pac_check.specs.SlotStates.{HoldsCheckpoint}
use Rattle.pac_check.proofs.CheckpointLemmas.{checkpoint_codec}
use Rattle.pac_check.proofs.RowsLemmas.{find-among, rows_from, tables-from}

same-read : {A B : Type 0} (x y : A) (s t : B) → ◌≡◌ {A = Result (A × B) SlotFault} (Ok (x, s)) (Ok (y, t)) → x ≡ y
same-read {A} {B} x y s t e = ap (λ (p : A × B). p.0) (pair (x, s) (y, t) e)
  where
    pair : (p q : A × B) → ◌≡◌ {A = Result (A × B) SlotFault} (Ok p) (Ok q) → p ≡ q
    pair p q h = cc

pub one-checkpoint : (tables : List Table) → length tables < 65536 → (image : List ℕ) (c d : Checkpoint) → HoldsCheckpoint tables c image → HoldsCheckpoint tables d image → c ≡ d
one-checkpoint tables few image c d first second =
    let a = (checkpoint_codec tables few).again c 1 first.opens.rest first.form in
    let b = (checkpoint_codec tables few).again d 1 second.opens.rest second.form in
    let bytes : 1 ∷ (checkpoint_bytes c ++ first.opens.rest) ≡ 1 ∷ (checkpoint_bytes d ++ second.opens.rest) = sym first.opens.split ∙ second.opens.split in
    same-read c d _ _ (sym a ∙ ap (λ (l : List ℕ). next_checkpoint tables (record { at = 1; bytes = drop 1 l })) bytes ∙ b)

rows-at : (a b : Tables) (s n i : ℕ) → rows_from a s n ≡ rows_from b s n → i < n → table_rows a (s + i) ≡ table_rows b (s + i)
rows-at a b s zero i same lt = absurd (omega arith)
rows-at a b s (suc n) zero same lt = (let e : s + 0 ≡ s = omega arith in ap (table_rows a) e) ∙ head same ∙ sym (let e : s + 0 ≡ s = omega arith in ap (table_rows b) e)
  where
    head : {A : Type 0} {x y : A} {xs ys : List A} → x ∷ xs ≡ y ∷ ys → x ≡ y
    head e = cc
rows-at a b s (suc n) (suc i) same lt =
    let e : s + suc i ≡ suc s + i = omega arith in
    ap (table_rows a) e ∙ rows-at a b (suc s) n i (tail same) (omega (arith, lt)) ∙ sym (ap (table_rows b) e)
  where
    tail : {A : Type 0} {x y : A} {xs ys : List A} → x ∷ xs ≡ y ∷ ys → xs ≡ ys
    tail e = cc

-- no row stands in a table that isn't there
none-after : (tables : List Table) (held : Tables) → FitTables tables held → (cell : Cell) → length tables ≤ cell.0 → get held cell ≡ None
none-after tables held fits cell past = go (get held cell) refl
  where
    go : (row : Option RowValues) → get held cell ≡ row → row ≡ None
    go None e = refl
    go (Some row) e = absurd (no (fits cell row e))
      where
        no : IsSomeAnd (slice_get (map shape tables) cell.0) (λ table. KeyFits cell.1 table × ColumnsFit row table) → ⊥
        no h = by (slice_get (map shape tables) cell.0) (slice_get-map shape tables cell.0 ∙ ap (option_map shape) (slice_get_past tables cell.0 past)) h
          where
            by : (o : Option TableTypes) → o ≡ None → IsSomeAnd o (λ table. KeyFits cell.1 table × ColumnsFit row table) → ⊥
            by None is h = absurd h
            by (Some table) is h = absurd cc

pub one-state : (tables : List Table) (a b : Tables) → FitTables tables a → FitTables tables b → rows_of_tables a (length tables) ≡ rows_of_tables b (length tables) → a ≡ b
one-state tables a b fits_a fits_b same = same_map cells_total cells_antisymmetric a b at
  where
    rows : rows_from a 0 (length tables) ≡ rows_from b 0 (length tables)
    rows = sym (tables-from a (length tables)) ∙ same ∙ tables-from b (length tables)

    rows-here : (t : ℕ) → t < length tables → table_rows a t ≡ table_rows b t
    rows-here t lt = (let e : t ≡ 0 + t = omega arith in ap (table_rows a) e) ∙ rows-at a b 0 (length tables) t rows lt ∙ sym (let e : t ≡ 0 + t = omega arith in ap (table_rows b) e)

    at : (cell : Cell) → get a cell ≡ get b cell
    at cell = elim (cases_lt cell.0 (length tables)) [
      | inl lt ↦ get-entries a cell ∙ find-among cell.0 cell.1 (entries a) ∙ ap (find key_cmp cell.1) (rows-here cell.0 lt) ∙ sym (get-entries b cell ∙ find-among cell.0 cell.1 (entries b))
      | inr past ↦ none-after tables a fits_a cell past ∙ sym (none-after tables b fits_b cell past)
    ]
