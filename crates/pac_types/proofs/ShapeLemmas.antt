-- What fits the types of a catalogue's tables, by the types of the tables' keys and columns.
use Rattle.std.proofs.Common.{◌≡◌, ℕ, List, map, Option, Some, None, IsSomeAnd, sym, ap, subst}
use Rattle.std.specs.Prelude.{slice_get}
use Rattle.std.specs.Option.{option_map}
use Rattle.std.proofs.lemmas.Option.{slice_get-map}
use Rattle.pac_value.specs.Values.{type_of, key_value}
use Rattle.pac_value.specs.State.{Cell, RowValues}
use Rattle.pac_ops.specs.declared.shapes.TableTypes.{TableTypes}
use Rattle.pac_ops.specs.Shapes.{KeyFits, ColumnsFit, RowFits}
use Rattle.pac_types.specs.declared.table.Table.{Table}
use Rattle.pac_types.specs.WellFormed.{key_type, column_types, column_types_of}
use Rattle.pac_types.specs.Fits.{shape}

module _ (tables : List Table) where
  -- a row whose key and columns have its table's types
  pub row-fits : (cell : Cell) (row : RowValues) → key_type tables cell.0 ≡ Some (type_of (key_value cell.1)) → map type_of row ≡ column_types tables cell.0 → RowFits (map shape tables) cell row
  row-fits cell row typed columns = subst (λ (o : Option TableTypes). IsSomeAnd o Fits) (sym (slice_get-map shape tables cell.0)) (go (slice_get tables cell.0) typed columns)
    where
      Fits : TableTypes → Type 0
      Fits table = KeyFits cell.1 table × ColumnsFit row table

      go : (o : Option Table) → option_map (λ table. table.key) o ≡ Some (type_of (key_value cell.1)) → map type_of row ≡ column_types_of o → IsSomeAnd (option_map shape o) Fits
      go None h e = absurd cc
      go (Some table) h e = let same : table.key ≡ type_of (key_value cell.1) = cc in (same, e)

  module _ (cell : Cell) (row : RowValues) (fits : RowFits (map shape tables) cell row) where
    shaped : IsSomeAnd (option_map shape (slice_get tables cell.0)) (λ table. KeyFits cell.1 table × ColumnsFit row table)
    shaped = subst (λ (o : Option TableTypes). IsSomeAnd o (λ table. KeyFits cell.1 table × ColumnsFit row table)) (slice_get-map shape tables cell.0) fits

    pub key-of_fit : key_type tables cell.0 ≡ Some (type_of (key_value cell.1))
    key-of_fit = go (slice_get tables cell.0) shaped
      where
        go : (o : Option Table) → IsSomeAnd (option_map shape o) (λ table. KeyFits cell.1 table × ColumnsFit row table) → option_map (λ table. table.key) o ≡ Some (type_of (key_value cell.1))
        go None h = absurd h
        go (Some table) h = ap Some h.0

    pub columns-of_fit : map type_of row ≡ column_types tables cell.0
    columns-of_fit = go (slice_get tables cell.0) shaped
      where
        go : (o : Option Table) → IsSomeAnd (option_map shape o) (λ table. KeyFits cell.1 table × ColumnsFit row table) → map type_of row ≡ column_types_of o
        go None h = absurd h
        go (Some table) h = h.1
