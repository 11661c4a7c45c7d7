-- What keeps tables and the maps of their names together.
use Rattle.std.specs.Prelude.{◌≡◌, ℕ, List, map}
use Rattle.pac_types.specs.declared.table.Table.{Table}
use Rattle.pac_types.specs.Numbering.{column_names, table_names}

-- the names are the tables', and for each table those of its columns
pub record IsTablesIndex (tables : List Table) (names : List (List ℕ)) (columns : List (List (List ℕ))) : Type 0 where
  pub named : names ≡ table_names tables
  pub of_columns : columns ≡ map (λ table. column_names table.columns) tables
