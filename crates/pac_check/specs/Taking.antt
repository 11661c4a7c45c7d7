-- What rows that are taken one after another make of tables.
use Rattle.std.specs.Prelude.{◌≡◌, ◌≢◌, ◌≤◌, ℕ, List, [], slice_get, Some}
use Rattle.std.specs.FinMap.{empty}
use Rattle.pac_value.specs.State.{Tables}
use Rattle.pac_types.specs.declared.table.Table.{Table}
use Rattle.pac_types.specs.Fits.{FitTables}
use Rattle.pac_check.specs.Checkpoints.{KeyedRow}
use Rattle.pac_check.specs.Saved.{table_rows, rows_of_tables}

-- new is as old is, and has these rows of one table besides
pub record IsWithRows (table : Table) (number : ℕ) (taken : List KeyedRow) (old new : Tables) : Type 0 where
  pub rows : table_rows new number ≡ taken
  pub others : (other : ℕ) → other ≢ number → table_rows new other ≡ table_rows old other
  pub fits : (all : List Table) → slice_get all number ≡ Some table → FitTables all old → FitTables all new

-- whatever was held before, without a row of this table, these rows are held besides afterwards
abbrev pub TookRows : (Tables → Type 0) → (Tables → Type 0) → Table → ℕ → List KeyedRow → Type 0
TookRows before after table number rows = (old : Tables) → before old → table_rows old number ≡ [] → (new : Tables) × after new × IsWithRows table number rows old new

-- these rows of the first n tables, and no others, and they fit
pub record HoldsFirst (tables : List Table) (n : ℕ) (taken : List (List KeyedRow)) (held : Tables) : Type 0 where
  pub rows : rows_of_tables held n ≡ taken
  pub others : (other : ℕ) → n ≤ other → table_rows held other ≡ []
  pub fits : FitTables tables held

-- where nothing was held before, these rows of the first n tables are held afterwards
abbrev pub TookTables : (Tables → Type 0) → (Tables → Type 0) → List Table → ℕ → List (List KeyedRow) → Type 0
TookTables before after tables n rows = before empty → (new : Tables) × after new × HoldsFirst tables n rows new
