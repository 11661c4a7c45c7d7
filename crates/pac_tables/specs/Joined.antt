-- Tables that stand apart, and the one map from cells that they are together.
use Rattle.std.specs.Prelude.{◌+◌, ℕ, List, [], ◌∷◌, ◌++◌, map, refl}
use Rattle.std.specs.Coded.{Coded, code_by, coded×, coded_ℕ, coded_list}
use Rattle.std.specs.FinMap.{FinMap, code, entries, from_sorted}
use Rattle.pac_value.specs.declared.values.Key.{Key}
use Rattle.pac_value.specs.contracts.values.Key as key
use Rattle.pac_value.specs.contracts.values.Value as value
use Rattle.pac_value.specs.Keys.{key_cmp}
use Rattle.pac_value.specs.State.{Cell, RowValues, Tables, tables_code}

-- the rows of one table, by their keys
abbrev pub OneTable : Type 0
OneTable = FinMap key_cmp RowValues

-- how they are told apart
abbrev pub table_code : Coded OneTable
table_code = code key.the_row.coded (coded_list value.the_row.coded)

-- entries of a table as entries of the state: each key is a cell of that table
abbrev pub at_cells : ℕ → List (Key × RowValues) → List (Cell × RowValues)
at_cells table rows = map (λ e. ((table, e.0), e.1)) rows

-- the entries of tables one after another, the first of which has this number
abbrev pub entries_from : ℕ → List OneTable → List (Cell × RowValues)
entries_from table [] = []
entries_from table (rows ∷ others) = at_cells table (entries rows) ++ entries_from (table + 1) others

-- the rows of all these tables, which are numbered from 0
abbrev pub joined_tables : List OneTable → Tables
joined_tables rows = from_sorted (entries_from 0 rows)

-- how many tables there are, and the rows that they hold
pub record Held : Type 0 where
  pub tables : ℕ
  pub rows : Tables

-- how these are told apart
abbrev pub held_code : Coded Held
held_code = code_by (ℕ × Tables) (coded× coded_ℕ tables_code) (λ h. (h.tables, h.rows)) (λ p. record { tables = p.0; rows = p.1 }) (λ h. refl)
