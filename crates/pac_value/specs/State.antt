-- The state of a database: the rows of its tables.
use Rattle.std.specs.Prelude.{ℕ, List, map, filter, ◌==◌, Option, Some, None}
use Rattle.std.specs.declared.cmp.Ordering.{Ordering}
use Rattle.std.specs.Ordering.{nat_cmp, ordering_then}
use Rattle.std.specs.Coded.{Coded, coded×, coded_ℕ, coded_list}
use Rattle.std.specs.FinMap.{FinMap, code, keys, insert, remove}
use Rattle.pac_value.specs.declared.values.Key.{Key}
use Rattle.pac_value.specs.declared.values.Value.{Value}
use Rattle.pac_value.specs.contracts.values.Key as key
use Rattle.pac_value.specs.contracts.values.Value as value
use Rattle.pac_value.specs.Keys.{key_cmp}

-- where a row stands: in which table, and at which key
abbrev pub Cell : Type 0
Cell = ℕ × Key

-- by table, and then by key
abbrev pub cell_cmp : Cell → Cell → Ordering
cell_cmp a b = ordering_then (nat_cmp a.0 b.0) (key_cmp a.1 b.1)

-- a row: the values of its columns
abbrev pub RowValues : Type 0
RowValues = List Value

-- the rows of all tables, by their cells
abbrev pub Tables : Type 0
Tables = FinMap cell_cmp RowValues

-- how the tables are told apart, for a type whose contracts see it as them
abbrev pub tables_code : Coded Tables
tables_code = code (coded× coded_ℕ key.the_row.coded) (coded_list value.the_row.coded)

-- the keys at cells of a table
abbrev pub keys_among : List Cell → ℕ → List Key
keys_among cells table = map (λ cell. cell.1) (filter (λ cell. cell.0 == table) cells)

-- the keys of a table's rows, ascending
abbrev pub keys_of : Tables → ℕ → List Key
keys_of tables table = keys_among (keys tables) table

-- a row stands at a cell from now on, or none
abbrev pub with_row : Tables → Cell → Option RowValues → Tables
with_row tables cell None = remove tables cell
with_row tables cell (Some row) = insert tables cell row
