-- The text of tables.
use Rattle.std.specs.Prelude.{◌+◌, ℕ, List, [], ◌∷◌, ◌++◌, Option, Some, None, codes, flat_map, length}
use Rattle.std.specs.Fmt.{decimal}
use Rattle.std.specs.FinMap as map
use Rattle.pac_value.specs.declared.values.Key.{Key}
use Rattle.pac_value.specs.Literals.{key_text, values_text}
use Rattle.pac_value.specs.State.{RowValues, Tables, keys_of}
use Rattle.pac_types.specs.declared.table.Table.{Table}

-- the values of a row that may be there
abbrev pub row_text : Option RowValues → List ℕ
row_text None = []
row_text (Some row) = values_text row

-- KEY (V1, V2)
abbrev pub row_line : Tables → ℕ → Key → List ℕ
row_line tables t key = key_text key ++ codes " (" ++ row_text (map.get tables (t, key)) ++ codes ")\n"

-- table NAME COUNT, and its rows in ascending order of their keys
abbrev pub table_dump : Tables → ℕ → List ℕ → List ℕ
table_dump tables t name =
    codes "table " ++ name ++ codes " " ++ decimal (length (keys_of tables t)) ++ codes "\n" ++ flat_map (row_line tables t) (keys_of tables t)

-- the tables of a catalogue, numbered from t
abbrev pub tables_text : Tables → ℕ → List Table → List ℕ
tables_text tables t [] = []
tables_text tables t (table ∷ others) = table_dump tables t table.name ++ tables_text tables (t + 1) others
