-- The summary of the stress test.
use Rattle.std.specs.Prelude.{ℕ, ◌+◌, List, [], ◌∷◌, ◌++◌, codes, length}
use Rattle.std.specs.Fmt.{decimal}
use Rattle.pac_value.specs.State.{Tables, keys_of}
use Rattle.pac_types.specs.declared.table.Table.{Table}

-- WORD COUNT
abbrev pub count_line : List ℕ → ℕ → List ℕ
count_line word count = word ++ codes " " ++ decimal count ++ codes "\n"

-- rows NAME COUNT
abbrev pub row_count_line : List ℕ → ℕ → List ℕ
row_count_line name count = codes "rows " ++ name ++ codes " " ++ decimal count ++ codes "\n"

-- the same for each of these tables, numbered from t
abbrev pub row_counts : Tables → ℕ → List Table → List ℕ
row_counts rows t [] = []
row_counts rows t (table ∷ others) = row_count_line table.name (length (keys_of rows t)) ++ row_counts rows (t + 1) others

-- how many transactions and pieces there are, and how many rows each table has, in the catalogue's order
abbrev pub summary : ℕ → ℕ → List Table → Tables → List ℕ
summary txns pieces tables rows = count_line (codes "transactions") txns ++ count_line (codes "pieces") pieces ++ row_counts rows 0 tables
