-- The checkpoint of the rows of tables.
use Rattle.std.specs.Prelude.{ℕ, zero, suc, List, [], ◌∷◌, ◌++◌, map, filter, ◌==◌}
use Rattle.std.specs.FinMap.{entries}
use Rattle.pac_value.specs.State.{Cell, RowValues, Tables}
use Rattle.pac_check.specs.declared.head.Head.{Head}
use Rattle.pac_check.specs.Checkpoints.{Checkpoint, KeyedRow}

-- those of these entries that stand in a table, by their keys alone
abbrev pub rows_among : List (Cell × RowValues) → ℕ → List KeyedRow
rows_among cells table = map (λ entry. (entry.0.1, entry.1)) (filter (λ entry. entry.0.0 == table) cells)

-- the rows of a table, by ascending keys
abbrev pub table_rows : Tables → ℕ → List KeyedRow
table_rows held table = rows_among (entries held) table

-- the rows of each of the first n tables
abbrev pub rows_of_tables : Tables → ℕ → List (List KeyedRow)
rows_of_tables held zero = []
rows_of_tables held (suc table) = rows_of_tables held table ++ table_rows held table ∷ []

-- the checkpoint of that many tables, with this head
abbrev pub checkpoint_of : ℕ → Head → Tables → Checkpoint
checkpoint_of tables head held = record { head = head; tables = rows_of_tables held tables }
