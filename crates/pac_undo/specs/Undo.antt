-- Tables as they stand now, and as they stood at an opening.
use Rattle.std.specs.Prelude.{◌≡◌, ◌≢◌, ◌<◌, ℕ, IsSome, refl}
use Rattle.std.specs.Coded.{Coded, code_by, coded×, coded_ℕ}
use Rattle.std.specs.FinMap.{get}
use Rattle.pac_value.specs.State.{Cell, Tables, tables_code}
use Rattle.pac_tables.specs.declared.writes.Write.{Write}
use Rattle.pac_tables.specs.Written.{cell_written}

-- how many tables there are, the rows that they had at the opening, and those that they have now
pub record Undoable : Type 0 where
  pub tables : ℕ
  pub opening : Tables
  pub current : Tables

-- how these are told apart
abbrev pub undoable_code : Coded Undoable
undoable_code = code_by (ℕ × (Tables × Tables)) (coded× coded_ℕ (coded× tables_code tables_code)) (λ u. (u.tables, (u.opening, u.current))) (λ p. record { tables = p.0; opening = p.1.0; current = p.1.1 }) (λ u. refl)

-- the first `count` tables have the same rows
abbrev pub AreSameIn : ℕ → Tables → Tables → Type 0
AreSameIn count tables others = (cell : Cell) → cell.0 < count → get tables cell ≡ get others cell

-- as many tables, each with the rows of the opening
abbrev pub HasOpening : Undoable → ℕ → Tables → Type 0
HasOpening undoable count rows = (count ≡ undoable.tables) × AreSameIn undoable.tables rows undoable.opening

-- as many tables, and the rows of the opening alone
abbrev pub IsOpening : Undoable → ℕ → Tables → Type 0
IsOpening undoable count rows = (count ≡ undoable.tables) × (rows ≡ undoable.opening)

-- each row stands in one of the first `count` tables
abbrev pub HasRowsIn : ℕ → Tables → Type 0
HasRowsIn count tables = (cell : Cell) → IsSome (get tables cell) → cell.0 < count

-- the cell of the write has another row than at the opening
abbrev pub IsChanged : Undoable → Write → Type 0
IsChanged undoable write = get undoable.current (cell_written write) ≢ get undoable.opening (cell_written write)
