-- Writes, and what they make of the tables.
use Rattle.std.specs.Prelude.{◌≡◌, ◌<◌, ℕ, Bool, false, List, [], ◌∷◌, IsSome}
use Rattle.std.specs.List.{All, list_any}
use Rattle.std.specs.Ordering.{eq_by_cmp}
use Rattle.std.specs.FinMap.{get}
use Rattle.pac_value.specs.State.{Cell, cell_cmp, Tables, with_row}
use Rattle.pac_tables.specs.declared.writes.Write.{Write}

-- where a write is made
abbrev pub cell_written : Write → Cell
cell_written write = (write.table, write.key)

-- whether one of the writes is made at the cell
abbrev pub is_written : List Write → Cell → Bool
is_written writes cell = list_any (λ write. eq_by_cmp cell_cmp cell (cell_written write)) writes

-- no cell is written twice
abbrev pub IsOnce : List Write → Type 0
IsOnce [] = Unit {0}
IsOnce (write ∷ writes) = (is_written writes (cell_written write) ≡ false) × IsOnce writes

-- each is made in one of that many tables
abbrev pub AreWithin : ℕ → List Write → Type 0
AreWithin tables writes = All (λ write. write.table < tables) writes

-- where the write puts a row, one stands already, so it takes no memory
abbrev pub HasRow : Tables → Write → Type 0
HasRow tables write = IsSome write.row → IsSome (get tables (cell_written write))

-- the tables with all the writes made
abbrev pub written : Tables → List Write → Tables
written tables [] = tables
written tables (write ∷ writes) = with_row (written tables writes) (cell_written write) write.row
