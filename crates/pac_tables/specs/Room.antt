-- Room for writes, made before the first of them is.
use Rattle.std.specs.Prelude.{◌≡◌, ◌<◌, ℕ, List, [], ◌∷◌, false, IsSome}
use Rattle.std.specs.FinMap.{get, remove}
use Rattle.pac_value.specs.State.{Cell, Tables}
use Rattle.pac_tables.specs.declared.writes.Write.{Write}
use Rattle.pac_tables.specs.Written.{HasRow, is_written}

-- the tables without the rows at these cells
abbrev pub without_cells : Tables → List Cell → Tables
without_cells tables [] = tables
without_cells tables (cell ∷ cells) = remove (without_cells tables cells) cell

-- a cell that has a row still has one, and no cell changes but those of the writes
pub record Grows (writes : List Write) (old new : Tables) : Type 0 where
  pub kept : (cell : Cell) → IsSome (get old cell) → IsSome (get new cell)
  pub others : (cell : Cell) → is_written writes cell ≡ false → get new cell ≡ get old cell

-- the write can be made with no memory, in one of that many tables
pub record IsReady (count : ℕ) (tables : Tables) (write : Write) : Type 0 where
  pub within : write.table < count
  pub placed : HasRow tables write
