-- What one more write makes of a list of writes.
use Rattle.std.specs.Prelude.{◌≡◌, Bool, ◌||◌, List, Option}
use Rattle.std.specs.Ordering.{eq_by_cmp}
use Rattle.pac_value.specs.State.{Cell, cell_cmp, RowValues, Tables, with_row}
use Rattle.pac_tables.specs.declared.writes.Write.{Write}
use Rattle.pac_tables.specs.Written.{IsOnce, cell_written, is_written, written}

-- the write is at the cell
abbrev pub is_at : Cell → Write → Bool
is_at cell write = eq_by_cmp cell_cmp cell (cell_written write)

-- the new writes leave what the old ones and one more leave, and are at its cell too; no cell is written twice
pub record ChangesCell (cell : Cell) (row : Option RowValues) (old new : List Write) : Type 0 where
  pub tables : (tables : Tables) → written tables new ≡ with_row (written tables old) cell row
  pub at : (a : Cell) → is_written new a ≡ (eq_by_cmp cell_cmp a cell || is_written old a)
  pub once : IsOnce new
