-- The changes of a transaction that has not ended, and the tables as it sees them.
use Rattle.std.specs.Prelude.{◌≡◌, ◌<◌, ◌+◌, ◌==◌, ◌&&◌, ◌||◌, not, cond, ℕ, List, [], ◌∷◌, is_some, Some}
use Rattle.std.specs.FinMap.{FinMap, get, contains_key, find, entries}
use Rattle.pac_value.specs.State.{Cell, cell_cmp, Tables, with_row}
use Rattle.pac_ops.specs.declared.transaction.Change.{Change as AnImage}
use Rattle.pac_serial.specs.declared.pending.Pending.{Pending}
use Rattle.pac_serial.specs.Writes.{is_among, shown}

-- changes, by their cells
abbrev pub Changes : Type 0
Changes = FinMap cell_cmp Pending

-- a change, and where it is made
abbrev pub Change : Type 0
Change = Cell × Pending

-- the tables with changes made, each at a cell of its own
abbrev pub laid : Tables → List Change → Tables
laid tables [] = tables
laid tables (change ∷ changes) = with_row (laid tables changes) change.0 change.1.row

-- the tables as a transaction with these changes sees them
abbrev pub as_changed : Tables → Changes → Tables
as_changed tables changes = laid tables (entries changes)

-- the change is in one of that many tables, and has the row that it puts
abbrev pub IsUnmade : ℕ → Cell → Pending → Type 0
IsUnmade number cell pending = (cell.0 < number) × (pending.puts ≡ is_some pending.row)

-- each change is so
abbrev pub AreUnmade : ℕ → Changes → Type 0
AreUnmade number changes = (cell : Cell) (pending : Pending) → get changes cell ≡ Some pending → IsUnmade number cell pending

-- the same of changes in a list
abbrev pub AreAllUnmade : ℕ → List Change → Type 0
AreAllUnmade number changes = (cell : Cell) (pending : Pending) → find cell_cmp cell changes ≡ Some pending → IsUnmade number cell pending

-- the cells that are changed are those that were, and these
abbrev pub ChangesAt : List Cell → Changes → Changes → Type 0
ChangesAt cells old new = (cell : Cell) → contains_key new cell ≡ (is_among cell cells || contains_key old cell)

-- the after-image that a change leaves
abbrev pub image_left : Change → AnImage
image_left change = shown change.0 change.1.row

-- a row more in a table, where none stands at the cell, and one less, where one stands
abbrev pub gains : Tables → ℕ → Change → ℕ
gains tables table change = cond (change.0.0 == table && (is_some change.1.row && not (is_some (get tables change.0)))) 1 0

-- a row less in a table
abbrev pub loses : Tables → ℕ → Change → ℕ
loses tables table change = cond (change.0.0 == table && (not (is_some change.1.row) && is_some (get tables change.0))) 1 0

-- how many rows changes add to the table, and how many they take away
abbrev pub gained : Tables → ℕ → List Change → ℕ
gained tables table [] = 0
gained tables table (change ∷ changes) = gains tables table change + gained tables table changes

-- how many rows changes take away from the table
abbrev pub lost : Tables → ℕ → List Change → ℕ
lost tables table [] = 0
lost tables table (change ∷ changes) = loses tables table change + lost tables table changes
