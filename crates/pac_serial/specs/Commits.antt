-- How changes are made: first rows are put, which may find no room, and then rows are deleted.
use Rattle.std.specs.Prelude.{◌≡◌, ◌<◌, ℕ, true, List, [], ◌∷◌, cond, map, Option, Some, None, IsSome}
use Rattle.std.specs.List.{All}
use Rattle.std.specs.FinMap.{get, insert, remove}
use Rattle.pac_value.specs.State.{Cell, RowValues, Tables, with_row}
use Rattle.pac_serial.specs.declared.pending.Pending.{Pending}
use Rattle.pac_serial.specs.WriteSets.{Change}

-- the cells that are changed
abbrev pub cells : List Change → List Cell
cells changes = map (λ change. change.0) changes

-- each change is in one of that many tables
abbrev pub AreIn : ℕ → List Change → Type 0
AreIn tables changes = All (λ change. change.0.0 < tables) changes

-- a row stands at the cell of a change that puts one
abbrev pub IsThere : Tables → Change → Type 0
IsThere tables change = change.1.puts ≡ true → IsSome (get tables change.0)

-- the same for each change
abbrev pub AreThere : Tables → List Change → Type 0
AreThere tables changes = All (IsThere tables) changes

-- a row stands at the cell; None leaves what stands there
abbrev pub with_new_row : Tables → Cell → Option RowValues → Tables
with_new_row tables cell None = tables
with_new_row tables cell (Some row) = insert tables cell row

-- the tables with the row that a change puts
abbrev pub with_put : Tables → Change → Tables
with_put tables change = with_new_row tables change.0 change.1.row

-- what a change keeps in place of its row: what stood at the cell
abbrev pub kept_row : Option RowValues → Option RowValues → Option RowValues
kept_row None old = None
kept_row (Some row) old = old

-- a change with what it keeps in place of its row
abbrev pub with_kept : Option RowValues → Pending → Pending
with_kept old pending = record { row = kept_row pending.row old; puts = pending.puts }

-- a change whose row was exchanged for what stood at its cell in these tables
abbrev pub exchanged : Tables → Change → Change
exchanged tables change = (change.0, with_kept (get tables change.0) change.1)

-- the tables with the rows of all changes that put one
abbrev pub with_puts : Tables → List Change → Tables
with_puts tables [] = tables
with_puts tables (change ∷ changes) = with_puts (with_put tables change) changes

-- the tables without rows at the cells of changes that put none
abbrev pub with_deletes : Tables → List Change → Tables
with_deletes tables [] = tables
with_deletes tables (change ∷ changes) = with_deletes (cond change.1.puts tables (remove tables change.0)) changes

-- the tables with what a change that puts a row has kept
abbrev pub with_restored : Tables → Change → Tables
with_restored tables change = cond change.1.puts (with_row tables change.0 change.1.row) tables

-- the tables with what all such changes have kept
abbrev pub restored : Tables → List Change → Tables
restored tables [] = tables
restored tables (change ∷ changes) = restored (with_restored tables change) changes
