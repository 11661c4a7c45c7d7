-- Transactions that have not ended.
use Rattle.std.specs.Prelude.{◌≡◌, ℕ, true, List, map, length, slice_get, IsSomeAnd}
use Rattle.std.specs.FinMap.{contains_key}
use Rattle.pac_value.specs.State.{Cell, Tables}
use Rattle.pac_ops.specs.Operations.{State}
use Rattle.pac_ops.specs.Shapes.{KeyFits}
use Rattle.pac_types.specs.declared.table.Table.{Table}
use Rattle.pac_types.specs.Fits.{shape, FitTables}
use Rattle.pac_serial.specs.declared.transaction.RunningTxn.{RunningTxn}
use Rattle.pac_serial.specs.WriteSets.{Changes, as_changed, AreUnmade}

-- what a transaction sees: the values of its variables, and the tables
abbrev pub state_of : Tables → RunningTxn → State
state_of held txn = record { env = txn.env; tables = as_changed held txn.write_set }

-- each cell that is changed has a key of its table's type
abbrev pub KeysFit : List Table → Changes → Type 0
KeysFit tables changes = (cell : Cell) → contains_key changes cell ≡ true → IsSomeAnd (slice_get (map shape tables) cell.0) (KeyFits cell.1)

-- a transaction with these changes runs over the rows of the catalogue's tables: what it sees fits them, and so do the keys
pub record RunsOver (tables : List Table) (number : ℕ) (held : Tables) (changes : Changes) : Type 0 where
  pub count : number ≡ length tables
  pub unmade : AreUnmade number changes
  pub fits : FitTables tables (as_changed held changes)
  pub keys : KeysFit tables changes
