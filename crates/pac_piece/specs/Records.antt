-- What records make of a frame: each is an operation with literals.
use Rattle.std.specs.Prelude.{ℕ, List, Option, Some, None, map}
use Rattle.pac_value.specs.declared.values.Value.{Value}
use Rattle.pac_value.specs.State.{Cell, RowValues, Tables}
use Rattle.pac_ops.specs.declared.transaction.Change.{Change}
use Rattle.pac_ops.specs.declared.transaction.Change.TheVariants.{Put, Delete}
use Rattle.pac_ops.specs.Operations.{Leaves}
use Rattle.pac_ops.specs.Effects.{numbered_from, record_op}
use Rattle.pac_piece.specs.declared.frame.Frame.{Frame}
use Rattle.pac_piece.specs.Frames.{RunsTo, state_seen}
use Rattle.pac_piece.specs.Steps.{Applies}

-- the cell of a record
abbrev pub record_cell : Change → Cell
record_cell (Put table key row) = (table, key)
record_cell (Delete table key) = (table, key)

-- the row that it leaves there, or none
abbrev pub record_row : Change → Option RowValues
record_row (Put table key row) = Some row
record_row (Delete table key) = None

-- one record leaves its row
abbrev pub ChangesOne : {K : Type 0} → (K → ℕ → Value → K → Type 0) → Change → Frame K → Frame K → Type 0
ChangesOne Adds change old new = Applies Adds (Some (record_cell change)) (Leaves (record_row change)) old new

-- the records were executed as operations, over any rows and in a transaction of any number
abbrev pub ChangesAll : {K : Type 0} → (K → ℕ → Value → K → Type 0) → List Change → Frame K → Frame K → Type 0
ChangesAll Adds records old new = (base : Tables) (txn : ℕ) → RunsTo Adds base txn (numbered_from 0 (map record_op records)) (state_seen base old) old.outs new
