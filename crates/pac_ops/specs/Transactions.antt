-- What transactions mean: ad hoc ones by their changes, made in order, and calls by their programs.
use Rattle.std.specs.Prelude.{◌+◌, ℕ, List, [], ◌∷◌, ◌++◌, slice_get, Option, Some, None}
use Rattle.std.specs.FinMap.{empty}
use Rattle.pac_value.specs.declared.values.Value.{Value}
use Rattle.pac_value.specs.Expressions.{Values}
use Rattle.pac_value.specs.State.{Tables, with_row}
use Rattle.pac_ops.specs.declared.note.Note.{Note}
use Rattle.pac_ops.specs.declared.program.Program.{Program}
use Rattle.pac_ops.specs.declared.transaction.Change.{Change}
use Rattle.pac_ops.specs.declared.transaction.Change.TheVariants.{Put, Delete}
use Rattle.pac_ops.specs.declared.transaction.Txn.{Txn}
use Rattle.pac_ops.specs.declared.transaction.Txn.TheVariants.{Call as ACall, AdHoc}
use Rattle.pac_ops.specs.Operations.{State, opening}
use Rattle.pac_ops.specs.Flat.{flat_meaning, notes_of}

-- the tables with a change made
abbrev pub with_change : Tables → Change → Tables
with_change tables (Put table key row) = with_row tables (table, key) (Some row)
with_change tables (Delete table key) = with_row tables (table, key) None

-- the tables with changes made, one after another
abbrev pub with_changes : Tables → List Change → Tables
with_changes tables [] = tables
with_changes tables (change ∷ changes) = with_changes (with_change tables change) changes

-- the state after a call of a program; one of a program that is not there does nothing
abbrev pub call_state : Option Program → List Value → Tables → State
call_state None args tables = opening args tables
call_state (Some program) args tables = flat_meaning program.vars program.ops (opening args tables)

-- the notes that a call leaves
abbrev pub call_notes : Option Program → ℕ → List Value → Tables → List Note
call_notes None txn args tables = []
call_notes (Some program) txn args tables = notes_of program.vars txn 0 program.ops (opening args tables)

-- the state after a transaction; ad hoc records have no variables
abbrev pub txn_state : List Program → Txn → Tables → State
txn_state programs (ACall call) tables = call_state (slice_get programs call.proc) call.args tables
txn_state programs (AdHoc records) tables = record { env = empty; tables = with_changes tables records }

-- the notes that a transaction leaves
abbrev pub txn_notes : List Program → ℕ → Txn → Tables → List Note
txn_notes programs txn (ACall call) tables = call_notes (slice_get programs call.proc) txn call.args tables
txn_notes programs txn (AdHoc records) tables = []

-- what transactions leave: the tables, the values of the variables of each, and the notes
pub record Replayed : Type 0 where
  pub tables : Tables
  pub envs : List Values
  pub notes : List Note

-- after a transaction that left this state and these notes
abbrev pub after_txn : State → List Note → Replayed → Replayed
after_txn s notes rest = record { tables = rest.tables; envs = s.env ∷ rest.envs; notes = notes ++ rest.notes }

-- all operations of each transaction in their order, the transactions one after another, numbered from the first
abbrev pub replayed : List Program → ℕ → List Txn → Tables → Replayed
replayed programs first [] tables = record { tables = tables; envs = []; notes = [] }
replayed programs first (txn ∷ txns) tables =
    after_txn (txn_state programs txn tables) (txn_notes programs first txn tables) (replayed programs (first + 1) txns (txn_state programs txn tables).tables)
