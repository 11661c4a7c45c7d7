-- When flat forms mean what the procedures mean that they are of.
use Rattle.std.specs.Prelude.{◌≡◌, ℕ, List, [], Some, Result, Ok, Err}
use Rattle.pac_value.specs.declared.values.Value.{Value}
use Rattle.pac_value.specs.State.{Tables}
use Rattle.pac_ops.specs.declared.note.Note.{Note}
use Rattle.pac_ops.specs.declared.program.Program.{Program}
use Rattle.pac_ops.specs.declared.transaction.Txn.{Txn}
use Rattle.pac_ops.specs.Flat.{flat_meaning, notes_of}
use Rattle.pac_ops.specs.Notes.{first_note}
use Rattle.pac_ops.specs.Operations.{State, opening}
use Rattle.pac_ops.specs.Transactions.{Replayed, replayed}
use Rattle.pac_types.specs.declared.procedure.Proc.{Proc}
use Rattle.pac_types.specs.Meaning.{meaning}
use Rattle.pac_types.specs.Execution.{in_txn, serial}

-- a state and notes are what is meant: where that is a state, it is this very state, hidden variables too, and no note is
-- left; where it is an abort, the first note reports it
abbrev pub Agrees : Result State Note → State → List Note → Type 0
Agrees (Ok t) s notes = (s ≡ t) × (notes ≡ [])
Agrees (Err note) s notes = first_note notes ≡ Some note

-- a program means what a procedure means, in a transaction of any number, for all arguments and all tables
pub record MeansTheSame (proc : Proc) (program : Program) : Type 0 where
  pub called : (txn : ℕ) (args : List Value) (tables : Tables)
      → Agrees (in_txn txn (meaning proc (opening args tables))) (flat_meaning program.vars program.ops (opening args tables)) (notes_of program.vars txn 0 program.ops (opening args tables))

-- what is replayed is what serial execution gives: where that ends, the tables are the same and no note is left; where it
-- stops, the first note says where and why
abbrev pub AllAgree : Result Tables Note → Replayed → Type 0
AllAgree (Ok tables) all = (all.tables ≡ tables) × (all.notes ≡ [])
AllAgree (Err note) all = first_note all.notes ≡ Some note

-- replays of programs are serial executions of procedures, from any number and over all tables; ad hoc transactions may
-- stand among the calls
pub record ReplaysTheSame (procs : List Proc) (programs : List Program) : Type 0 where
  pub executed : (first : ℕ) (txns : List Txn) (tables : Tables) → AllAgree (serial procs first txns tables) (replayed programs first txns tables)
