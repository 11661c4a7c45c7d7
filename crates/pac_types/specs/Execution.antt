-- Serial execution: transactions one after another, and tables that are over a limit.
use Rattle.std.specs.Prelude.{◌+◌, ℕ, zero, suc, nat_lt, if◌then◌else◌, List, [], ◌∷◌, length, slice_get, Option, Some, None, Result, Ok, Err}
use Rattle.std.specs.Option.{option_or}
use Rattle.pac_value.specs.declared.values.Value.{Value}
use Rattle.pac_value.specs.Expressions.{◌>>=◌}
use Rattle.pac_value.specs.State.{Tables, keys_of}
use Rattle.pac_ops.specs.declared.note.Note.{Note}
use Rattle.pac_ops.specs.declared.transaction.Txn.{Txn}
use Rattle.pac_ops.specs.declared.transaction.Txn.TheVariants.{Call as ACall, AdHoc}
use Rattle.pac_ops.specs.Transactions.{with_changes}
use Rattle.pac_types.specs.declared.procedure.Proc.{Proc}
use Rattle.pac_types.specs.Meaning.{Abort, called}

-- what a call of a procedure makes of the tables, or its abort; one of a procedure that is not there does nothing
abbrev pub called_at : Option Proc → List Value → Tables → Result Tables Abort
called_at None args tables = Ok tables
called_at (Some proc) args tables = called proc args tables

-- what a transaction makes of the tables, or its abort; ad hoc records always end
abbrev pub txn_meaning : List Proc → Txn → Tables → Result Tables Abort
txn_meaning procs (ACall call) tables = called_at (slice_get procs call.proc) call.args tables
txn_meaning procs (AdHoc records) tables = Ok (with_changes tables records)

-- an abort of the transaction with this number
abbrev pub in_txn : {A : Type 0} → ℕ → Result A Abort → Result A Note
in_txn txn (Ok x) = Ok x
in_txn txn (Err abort) = Err (record { txn = txn; op = abort.0; reason = abort.1 })

-- the transactions one after another, numbered from the first, up to the first of them that aborts
abbrev pub serial : List Proc → ℕ → List Txn → Tables → Result Tables Note
serial procs first [] tables = Ok tables
serial procs first (txn ∷ txns) tables = in_txn first (txn_meaning procs txn tables) >>= λ t. serial procs (first + 1) txns t

-- a table's number and how many rows it has, where these are more than the limit
abbrev pub if_over : ℕ → ℕ → ℕ → Option (ℕ × ℕ)
if_over limit table rows = if nat_lt limit rows then Some (table, rows) else None

-- the first of that many tables that has more rows than the limit, and how many; None where there is none
abbrev pub first_over : ℕ → ℕ → Tables → Option (ℕ × ℕ)
first_over limit zero rows = None
first_over limit (suc table) rows = option_or (first_over limit table rows) (if_over limit table (length (keys_of rows table)))
