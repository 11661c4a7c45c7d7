-- What the execution of stored transactions gives.
use Rattle.std.specs.Prelude.{◌≡◌, ◌+◌, ℕ, List, Result, Ok, Err}
use Rattle.pac_value.specs.Expressions.{◌>>=◌}
use Rattle.pac_value.specs.State.{Tables}
use Rattle.pac_ops.specs.declared.note.Note.{Note}
use Rattle.pac_ops.specs.declared.batch.Batch.{Batch}
use Rattle.pac_ops.specs.declared.transaction.Txn.{Txn}
use Rattle.pac_types.specs.declared.procedure.Proc.{Proc}
use Rattle.pac_types.specs.Execution.{serial}
use Rattle.pac_types.specs.Fits.{FitsCatalogue}
use Rattle.pac_types.specs.Typing.{CatalogueState}
use Rattle.pac_restore.specs.Batches.{txns_in, RunOn}
use Rattle.pac_restore.specs.declared.execution.Execution.{Execution}
use Rattle.pac_restore.specs.declared.execution.Execution.TheVariants as replayed

-- the tables with which it ends, or the abort that stops it
abbrev pub outcome_of : {T : Type 0} → Execution T → Result Tables Note
outcome_of (replayed.Tables held) = Ok held.rows
outcome_of (replayed.Aborted note) = Err note

-- the same once these transactions are executed too, unless one before them aborts
abbrev pub then_serial : List Proc → ℕ → List Txn → Result Tables Note → Result Tables Note
then_serial procs first txns outcome = outcome >>= λ tables. serial procs first txns tables

-- its tables fit the catalogue
abbrev pub FitsReplayed : {T : Type 0} → CatalogueState → Execution T → Type 0
FitsReplayed catalogue (replayed.Tables held) = FitsCatalogue catalogue held.tables held.rows
FitsReplayed catalogue (replayed.Aborted note) = Unit {0}

-- batches that run on were executed over these tables
abbrev pub HasExecuted : {T : Type 0} → CatalogueState → Tables → Execution T → List Batch → Type 0
HasExecuted catalogue base executed batches = (before : ℕ) → RunOn before batches → outcome_of executed ≡ serial catalogue.procs (before + 1) (txns_in batches) base
