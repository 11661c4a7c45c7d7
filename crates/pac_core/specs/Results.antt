-- What a piece leaves, and what is kept of its transaction then.
use Rattle.std.specs.Prelude.{◌≡◌, ◌<◌, ℕ, true, List, length, slice_get, Option, Some}
use Rattle.std.specs.FinMap.{get}
use Rattle.pac_value.specs.declared.values.Value.{Value}
use Rattle.pac_value.specs.Expressions.{Values}
use Rattle.pac_ops.specs.declared.note.Note.{Note}
use Rattle.pac_ops.specs.declared.piece.PieceId.{PieceId}
use Rattle.pac_ops.specs.declared.transaction.Txn.{Txn}
use Rattle.pac_ops.specs.Effects.{NumberedOp, defined_in}
use Rattle.pac_ops.specs.Notes.{least}
use Rattle.pac_plan.specs.declared.parts.PlanParts.{PlanParts}
use Rattle.pac_plan.specs.Codes.{TxnFitsPlan}
use Rattle.pac_plan.specs.Pieces.{Present, apply, ops}
use Rattle.pac_tables.specs.declared.writes.Write.{Write}
use Rattle.pac_tables.specs.Written.{written}
use Rattle.pac_commute.specs.Machine.{world_at}
use Rattle.pac_commute.specs.Works.{given_over}
use Rattle.pac_core.specs.declared.loaded.LoadedBatch.{LoadedBatch}
use Rattle.pac_core.specs.declared.place.Place.{Place}
use Rattle.pac_core.specs.declared.progress.Progress.{Progress}
use Rattle.pac_core.specs.Inputs.{LeavesValues, PassesOn}
use Rattle.pac_core.specs.Moves.{AreValuesKept, keeps_all, keeps_now_at}
use Rattle.pac_core.specs.Places.{AreValuesAt, IsTxnAt}
use Rattle.pac_core.specs.Replay.{Replay, machine_of, present_of}
use Rattle.pac_core.specs.Values.{GivesTo}

-- what the value of code makes of a state
pub record IsGiven (p : PieceId) (os : List NumberedOp) (writes : List Write) (outs : Values) (note : Option Note) (before after : Present) : Type 0 where
  pub tables : after.tables ≡ written before.tables writes
  pub own : (x : ℕ) → get (after.envs p.txn) x ≡ given_over (get outs x) (get (before.envs p.txn) x)
  pub others : (u x : ℕ) → (u ≡ p.txn → ⊥) → get (after.envs u) x ≡ get (before.envs u) x
  pub note_is : after.note ≡ least before.note note
  pub defined : (x : ℕ) (v : Value) → get outs x ≡ Some v → defined_in os x ≡ true

-- these writes, values and note make of the present what the piece makes of it
abbrev pub IsResult : Replay → PieceId → List Write → Values → Option Note → Type 0
IsResult r p writes outs note = IsGiven p (ops (world_at r.job (machine_of r)) p) writes outs note (present_of r) (apply (world_at r.job (machine_of r)) p (present_of r))

-- these values are kept of a piece's transaction once the piece gave others
abbrev pub IsKeptAfter : Progress → Place → PieceId → Values → Values → Type 0
IsKeptAfter p place piece outs new = (txn : Txn) (kept : Values) → IsTxnAt p place txn → AreValuesAt p place kept → LeavesValues p.pieces piece.block txn outs kept new

-- among these values are those that a piece gives: the writes and the note are its result with them, and what is kept where all are
-- given is what is kept where they alone are
pub record IsResultAmong (r : Replay) (p : Progress) (place : Place) (piece : PieceId) (writes : List Write) (all : Values) (note : Option Note) : Type 0 where
  pub outs : Values
  pub result : IsResult r piece writes outs note
  pub leaves : (now : Values) → IsKeptAfter p place piece all now → IsKeptAfter p place piece outs now

-- of a transaction these variables keep the values that were given to them
pub record HasGiven (old : List LoadedBatch) (batch i : ℕ) (vars : List ℕ) (given : Values) (new : List LoadedBatch) : Type 0 where
  pub loaded : LoadedBatch
  pub there : slice_get old batch ≡ Some loaded
  pub kept : Values
  pub kept_there : slice_get loaded.kept.items i ≡ Some kept
  pub now : Values
  pub gives : GivesTo vars given kept now
  pub values : AreValuesKept old batch (keeps_now_at i now) new
  pub after : LoadedBatch
  pub after_there : slice_get new batch ≡ Some after
  pub now_there : slice_get after.kept.items i ≡ Some now

-- there is a transaction at a place
abbrev pub HasTxnAt : List LoadedBatch → Place → Type 0
HasTxnAt batches place = (loaded : LoadedBatch) × (slice_get batches place.batch ≡ Some loaded) × (place.index < length loaded.batch.txns)

-- the transaction at a place fits the plan
abbrev pub FitsAt : PlanParts → List LoadedBatch → Place → Type 0
FitsAt parts batches place = (loaded : LoadedBatch) (txn : Txn) → slice_get batches place.batch ≡ Some loaded → slice_get loaded.batch.txns place.index ≡ Some txn → TxnFitsPlan parts txn

-- of the transaction at a place those values are kept that its piece in a block gave for others
pub record KeepsLeft (parts : PlanParts) (block : ℕ) (old : List LoadedBatch) (place : Place) (outs : Values) (new : List LoadedBatch) : Type 0 where
  pub loaded : LoadedBatch
  pub there : slice_get old place.batch ≡ Some loaded
  pub txn : Txn
  pub txn_there : slice_get loaded.batch.txns place.index ≡ Some txn
  pub vars : List ℕ
  pub outputs : PassesOn parts block txn vars
  pub given : HasGiven old place.batch place.index vars outs new

-- all is as it was but for the values of a piece's transaction: they are those after the piece gave others
pub record HasLeft (p : Progress) (place : Place) (piece : PieceId) (outs : Values) (new : Progress) : Type 0 where
  pub now : Values
  pub leaves : IsKeptAfter p place piece outs now
  pub values : AreValuesKept p.batches.items place.batch (keeps_now_at place.index now) new.batches.items
  pub stands : AreValuesAt new place now
  pub rest : new ≡ record p { batches = new.batches }

-- all is as it was, and the same values are kept
pub record HasKept (p : Progress) (place : Place) (new : Progress) : Type 0 where
  pub values : AreValuesKept p.batches.items place.batch keeps_all new.batches.items
  pub rest : new ≡ record p { batches = new.batches }
