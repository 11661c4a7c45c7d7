-- Where a piece stands: its transaction in its batch, its set, and itself in the set.
use Rattle.std.specs.Prelude.{◌≡◌, ◌<◌, ◌+◌, ℕ, false, List, map, length, slice_get, Option, Some}
use Rattle.pac_value.specs.Expressions.{Values}
use Rattle.pac_ops.specs.declared.piece.PieceId.{PieceId}
use Rattle.pac_ops.specs.declared.transaction.Txn.{Txn}
use Rattle.pac_sched.specs.declared.state.PieceState.{PieceState}
use Rattle.pac_sched.specs.Schedules.{is_out, position_of}
use Rattle.pac_sets.specs.declared.set_id.SetId.{SetId}
use Rattle.pac_commute.specs.PlanLaws.{NumbersRunOn}
use Rattle.pac_core.specs.declared.cells.PieceCells.{PieceCells}
use Rattle.pac_core.specs.declared.loaded.LoadedBatch.{LoadedBatch}
use Rattle.pac_core.specs.declared.place.Place.{Place}
use Rattle.pac_core.specs.declared.progress.Progress.{Progress}
use Rattle.pac_core.specs.declared.stage.OpenSet.{OpenSet}
use Rattle.pac_core.specs.declared.stage.SetStage.{SetStage}
use Rattle.pac_core.specs.declared.stage.SetStage.TheVariants.{Open}
use Rattle.pac_core.specs.Links.{mark}

-- the numbers of batches run on from some number
abbrev pub LoadedRunOn : List LoadedBatch → Type 0
LoadedRunOn batches = (first : ℕ) × NumbersRunOn first (map (λ (loaded : LoadedBatch). loaded.batch) batches)

-- the transaction of a number is at an index in the batch at an offset
pub record IsTxnIn (batches : List LoadedBatch) (t batch index : ℕ) : Type 0 where
  pub loaded : LoadedBatch
  pub there : slice_get batches batch ≡ Some loaded
  pub inside : index < length loaded.batch.txns
  pub number : t ≡ loaded.batch.first + index

-- no transaction has the number
abbrev pub IsTxnNowhere : List LoadedBatch → ℕ → Type 0
IsTxnNowhere batches t = (batch index : ℕ) → IsTxnIn batches t batch index → ⊥

-- a piece of the open set at an offset stands at a position in it, and has this state
pub record IsPieceIn (p : Progress) (at : ℕ) (piece : PieceId) (position : ℕ) (far : PieceState) : Type 0 where
  pub set : SetId
  pub opening : OpenSet
  pub there : slice_get p.sets.sets at ≡ Some (set, Some (Open opening))
  pub position_is : position_of opening.sched piece ≡ Some position
  pub far_is : slice_get opening.sched.states position ≡ Some far

-- a piece of an open set has this place and this state
pub record IsPieceAt (p : Progress) (place : Place) (piece : PieceId) (far : PieceState) : Type 0 where
  pub txn : IsTxnIn p.batches.items piece.txn place.batch place.index
  pub stands : IsPieceIn p place.at piece place.position far
  pub set_is : stands.set ≡ record { batch = place.batch; block = piece.block }

-- a piece has this place: its transaction in its batch, and its set, which isn't finished
pub record IsPlaceOf (p : Progress) (place : Place) (piece : PieceId) : Type 0 where
  pub txn : IsTxnIn p.batches.items piece.txn place.batch place.index
  pub stage : SetStage
  pub there : slice_get p.sets.sets place.at ≡ Some (record { batch = place.batch; block = piece.block }, Some stage)

-- a piece of an open set has this place
abbrev pub HasPlace : Progress → PieceId → Place → Type 0
HasPlace p piece place = (far : PieceState) × IsPieceAt p place piece far

-- the set at an offset doesn't have the piece out
abbrev pub IsNotOutOf : Progress → ℕ → PieceId → Type 0
IsNotOutOf p at piece = (set : SetId) (kept : Option SetStage) → slice_get p.sets.sets at ≡ Some (set, kept) → is_out (mark kept piece) ≡ false

-- ---- what stands at a place

-- the open set at an offset
abbrev pub IsOpenAt : Progress → ℕ → OpenSet → Type 0
IsOpenAt p at opening = (set : SetId) × (slice_get p.sets.sets at ≡ Some (set, Some (Open opening)))

-- the transaction
abbrev pub IsTxnAt : Progress → Place → Txn → Type 0
IsTxnAt p place txn = (loaded : LoadedBatch) × (slice_get p.batches.items place.batch ≡ Some loaded) × (slice_get loaded.batch.txns place.index ≡ Some txn)

-- the values that are kept of it
abbrev pub AreValuesAt : Progress → Place → Values → Type 0
AreValuesAt p place kept = (loaded : LoadedBatch) × (slice_get p.batches.items place.batch ≡ Some loaded) × (slice_get loaded.kept.items place.index ≡ Some kept)

-- the cells of the piece
abbrev pub AreCellsAt : Progress → Place → PieceCells → Type 0
AreCellsAt p place cells = (set : SetId) × (opening : OpenSet) × (slice_get p.sets.sets place.at ≡ Some (set, Some (Open opening))) × (slice_get opening.cells.items place.position ≡ Some cells)
