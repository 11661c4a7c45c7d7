-- What the parts of a core's calls leave.
use Rattle.std.specs.Prelude.{◌≡◌, ◌<◌, ◌≤◌, ◌-◌, ◌+◌, ◌==◌, if◌then◌else◌, slice_set, ℕ, T, Bool, false, not, List, [], ◌∷◌, ◌++◌, map, length, replicate, slice_get, Option, Some, None, sum_by, unwrap_or}
use Rattle.std.specs.List.{AllByRecursion, AllZip}
use Rattle.std.specs.FinMap.{empty, is_sorted}
use Rattle.pac_value.specs.Expressions.{Values}
use Rattle.pac_ops.specs.Notes.{least}
use Rattle.pac_ops.specs.Operations.{with_values}
use Rattle.pac_ops.specs.declared.batch.Batch.{Batch}
use Rattle.pac_ops.specs.declared.note.Note.{Note}
use Rattle.pac_ops.specs.declared.piece.PieceId.{PieceId}
use Rattle.pac_ops.specs.declared.transaction.Txn.{Txn}
use Rattle.pac_plan.specs.declared.access.Access.{Access}
use Rattle.pac_plan.specs.declared.parts.PlanParts.{PlanParts}
use Rattle.pac_plan.specs.Pieces.{access_of, part}
use Rattle.pac_plan.specs.Worlds.{txn_args, txn_block, txn_code}
use Rattle.pac_plan.specs.Codes.{HasTxnInputs, TxnFitsPlan}
use Rattle.pac_batch.specs.declared.piece_set.PieceSet.{PieceSet}
use Rattle.pac_batch.specs.Sets.{has_numbers, sets_of}
use Rattle.pac_sched.specs.declared.state.PieceState.TheVariants as state
use Rattle.pac_sched.specs.declared.state.Pick.TheVariants.{Piece}
use Rattle.pac_sched.specs.Schedules.{IsInOrder, Schedule, all_finished, pick, reclaimed, state_of_piece, with_state}
use Rattle.pac_sets.specs.declared.set_id.SetId.{SetId}
use Rattle.pac_sets.specs.SetOrder.{set_cmp}
use Rattle.pac_sets.specs.Sets.{IsOpenSet, Kept, with_kept_at}
use Rattle.pac_commute.specs.Loads.{Job}
use Rattle.pac_core.specs.declared.loaded.LoadedBatch.{LoadedBatch}
use Rattle.pac_core.specs.declared.loading.Added.{Added}
use Rattle.pac_core.specs.declared.alone.NextAlone.{NextAlone}
use Rattle.pac_core.specs.declared.alone.NextAlone.TheVariants.{OfWaiting, OfOpen}
use Rattle.pac_core.specs.declared.place.Place.{Place}
use Rattle.pac_core.specs.declared.progress.Progress.{Progress}
use Rattle.pac_core.specs.declared.stage.OpenSet.{OpenSet}
use Rattle.pac_core.specs.declared.stage.SetStage.{SetStage}
use Rattle.pac_core.specs.declared.stage.SetStage.TheVariants.{Waiting, Open}
use Rattle.pac_core.specs.Cells.{HasCellsOf}
use Rattle.pac_core.specs.Inputs.{FindsInputs}
use Rattle.pac_core.specs.Places.{IsPieceAt, IsTxnIn}
use Rattle.pac_core.specs.Links.{AreKeptPairs, IsUnfinishedBatch, batches_of, piece_in, replay_so_far}
use Rattle.pac_core.specs.Takes.{IsNextPiece}

-- nothing is loaded, by this plan, and transactions begin with this number
pub record IsOpeningProgress (parts : PlanParts) (first : ℕ) (p : Progress) : Type 0 where
  pub pieces : p.pieces ≡ parts
  pub batches : p.batches.items ≡ []
  pub sets : p.sets ≡ record { edges = parts.edges; blocks = parts.blocks; sets = [] }
  pub note : p.note ≡ None
  pub first_is : p.first ≡ first
  pub next : p.next ≡ first
  pub unfinished : p.unfinished ≡ 0
  pub opening : p.is_closed ≡ false
  pub recent : p.recent ≡ 0

-- ---- opening

-- the access of a transaction's piece in a block, over the values that are kept of it
abbrev pub access_over : PlanParts → LoadedBatch → ℕ → ℕ → Access
access_over parts loaded block t =
    let txn : Option Txn = slice_get loaded.batch.txns (t - loaded.batch.first) in
    access_of (part (txn_block parts txn) block (txn_code parts txn)) (unwrap_or (slice_get loaded.kept.items (t - loaded.batch.first)) empty)

-- values are kept of each transaction of a batch, and what its piece in a block finds of them are its inputs
pub record HasAllInputs (parts : PlanParts) (loaded : LoadedBatch) (block : ℕ) : Type 0 where
  pub all : length loaded.kept.items ≡ length loaded.batch.txns
  pub each : (i : ℕ) (txn : Txn) (kept env : Values) → slice_get loaded.batch.txns i ≡ Some txn → slice_get loaded.kept.items i ≡ Some kept
      → FindsInputs parts block txn kept env → HasTxnInputs parts block txn env

-- the pieces of these transactions in a block are opened, and none of them is handed out
pub record IsFreshlyOpen (parts : PlanParts) (loaded : LoadedBatch) (block : ℕ) (txns : List ℕ) (opening : OpenSet) : Type 0 where
  pub pieces : opening.sched.pieces ≡ map (piece_in block) txns
  pub states : opening.sched.states ≡ replicate (length txns) state.Waiting
  pub pairs : AreKeptPairs (map (access_over parts loaded block) txns) opening.sched.pairs
  pub cells : HasCellsOf (map (access_over parts loaded block) txns) opening.cells.items

-- how many pairs are kept of a set
abbrev pub pairs_of : Option SetStage → ℕ
pairs_of None = 0
pairs_of (Some (Waiting txns)) = 0
pairs_of (Some (Open opening)) = length opening.sched.pairs

-- so many are kept of the set at an offset
abbrev pub HasPairsAt : Progress → ℕ → ℕ → Type 0
HasPairsAt p at n = (set : SetId) (kept : Option SetStage) → slice_get p.sets.sets at ≡ Some (set, kept) → n ≡ pairs_of kept

-- and of all of some
abbrev pub pairs_kept : List (Kept SetStage) → ℕ
pairs_kept sets = sum_by (λ (set : Kept SetStage). pairs_of set.1) sets

-- the set at an offset is open, with this
pub record StandsOpen (p : Progress) (at : ℕ) : Type 0 where
  pub set : SetId
  pub opening : OpenSet
  pub there : slice_get p.sets.sets at ≡ Some (set, Some (Open opening))

-- the pieces of the set at an offset, which waits, are opened so
pub record IsOpeningOf (p : Progress) (at : ℕ) (opening : OpenSet) : Type 0 where
  pub set : SetId
  pub txns : List ℕ
  pub loaded : LoadedBatch
  pub there : slice_get p.sets.sets at ≡ Some (set, Some (Waiting txns))
  pub loaded_there : slice_get p.batches.items set.batch ≡ Some loaded
  pub fresh : IsFreshlyOpen p.pieces loaded set.block txns opening

-- the set at an offset is open now
abbrev pub opened_at : Progress → ℕ → OpenSet → Progress
opened_at p at opening = record p { sets = record p.sets { sets = with_kept_at p.sets.sets at (Some (Open opening)) } }

-- ---- what comes next

-- no piece of the open set at an offset is ready
abbrev pub HasNoneReady : Progress → ℕ → Type 0
HasNoneReady p at = (set : SetId) (opening : OpenSet) → slice_get p.sets.sets at ≡ Some (set, Some (Open opening)) → (piece : PieceId) → pick opening.sched ≡ Piece piece → ⊥

-- a piece is the first ready one of the set at an offset
pub record IsReadyAtOffset (p : Progress) (at : ℕ) (piece : PieceId) : Type 0 where
  pub stands : StandsOpen p at
  pub picked : pick stands.opening.sched ≡ Piece piece

-- a piece is that of the first transaction that is left of a set that waits and may be opened, and has this place
pub record IsFirstLeft (p : Progress) (place : Place) (piece : PieceId) : Type 0 where
  pub txn : IsTxnIn p.batches.items piece.txn place.batch place.index
  pub rest : List ℕ
  pub there : slice_get p.sets.sets place.at ≡ Some (record { batch = place.batch; block = piece.block }, Some (Waiting (piece.txn ∷ rest)))
  pub opened : IsOpenSet p.sets.edges p.sets.sets place.at

-- what comes next for one who runs pieces alone: the first piece that is left of a set that waits, or a ready one of an open set
abbrev pub IsNextOf : Progress → NextAlone → Type 0
IsNextOf p (OfWaiting place piece) = IsFirstLeft p place piece
IsNextOf p (OfOpen at piece) = IsReadyAtOffset p at piece

-- its piece
abbrev pub piece_of : NextAlone → PieceId
piece_of (OfWaiting place piece) = piece
piece_of (OfOpen at piece) = piece

-- it is the piece that comes next
abbrev pub IsNextAlone : Job → Progress → Option NextAlone → Type 0
IsNextAlone job p None = IsNextPiece (replay_so_far job p) None
IsNextAlone job p (Some next) = IsNextPiece (replay_so_far job p) (Some (piece_of next)) × IsNextOf p next

-- the piece that comes next, and where its set stands
abbrev pub IsNextAt : Job → Progress → Option (ℕ × PieceId) → Type 0
IsNextAt job p None = IsNextPiece (replay_so_far job p) None
IsNextAt job p (Some next) = IsNextPiece (replay_so_far job p) (Some next.1) × IsReadyAtOffset p next.0 next.1

-- ---- a piece is finished

-- what is kept of a set after one of its pieces was finished: nothing where all are
abbrev pub after_finish : OpenSet → Option SetStage
after_finish opening = if all_finished opening.sched then None else Some (Open opening)

-- an open set with a piece finished
abbrev pub finished_in : OpenSet → PieceId → OpenSet
finished_in opening piece = record { sched = with_state opening.sched piece state.Finished; cells = opening.cells }

-- what is kept of a set that waits once its first piece is finished: nothing where that was the last one
abbrev pub after_first : List ℕ → Option SetStage
after_first rest = if has_numbers rest then Some (Waiting rest) else None

-- of a batch's transactions one keeps these values now
abbrev pub keeps_now : List Values → ℕ → Values → List Values
keeps_now kept i env = slice_set kept i env

-- a piece of the set at an offset, of which this is kept then, is finished with a note, and with values that are kept of the transaction at a position in its batch
pub record IsFinishedTo (p : Progress) (at : ℕ) (id : SetId) (after : Option SetStage) (i : ℕ) (kept : Values) (note : Option Note) (new : Progress) : Type 0 where
  pub pieces : new.pieces ≡ p.pieces
  pub sets : new.sets ≡ record p.sets { sets = with_kept_at p.sets.sets at after }
  pub note_is : new.note ≡ least p.note note
  pub first : new.first ≡ p.first
  pub next : new.next ≡ p.next
  pub unfinished : new.unfinished + 1 ≡ p.unfinished
  pub closed : new.is_closed ≡ p.is_closed
  pub batches : batches_of new ≡ batches_of p
  pub values : (k : ℕ) (loaded : LoadedBatch) → slice_get new.batches.items k ≡ Some loaded → IsUnfinishedBatch new.sets.sets k
      → (before : LoadedBatch) × (slice_get p.batches.items k ≡ Some before) × (loaded.batch ≡ before.batch) × (loaded.kept.items ≡ (if k == id.batch then keeps_now before.kept.items i kept else before.kept.items))
  pub recent : (new.recent ≤ p.recent) × (new.recent ≤ at)

-- ---- pieces of an open set move

-- the schedule of the open set at an offset is changed
abbrev pub IsMovedTo : (Schedule → Schedule) → Progress → ℕ → Progress → Type 0
IsMovedTo change p at new = (set : SetId) (opening : OpenSet) → slice_get p.sets.sets at ≡ Some (set, Some (Open opening))
    → new ≡ record p { sets = record p.sets { sets = with_kept_at p.sets.sets at (Some (Open (record { sched = change opening.sched; cells = opening.cells }))) } }

-- what is out or finished in it then has waited for finished pieces alone
abbrev pub IsOrderAfter : (Schedule → Schedule) → Progress → ℕ → Type 0
IsOrderAfter change p at = (set : SetId) (opening : OpenSet) → slice_get p.sets.sets at ≡ Some (set, Some (Open opening)) → IsInOrder (change opening.sched)

-- a piece of the open set at an offset is out
pub record IsPieceOut (p : Progress) (at : ℕ) (piece : PieceId) : Type 0 where
  pub stands : StandsOpen p at
  pub out : state_of_piece stands.opening.sched piece ≡ Some state.Out

-- this was the open set at an offset
abbrev pub WasOpen : Progress → ℕ → OpenSet → Type 0
WasOpen p at was = (set : SetId) (opening : OpenSet) → slice_get p.sets.sets at ≡ Some (set, Some (Open opening)) → was ≡ opening

-- one without pieces stands in its place
abbrev pub IsLifted : Progress → ℕ → Progress → Type 0
IsLifted p at new = new ≡ record p { sets = record p.sets { sets = with_kept_at p.sets.sets at (Some (Waiting [])) } }

-- each set is in one of the plan's blocks
abbrev pub AreInBlocks : Progress → Type 0
AreInBlocks p = (j : ℕ) (set : Kept SetStage) → slice_get p.sets.sets j ≡ Some set → set.0.block < p.pieces.blocks

-- a set isn't finished
abbrev pub IsSetUnfinished : List (Kept SetStage) → SetId → Type 0
IsSetUnfinished sets set = (j : ℕ) × (stage : SetStage) × (slice_get sets j ≡ Some (set, Some stage))

-- a piece that is out may be finished: its set is open, its transaction has room for values, and it is counted
pub record MayFinish (p : Progress) (place : Place) (piece : PieceId) : Type 0 where
  pub placed : IsPieceAt p place piece state.Out
  pub room : place.index < length placed.txn.loaded.kept.items
  pub counted : 0 < p.unfinished
  pub opened : IsOpenSet p.sets.edges p.sets.sets place.at
  pub ascend : T (is_sorted set_cmp p.sets.sets)
  pub blocks : AreInBlocks p

-- a piece at a place is finished, with values that are kept and a note
abbrev pub IsFinishedAt : Progress → Place → PieceId → Values → Option Note → Progress → Type 0
IsFinishedAt p place piece kept note new = (set : SetId) (opening : OpenSet) → slice_get p.sets.sets place.at ≡ Some (set, Some (Open opening)) → set.batch ≡ place.batch
    → IsFinishedTo p place.at set (after_finish (finished_in opening piece)) place.index kept note new

-- the first transaction that is left of the set at an offset, which waits, and the others
pub record StandsWaiting (p : Progress) (at : ℕ) : Type 0 where
  pub set : SetId
  pub first : ℕ
  pub rest : List ℕ
  pub there : slice_get p.sets.sets at ≡ Some (set, Some (Waiting (first ∷ rest)))

-- the first piece of a set that waits may be finished: all that its set waits for is finished, its batch is loaded, and it is
-- counted
pub record MayFinishFirst (p : Progress) (place : Place) : Type 0 where
  pub stands : StandsWaiting p place.at
  pub loaded : LoadedBatch
  pub loaded_there : slice_get p.batches.items place.batch ≡ Some loaded
  pub counted : 0 < p.unfinished
  pub opened : IsOpenSet p.sets.edges p.sets.sets place.at
  pub ascend : T (is_sorted set_cmp p.sets.sets)
  pub blocks : AreInBlocks p

-- it is finished, with values that are kept and a note
abbrev pub IsFirstFinished : Progress → Place → Values → Option Note → Progress → Type 0
IsFirstFinished p place kept note new = (set : SetId) (first : ℕ) (rest : List ℕ) → slice_get p.sets.sets place.at ≡ Some (set, Some (Waiting (first ∷ rest))) → set.batch ≡ place.batch
    → IsFinishedTo p place.at set (after_first rest) place.index kept note new

-- the first transaction that is left of the set at an offset is left no more
abbrev pub IsFirstDropped : Progress → ℕ → Progress → Type 0
IsFirstDropped p at new = (set : SetId) (first : ℕ) (rest : List ℕ) → slice_get p.sets.sets at ≡ Some (set, Some (Waiting (first ∷ rest)))
    → new ≡ record p { sets = record p.sets { sets = with_kept_at p.sets.sets at (Some (Waiting rest)) } }

-- whether none is left then
abbrev pub IsLastOf : Progress → ℕ → Bool → Type 0
IsLastOf p at is = (set : SetId) (first : ℕ) (rest : List ℕ) → slice_get p.sets.sets at ≡ Some (set, Some (Waiting (first ∷ rest))) → not (has_numbers rest) ≡ is

-- there is room for the values of a transaction
abbrev pub HasValuesAt : List LoadedBatch → ℕ → ℕ → Type 0
HasValuesAt batches batch index = (loaded : LoadedBatch) × (slice_get batches batch ≡ Some loaded) × (index < length loaded.kept.items)

-- of a batch other values are kept, and of the others those that were
pub record AreValuesKept (old : List LoadedBatch) (batch : ℕ) (change : List Values → List Values) (new : List LoadedBatch) : Type 0 where
  pub batches : map (λ (loaded : LoadedBatch). loaded.batch) new ≡ map (λ (loaded : LoadedBatch). loaded.batch) old
  pub each : (k : ℕ) (loaded : LoadedBatch) → slice_get new k ≡ Some loaded
      → (before : LoadedBatch) × (slice_get old k ≡ Some before) × (loaded.batch ≡ before.batch) × (loaded.kept.items ≡ (if k == batch then change before.kept.items else before.kept.items))

-- one transaction has these values now
abbrev pub keeps_now_at : ℕ → Values → List Values → List Values
keeps_now_at i env kept = keeps_now kept i env

-- each has the values that it had
abbrev pub keeps_all : List Values → List Values
keeps_all kept = kept

-- none has values
abbrev pub keeps_none : List Values → List Values
keeps_none kept = []

-- the set at an offset is finished, and values are kept of each batch that has an unfinished one
pub record IsSetEnded (p : Progress) (at : ℕ) (new : Progress) : Type 0 where
  pub pieces : new.pieces ≡ p.pieces
  pub sets : new.sets ≡ record p.sets { sets = with_kept_at p.sets.sets at None }
  pub note_is : new.note ≡ p.note
  pub first : new.first ≡ p.first
  pub next : new.next ≡ p.next
  pub unfinished : new.unfinished ≡ p.unfinished
  pub closed : new.is_closed ≡ p.is_closed
  pub batches : batches_of new ≡ batches_of p
  pub values : (k : ℕ) (loaded : LoadedBatch) → slice_get new.batches.items k ≡ Some loaded → IsUnfinishedBatch new.sets.sets k
      → (before : LoadedBatch) × (slice_get p.batches.items k ≡ Some before) × (loaded.batch ≡ before.batch) × (loaded.kept.items ≡ before.kept.items)
  pub recent : new.recent ≡ p.recent

-- ---- a batch is loaded

-- a set of the batch at an offset, none of whose pieces is opened
abbrev pub IsWaitingSet : ℕ → PieceSet → Kept SetStage → Type 0
IsWaitingSet k set added = added ≡ (record { batch = k; block = set.block }, Some (Waiting set.txns))

-- a batch is loaded after the others
pub record IsLoadedTo (p : Progress) (batch : Batch) (new : Progress) : Type 0 where
  pub pieces : new.pieces ≡ p.pieces
  pub more : List (Kept SetStage)
  pub sets : new.sets ≡ record p.sets { sets = p.sets.sets ++ more }
  pub waiting : AllZip (IsWaitingSet (length p.batches.items)) (sets_of p.pieces batch.first batch.txns) more
  pub note_is : new.note ≡ p.note
  pub first : new.first ≡ p.first
  pub next : new.next ≡ p.next + length batch.txns
  pub unfinished : new.unfinished ≡ p.unfinished + sum_by (λ (set : PieceSet). length set.txns) (sets_of p.pieces batch.first batch.txns)
  pub closed : new.is_closed ≡ p.is_closed
  pub loaded : LoadedBatch
  pub batches : new.batches.items ≡ p.batches.items ++ loaded ∷ []
  pub batch_is : loaded.batch ≡ batch
  pub kept : map (λ (txn : Txn). with_values 0 (txn_args (Some txn)) empty) batch.txns ≡ loaded.kept.items
  pub recent : new.recent ≡ 0

-- a batch may be loaded: its numbers go on, and its transactions fit the plan
pub record MayLoadBatch (p : Progress) (batch : Batch) : Type 0 where
  pub first : batch.first ≡ p.next
  pub fits : AllByRecursion (TxnFitsPlan p.pieces) batch.txns

-- what a batch adds
pub record AreAdded (p : Progress) (batch : Batch) (added : Added) : Type 0 where
  pub sets : AllZip (IsWaitingSet (length p.batches.items)) (sets_of p.pieces batch.first batch.txns) added.sets.items
  pub kept : map (λ (txn : Txn). with_values 0 (txn_args (Some txn)) empty) batch.txns ≡ added.kept.items
  pub pieces : added.pieces ≡ sum_by (λ (set : PieceSet). length set.txns) (sets_of p.pieces batch.first batch.txns)

-- the same is kept
pub record IsAlike (p new : Progress) : Type 0 where
  pub pieces : new.pieces ≡ p.pieces
  pub batches : new.batches.items ≡ p.batches.items
  pub sets : new.sets ≡ p.sets
  pub note_is : new.note ≡ p.note
  pub first : new.first ≡ p.first
  pub next : new.next ≡ p.next
  pub unfinished : new.unfinished ≡ p.unfinished
  pub closed : new.is_closed ≡ p.is_closed
  pub recent : new.recent ≡ p.recent

-- ---- pieces that are out wait again

-- none of the pieces that are opened is out any more
abbrev pub reclaimed_stage : SetStage → SetStage
reclaimed_stage (Waiting txns) = Waiting txns
reclaimed_stage (Open opening) = Open (record { sched = reclaimed opening.sched; cells = opening.cells })

-- of what is kept of a set
abbrev pub reclaimed_kept : Option SetStage → Option SetStage
reclaimed_kept None = None
reclaimed_kept (Some stage) = Some (reclaimed_stage stage)

-- of all sets
abbrev pub reclaimed_sets : List (Kept SetStage) → List (Kept SetStage)
reclaimed_sets sets = map (λ (set : Kept SetStage). (set.0, reclaimed_kept set.1)) sets

-- of the set at an offset
abbrev pub IsReclaimedAt : Progress → ℕ → Progress → Type 0
IsReclaimedAt p at new = (set : SetId) (kept : Option SetStage) → slice_get p.sets.sets at ≡ Some (set, kept)
    → new ≡ record p { sets = record p.sets { sets = with_kept_at p.sets.sets at (reclaimed_kept kept) } }
