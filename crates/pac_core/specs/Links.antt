-- How what a core keeps stands for a replay: sets and their stages for the pieces that are out and finished, values that are kept
-- for the variables of the present, and the note for its note.
use Rattle.std.specs.Prelude.{◌≡◌, ◌<◌, ◌≤◌, ◌-◌, ◌+◌, ◌*◌, ◌==◌, if◌then◌else◌, ℕ, Bool, true, false, List, [], ◌∷◌, ◌++◌, map, filter, length, slice_get, Option, Some, None, T, unwrap_or}
use Rattle.std.specs.FinMap.{get, is_sorted}
use Rattle.std.specs.List.{list_any}
use Rattle.pac_value.specs.Expressions.{Values}
use Rattle.pac_ops.specs.declared.batch.Batch.{Batch}
use Rattle.pac_ops.specs.declared.piece.PieceId.{PieceId}
use Rattle.pac_ops.specs.declared.transaction.Txn.{Txn}
use Rattle.pac_ops.specs.Shapes.{RowsFit}
use Rattle.pac_plan.specs.declared.access.Access.{Access}
use Rattle.pac_plan.specs.declared.parts.PlanParts.{PlanParts}
use Rattle.pac_plan.specs.Analysis.{IsPlan}
use Rattle.pac_plan.specs.Pieces.{Present}
use Rattle.pac_plan.specs.Worlds.{batch_of}
use Rattle.pac_batch.specs.declared.piece_set.PieceSet.{PieceSet}
use Rattle.pac_batch.specs.NextLists.{AreNextPairs, count_touches}
use Rattle.pac_batch.specs.Sets.{has_numbers, set_of, sets_of}
use Rattle.pac_sched.specs.declared.state.PieceState.{PieceState}
use Rattle.pac_sched.specs.declared.state.PieceState.TheVariants as state
use Rattle.pac_sched.specs.Schedules.{IsInOrder, all_finished, is_finished, is_out, state_of_piece}
use Rattle.pac_sets.specs.declared.set_id.SetId.{SetId}
use Rattle.pac_sets.specs.SetOrder.{set_cmp}
use Rattle.pac_sets.specs.Sets.{Kept, WaitsForNothing, kept_of}
use Rattle.pac_undo.specs.Undo.{Undoable}
use Rattle.pac_commute.specs.Loads.{Job, pieces_of, next_in_job}
use Rattle.pac_commute.specs.Machine.{IsReadyAt, KeepsJob, KeepsPrecedence, access_at}
use Rattle.pac_core.specs.declared.loaded.LoadedBatch.{LoadedBatch}
use Rattle.pac_core.specs.declared.stage.OpenSet.{OpenSet}
use Rattle.pac_core.specs.declared.stage.SetStage.{SetStage}
use Rattle.pac_core.specs.declared.stage.SetStage.TheVariants.{Waiting, Open}
use Rattle.pac_core.specs.declared.progress.Progress.{Progress}
use Rattle.pac_core.specs.Cells.{HasCellsOf}
use Rattle.pac_core.specs.Inputs.{is_found}
use Rattle.pac_core.specs.Replay.{Replay, left, machine_of, present_of}

-- ---- how far pieces are

-- the set of a piece: of the batch of its transaction, and of its block
abbrev pub set_of_piece : List Batch → PieceId → SetId
set_of_piece batches p = record { batch = batch_of batches p.txn - 1; block = p.block }

-- how far a piece is, by what is kept of its set: finished, where nothing is kept of it
abbrev pub mark : Option SetStage → PieceId → PieceState
mark None p = state.Finished
mark (Some (Waiting txns)) p = if list_any (λ t. t == p.txn) txns then state.Waiting else state.Finished
mark (Some (Open opening)) p = unwrap_or (state_of_piece opening.sched p) state.Finished

-- how far a piece of what is loaded is
abbrev pub mark_in : List Batch → List (Kept SetStage) → PieceId → PieceState
mark_in batches sets p = mark (kept_of (set_of_piece batches p) sets) p

-- the loaded pieces whose state passes the test, in order
abbrev pub pieces_marked : (PieceState → Bool) → Job → List Batch → List (Kept SetStage) → List PieceId
pieces_marked test job batches sets = filter (λ p. test (mark_in batches sets p)) (pieces_of job batches)

-- the batches that are loaded
abbrev pub batches_of : Progress → List Batch
batches_of p = map (λ (loaded : LoadedBatch). loaded.batch) p.batches.items

-- the replay of a job with this progress
abbrev pub replay_so_far : Job → Progress → Replay
replay_so_far job p = record {
  job = job;
  batches = batches_of p;
  is_closed = p.is_closed;
  out = pieces_marked is_out job (batches_of p) p.sets.sets;
  finished = pieces_marked is_finished job (batches_of p) p.sets.sets;
}

-- ---- stages

-- a piece of a transaction
abbrev pub piece_in : ℕ → ℕ → PieceId
piece_in block txn = record { txn = txn; block = block }

-- these are the next pairs of accesses, and few
abbrev pub AreKeptPairs : List Access → List (ℕ × ℕ) → Type 0
AreKeptPairs accesses pairs = AreNextPairs accesses pairs × (length pairs ≤ 2 * count_touches accesses + 2 * length accesses)

-- these pieces of a set were opened: they are scheduled by the next pairs of their accesses, the cells of each are known, and the sets
-- that this one waits for are finished
pub record IsOpened (r : Replay) (sets : List (Kept SetStage)) (set : SetId) (txns : List ℕ) (opening : OpenSet) : Type 0 where
  pub pieces : opening.sched.pieces ≡ map (piece_in set.block) txns
  pub pairs : AreKeptPairs (map (access_at r.job (machine_of r)) opening.sched.pieces) opening.sched.pairs
  pub order : IsInOrder opening.sched
  pub cells : HasCellsOf (map (access_at r.job (machine_of r)) opening.sched.pieces) opening.cells.items
  pub passed : WaitsForNothing r.job.parts.edges sets set
  pub left : all_finished opening.sched ≡ false
  pub size : length opening.sched.states ≡ length opening.sched.pieces

-- a list ends with another one, which isn't empty
pub record IsRest (all rest : List ℕ) : Type 0 where
  pub before : List ℕ
  pub is : before ++ rest ≡ all
  pub some : has_numbers rest ≡ true

-- what is kept of a set is right, where these are the transactions that have pieces in it: it is kept of the last of them
abbrev pub IsStageOf : Replay → List (Kept SetStage) → SetId → List ℕ → SetStage → Type 0
IsStageOf r sets set txns (Waiting rest) = IsRest txns rest
IsStageOf r sets set txns (Open opening) = (rest : List ℕ) × IsRest txns rest × IsOpened r sets set rest opening

-- so is what is kept of each unfinished set
abbrev pub AreStages : Replay → List (Kept SetStage) → Type 0
AreStages r sets = (j : ℕ) (set : SetId) (stage : SetStage) (batch : Batch) → slice_get sets j ≡ Some (set, Some stage) → slice_get r.batches set.batch ≡ Some batch
    → IsStageOf r sets set (set_of r.job.parts batch.first batch.txns set.block).txns stage

-- the sets of batches, the first of which has this number
abbrev pub set_ids : PlanParts → ℕ → List Batch → List SetId
set_ids parts k [] = []
set_ids parts k (batch ∷ batches) = map (λ (set : PieceSet). record { batch = k; block = set.block }) (sets_of parts batch.first batch.txns) ++ set_ids parts (k + 1) batches

-- ---- values

-- of the variables that a transaction has as inputs in some block, the kept values are those of the present
abbrev pub KeepsInputs : PlanParts → Txn → Values → Values → Type 0
KeepsInputs parts txn kept env = (block x : ℕ) → block < parts.blocks → is_found parts block txn x ≡ true → get kept x ≡ get env x

-- a batch has a set that isn't finished
abbrev pub IsUnfinishedBatch : List (Kept SetStage) → ℕ → Type 0
IsUnfinishedBatch sets k = (j : ℕ) × (set : SetId) × (stage : SetStage) × (slice_get sets j ≡ Some (set, Some stage)) × (set.batch ≡ k)

-- for each transaction of a batch values are kept
pub record KeepsBatch (parts : PlanParts) (now : Present) (loaded : LoadedBatch) : Type 0 where
  pub all : length loaded.kept.items ≡ length loaded.batch.txns
  pub each : (i : ℕ) (txn : Txn) (kept : Values) → slice_get loaded.batch.txns i ≡ Some txn → slice_get loaded.kept.items i ≡ Some kept
      → KeepsInputs parts txn kept (now.envs (loaded.batch.first + i))

-- so are they for each batch that has a set that isn't finished
abbrev pub KeepsValues : Replay → List LoadedBatch → List (Kept SetStage) → Type 0
KeepsValues r batches sets = (k : ℕ) (loaded : LoadedBatch) → slice_get batches k ≡ Some loaded → IsUnfinishedBatch sets k → KeepsBatch r.job.parts (present_of r) loaded

-- ---- all of it

-- what is kept stands for the replay of a job
pub record KeepsProgress (job : Job) (p : Progress) : Type 0 where
  pub parts : job.parts ≡ p.pieces
  pub first : job.first ≡ p.first
  pub edges : p.sets.edges ≡ p.pieces.edges
  pub blocks : p.sets.blocks ≡ p.pieces.blocks
  pub is_plan : IsPlan job.parts
  pub fit : RowsFit job.parts.tables job.tables
  pub machine : KeepsJob job (machine_of (replay_so_far job p))
  pub order : KeepsPrecedence job (machine_of (replay_so_far job p))
  pub note : p.note ≡ (present_of (replay_so_far job p)).note
  pub next : p.next ≡ next_in_job job (batches_of p)
  pub unfinished : p.unfinished ≡ left (replay_so_far job p)
  pub sets : map (λ (set : Kept SetStage). set.0) p.sets.sets ≡ set_ids job.parts 0 (batches_of p)
  pub ascend : T (is_sorted set_cmp p.sets.sets)
  pub stages : AreStages (replay_so_far job p) p.sets.sets
  pub values : KeepsValues (replay_so_far job p) p.batches.items p.sets.sets

-- it stands for the replay of some job
pub record IsKeptProgress (p : Progress) : Type 0 where
  pub job : Job
  pub keeps : KeepsProgress job p

-- each ready piece is of a set from an offset on
abbrev pub ReadyFrom : Job → Progress → ℕ → Type 0
ReadyFrom job p from = (q : PieceId) (j : ℕ) (kept : Option SetStage) → IsReadyAt job (machine_of (replay_so_far job p)) q → slice_get p.sets.sets j ≡ Some (set_of_piece (batches_of p) q, kept) → from ≤ j

-- the job of a core: by its plan, from its first number and from the tables of its opening on
abbrev pub job_of : Progress → Undoable → Job
job_of p undo = record { parts = p.pieces; first = p.first; tables = undo.opening }

-- all that a core keeps stands for the replay of its job, and no set before the one where a ready piece is looked for first has one
pub record IsCore (p : Progress) (undo : Undoable) : Type 0 where
  pub progress : KeepsProgress (job_of p undo) p
  pub tables : undo.tables ≡ length p.pieces.tables
  pub rows : undo.current ≡ (present_of (replay_so_far (job_of p undo) p)).tables
  pub seen : ReadyFrom (job_of p undo) p p.recent

-- the replay that a core's parts stand for
abbrev pub core_of : Progress → Undoable → Replay
core_of p undo = replay_so_far (job_of p undo) p
