-- What the calls of a core answer, and what each makes of the replay.
use Rattle.std.specs.Prelude.{◌≡◌, ◌≢◌, ◌<◌, ◌+◌, ◌^◌, ⊤, ℕ, true, false, List, [], ◌∷◌, length, sum_by, Option, Some, None}
use Rattle.pac_value.specs.State.{Tables}
use Rattle.pac_ops.specs.declared.batch.Batch.{Batch}
use Rattle.pac_ops.specs.declared.note.Note.{Note}
use Rattle.pac_ops.specs.declared.piece.PieceId.{PieceId}
use Rattle.pac_ops.specs.Notes.{first_note}
use Rattle.pac_ops.specs.Transactions.{replayed}
use Rattle.pac_plan.specs.declared.access.Access.TheVariants.{Whole}
use Rattle.pac_plan.specs.declared.parts.PlanParts.{PlanParts}
use Rattle.pac_batch.specs.NextLists.{touches_in}
use Rattle.pac_piece.specs.declared.work.Work.{Work}
use Rattle.pac_piece.specs.Results.{WorkDone}
use Rattle.pac_piece.specs.Runnable.{IsRunnable}
use Rattle.pac_undo.specs.Undo.{AreSameIn}
use Rattle.pac_commute.specs.Loads.{next_in_job}
use Rattle.pac_commute.specs.Machine.{among}
use Rattle.pac_commute.specs.PartialFits.{TxnsFitPlan}
use Rattle.pac_commute.specs.PlanLaws.{txns_of}
use Rattle.pac_core.specs.declared.answers.Take.{Take}
use Rattle.pac_core.specs.declared.answers.Take.TheVariants.{Given, Ran, NotReady, Done}
use Rattle.pac_core.specs.declared.answers.Finish.{Finish}
use Rattle.pac_core.specs.declared.answers.Finish.TheVariants as finish
use Rattle.pac_core.specs.Replay.{Replay, left, loaded_pieces, with_batch_loaded, with_finished, with_out, without_out}
use Rattle.pac_core.specs.Takes.{IsNextPiece, IsWorkIn, access_now}

-- a batch may be loaded: more may come, its numbers run on, and its transactions fit the plan
pub record MayLoad (r : Replay) (batch : Batch) : Type 0 where
  pub opening : r.is_closed ≡ false
  pub first : batch.first ≡ next_in_job r.job r.batches
  pub fits : TxnsFitPlan r.job.parts batch.txns

-- no more may come, and all is finished
abbrev pub IsReplayDone : Replay → Type 0
IsReplayDone r = (r.is_closed ≡ true) × (left r ≡ 0)

-- what a take answers, and leaves. The piece that comes next is given out, or is applied where its access is whole. Where none is ready, some may
-- be later, unless all is done
abbrev pub IsTakenPiece : Replay → Take → Replay → Type 0
IsTakenPiece old (Given work) new = IsNextPiece old (Some work.piece) × (access_now old work.piece ≢ Whole) × IsWorkIn old work × IsRunnable work × (new ≡ with_out old work.piece)
IsTakenPiece old (Ran piece) new = IsNextPiece old (Some piece) × (access_now old piece ≡ Whole) × (new ≡ with_finished old piece)
IsTakenPiece old NotReady new = IsNextPiece old None × (IsReplayDone old → ⊥) × (new ≡ old)
IsTakenPiece old Done new = IsReplayDone old × (new ≡ old)

-- the piece that comes next is finished at once, whatever its access is; where none is ready, all is as it was
abbrev pub IsNextFinished : Replay → Option PieceId → Replay → Type 0
IsNextFinished old (Some piece) new = IsNextPiece old (Some piece) × (new ≡ with_finished old piece)
IsNextFinished old None new = IsNextPiece old None × (new ≡ old)

-- how many pieces a take ran on the spot
abbrev pub run_by : Take → ℕ
run_by (Given work) = 0
run_by (Ran piece) = 1
run_by NotReady = 0
run_by Done = 0

-- work of a piece whose access is of keys: as the replay has it, and may be run
abbrev pub IsGivenWork : Replay → PieceId → Work → Type 0
IsGivenWork r piece work = (work.piece ≡ piece) × (access_now r piece ≢ Whole) × IsWorkIn r work × IsRunnable work

-- work is of a piece that is out, and as the replay has it
abbrev pub IsOwn : Replay → Work → Type 0
IsOwn r work = (among r.out work.piece ≡ true) × IsWorkIn r work

-- what handing in of a result answers, and leaves: where it is of own work it is kept, or there is no memory for it; else it is foreign
abbrev pub IsHandedIn : Replay → WorkDone → Finish → Replay → Type 0
IsHandedIn old done finish.Kept new = IsOwn old done.work × (new ≡ with_finished old done.work.piece)
IsHandedIn old done (finish.Foreign back) new = (IsOwn old done.work → ⊥) × (back ≡ done) × (new ≡ old)
IsHandedIn old done (finish.NoMemory back) new = IsOwn old done.work × (back ≡ done) × (new ≡ old)

-- how many pieces the handing in of a result finished
abbrev pub handed_in_by : Finish → ℕ
handed_in_by finish.Kept = 1
handed_in_by (finish.Foreign back) = 0
handed_in_by (finish.NoMemory back) = 0

-- all is as it was, but perhaps for which pieces are out
abbrev pub MovesOut : Replay → Replay → Type 0
MovesOut old new = new ≡ record old { out = new.out }

-- work is given back: where it is own work, its piece is out no more; else all is as it was
abbrev pub IsGivenBack : Replay → Work → Replay → Type 0
IsGivenBack old work new = (IsOwn old work → new ≡ without_out old work.piece) × ((IsOwn old work → ⊥) → new ≡ old)

-- where none is out, one is ready while any is left
abbrev pub HasReadyPiece : Replay → Type 0
HasReadyPiece r = r.out ≡ [] → 0 < left r → IsNextPiece r None → ⊥

-- the same is loaded, no piece is out, and what was finished is finished still
pub record IsDrained (old new : Replay) : Type 0 where
  pub job : new.job ≡ old.job
  pub batches : new.batches ≡ old.batches
  pub closed : new.is_closed ≡ old.is_closed
  pub none : new.out ≡ []
  pub kept : (p : PieceId) → among old.finished p ≡ true → among new.finished p ≡ true

-- how many rows the accesses of the loaded pieces name
abbrev pub touches_loaded : Replay → ℕ
touches_loaded r = sum_by (λ p. touches_in (access_now r p)) (loaded_pieces r)

-- The tables and the note of a replay that is done are those that the flat form of its transactions leaves, one after another. An
-- abort is noted, and the others go on; where none is noted, the tables are those of executing the transactions.
pub record IsReplayOutcome (r : Replay) (tables : Tables) (note : Option Note) : Type 0 where
  pub tables_are : tables ≡ (replayed r.job.parts.programs r.job.first (txns_of r.batches) r.job.tables).tables
  pub note_is : note ≡ first_note (replayed r.job.parts.programs r.job.first (txns_of r.batches) r.job.tables).notes

-- this tells the job of a replay and what is loaded: the plan, the number of the first transaction, how many tables there are and their rows at the
-- opening, and the batches
pub record IsJobOf (r : Replay) (parts : PlanParts) (first tables : ℕ) (held : Tables) (batches : List Batch) : Type 0 where
  pub parts_are : parts ≡ r.job.parts
  pub first_is : first ≡ r.job.first
  pub tables_are : tables ≡ length r.job.parts.tables
  pub held_is : held ≡ r.job.tables
  pub batches_are : batches ≡ r.batches

-- the same, where each of the tables has the rows of the opening
abbrev pub IsOfJob : Replay → PlanParts → ℕ → ℕ → Tables → List Batch → Type 0
IsOfJob r parts first tables held batches = (parts ≡ r.job.parts) × (first ≡ r.job.first) × (batches ≡ r.batches) × (tables ≡ length r.job.parts.tables) × AreSameIn tables held r.job.tables

-- so may batches be loaded one after another, where each number fits
abbrev pub MayLoadAll : Replay → List Batch → Type 0
MayLoadAll r [] = ⊤
MayLoadAll r (batch ∷ batches) = MayLoad r batch × (batch.first + length batch.txns < 2 ^ 64) × MayLoadAll (with_batch_loaded r batch) batches

-- they are loaded one after another
abbrev pub with_batches : Replay → List Batch → Replay
with_batches r [] = r
with_batches r (batch ∷ batches) = with_batches (with_batch_loaded r batch) batches
