-- What holds of a core's replay at every moment, and that each call makes a step of the machine, over which own work stays own.
use Rattle.std.specs.Prelude.{◌≡◌, true, Option}
use Rattle.pac_ops.specs.declared.batch.Batch.{Batch}
use Rattle.pac_ops.specs.declared.piece.PieceId.{PieceId}
use Rattle.pac_ops.specs.Shapes.{RowsFit}
use Rattle.pac_plan.specs.Analysis.{IsPlan}
use Rattle.pac_piece.specs.declared.work.Work.{Work}
use Rattle.pac_piece.specs.Results.{WorkDone}
use Rattle.pac_piece.specs.Values.{begun}
use Rattle.pac_commute.specs.Machine.{IsReadyAt, KeepsJob, KeepsPrecedence, StepBy, among, ends_at, world_at}
use Rattle.pac_commute.specs.Works.{IsWork}
use Rattle.pac_core.specs.declared.answers.Take.{Take}
use Rattle.pac_core.specs.declared.answers.Take.TheVariants.{Given}
use Rattle.pac_core.specs.declared.answers.Finish.{Finish}
use Rattle.pac_core.specs.Calls.{IsGivenBack, IsHandedIn, IsNextFinished, IsOwn, IsTakenPiece, MayLoad, MovesOut}
use Rattle.pac_core.specs.Replay.{Replay, closed, machine_of, present_of, with_batch_loaded, with_none_out}

-- The plan is one, and the opening tables fit it. The numbers of what is loaded run on, and its transactions fit the plan. Each piece that is
-- finished or out is loaded, its predecessors are finished, and no piece is both; the access of what is out is of keys. The present is the partial
-- replay of what is finished.
pub record IsSound (r : Replay) : Type 0 where
  pub is_plan : IsPlan r.job.parts
  pub fit : RowsFit r.job.parts.tables r.job.tables
  pub machine : KeepsJob r.job (machine_of r)
  pub order : KeepsPrecedence r.job (machine_of r)

-- own work is work in the sense of the laws of pieces: it has the rows of its access, its inputs, and no values of what it defines
abbrev pub OwnIsWork : Replay → Type 0
OwnIsWork r = (work : Work) → IsOwn r work → IsWork (world_at r.job (machine_of r)) (ends_at r.job (machine_of r)) work.piece (present_of r) (begun work)

-- one step of the machine leads from a replay of a job to another, and own work is own still, as long as its piece is out
pub record IsEvent (old new : Replay) : Type 0 where
  pub job : new.job ≡ old.job
  pub step : StepBy old.job (IsReadyAt old.job) (machine_of old) (machine_of new)
  pub own : (work : Work) → IsOwn old work → among new.out work.piece ≡ true → IsOwn new work

-- whatever a call answers, what it leaves is the event of its name; and what a take gives is own work. So a result is foreign only where its work
-- wasn't given, or its piece was finished or put back since
pub record HasEvents (r : Replay) : Type 0 where
  pub loads : (batch : Batch) → MayLoad r batch → IsEvent r (with_batch_loaded r batch)
  pub takes : (take : Take) (new : Replay) → IsTakenPiece r take new → IsEvent r new
  pub runs : (next : Option PieceId) (new : Replay) → IsNextFinished r next new → IsEvent r new
  pub finishes : (done : WorkDone) (answer : Finish) (new : Replay) → IsHandedIn r done answer new → IsEvent r new
  pub gives_back : (work : Work) (new : Replay) → IsGivenBack r work new → MovesOut r new → IsEvent r new
  pub takes_back : IsEvent r (with_none_out r)
  pub closes : IsEvent r (closed r)
  pub gives_own : (work : Work) (new : Replay) → IsTakenPiece r (Given work) new → IsOwn new work
