-- The machine of shares: it loads batches and finishes shares; what that keeps, and what stands while a share is lent and once it is back.
use Rattle.std.specs.Prelude.{◌≡◌, true, false, List, ◌++◌, None}
use Rattle.pac_ops.specs.declared.batch.Batch.{Batch}
use Rattle.pac_ops.specs.declared.piece.PieceId.{PieceId}
use Rattle.pac_ops.specs.Notes.{first_note}
use Rattle.pac_ops.specs.Transactions.{replayed}
use Rattle.pac_base.specs.Members.{Each, Mem}
use Rattle.pac_plan.specs.Analysis.{IsPlan}
use Rattle.pac_plan.specs.Pieces.{Present, Location}
use Rattle.pac_commute.specs.PlanLaws.{txns_of}
use Rattle.pac_commute.specs.PartialFits.{TxnsFitPlan}
use Rattle.pac_commute.specs.Loads.{Job, begin, next_in_job, loaded, and_batch}
use Rattle.pac_commute.specs.Machine.{Machine, among, opening_machine, world_at, pieces_at, ends_at}
use Rattle.pac_lanes.specs.Shares.{adds_all, applied_each, RunsInOrder, HasInputsAtTurns}
use Rattle.pac_lanes.specs.Lanes.{Lane, StaysIn, AreDisjoint, is_lent_with, Agree, ArePart, IsPutBack}
use Rattle.pac_commute.specs.Machine.{MayBeTaken, StepsBy, KeepsJob}

-- ---- steps

-- no piece is out
abbrev pub NothingOut : Machine → Type 0
NothingOut m = (p : PieceId) → m.out p ≡ false

-- the machine once these are
abbrev pub after_share : Job → Machine → List PieceId → Machine
after_share job m ps = record m { finished = adds_all m.finished ps; now = applied_each (world_at job m) ps m.now }

-- these run in order from what is finished
abbrev pub RunsAt : Job → Machine → List PieceId → Type 0
RunsAt job m ps = RunsInOrder (world_at job m) (ends_at job m) (pieces_at job m) m.finished ps

-- a batch is loaded whose numbers run on and whose transactions fit the plan; pieces that run in order, and that may be finished, are
pub data ShareStep (job : Job) (May : Machine → List PieceId → Type 0) : Machine → Machine → Type 0 where
  Loaded : (m : Machine) (batch : Batch) → batch.first ≡ next_in_job job m.batches → TxnsFitPlan job.parts batch.txns
      → ShareStep job May m (record m { batches = and_batch m.batches batch; now = loaded (next_in_job job m.batches) (begin job (and_batch m.batches batch)).envs m.now })
  Finished : (m : Machine) (ps : List PieceId) → RunsAt job m ps → May m ps → ShareStep job May m (after_share job m ps)

-- steps one after another
pub data ShareSteps (job : Job) (May : Machine → List PieceId → Type 0) : Machine → Machine → Type 0 where
  Stop : (m : Machine) → ShareSteps job May m m
  Then : (m n o : Machine) → ShareStep job May m n → ShareSteps job May n o → ShareSteps job May m o

-- any pieces may
abbrev pub Any : Machine → List PieceId → Type 0
Any m ps = Unit {0}

-- the finish of pieces that run in order is a list of steps of the machine of pieces, in which each is run once what it needs is finished
abbrev pub FinishIsSteps : Type 0
FinishIsSteps = (job : Job) (m : Machine) → NothingOut m → (ps : List PieceId) → RunsAt job m ps → StepsBy job (MayBeTaken job) m (after_share job m ps)

-- so each step of the machine of shares is such a list, and nothing is out
abbrev pub StepIsSteps : Type 0
StepIsSteps = (job : Job) (m n : Machine) → ShareStep job Any m n → NothingOut m → StepsBy job (MayBeTaken job) m n × (NothingOut n)

-- ---- what is kept

-- a machine with nothing loaded keeps what is said of machines, and nothing is out
abbrev pub OpensShares : Type 0
OpensShares = (job : Job) → KeepsJob job (opening_machine job) × (NothingOut (opening_machine job))

-- and so do steps one after another: the state is the partial replay of what is finished
abbrev pub SharesKeep : Type 0
SharesKeep = (job : Job) → IsPlan job.parts → (m n : Machine) → ShareSteps job Any m n → KeepsJob job m → NothingOut m → KeepsJob job n × (NothingOut n)

-- no step takes back what is finished
abbrev pub SharesStayFinished : Type 0
SharesStayFinished = (job : Job) (m n : Machine) → ShareSteps job Any m n → (p : PieceId) → m.finished p ≡ true → n.finished p ≡ true

-- when all pieces are finished, it has the replayed tables and their first note
abbrev pub SharesEnd : Type 0
SharesEnd = (job : Job) → IsPlan job.parts → (m : Machine) → KeepsJob job m → ((p : PieceId) → Mem p (pieces_at job m) → m.finished p ≡ true)
    → (m.now.tables ≡ (replayed job.parts.programs job.first (txns_of m.batches) job.tables).tables)
    × (m.now.note ≡ first_note (replayed job.parts.programs job.first (txns_of m.batches) job.tables).notes)

-- ---- a share that is lent

-- its pieces stay in the lane, and run in order from what is finished
pub record IsLent (job : Job) (m : Machine) (lane : Lane) (share : List PieceId) : Type 0 where
  pub stays : Each (StaysIn (world_at job m) (ends_at job m) lane) share
  pub runs : RunsAt job m share

-- its pieces find their inputs at their turns
abbrev pub LentHasInputs : Type 0
LentHasInputs = (job : Job) → IsPlan job.parts → (m : Machine) → KeepsJob job m → (ps : List PieceId) → RunsAt job m ps → HasInputsAtTurns (world_at job m) (ends_at job m) ps m.now

-- pieces that may be finished beside it: they stay in a lane that is disjoint from its own, and none is of the share
abbrev pub Beside : Job → Lane → List PieceId → Machine → List PieceId → Type 0
Beside job lane share m qs = (other : Lane) × AreDisjoint (world_at job m) lane other × Each (StaysIn (world_at job m) (ends_at job m) other) qs × ((q : PieceId) → Mem q qs → among share q ≡ false)

-- it is lent still, its lane and its variables are the same places, with what stood there, and its pieces do what they did
pub record StaysLent (job : Job) (lane : Lane) (share : List PieceId) (m n : Machine) : Type 0 where
  pub lent : IsLent job n lane share
  pub places : (c : Location) → is_lent_with (world_at job n) lane share c ≡ is_lent_with (world_at job m) lane share c
  pub same : Agree (is_lent_with (world_at job m) lane share) n.now m.now
  pub does : (ps : List PieceId) → ArePart ps share → (s : Present) → applied_each (world_at job n) ps s ≡ applied_each (world_at job m) ps s

-- whatever is loaded and finished beside it
abbrev pub LentStays : Type 0
LentStays = (job : Job) → IsPlan job.parts → (lane : Lane) (share : List PieceId) (m n : Machine) → KeepsJob job m → NothingOut m → IsLent job m lane share
    → ShareSteps job (Beside job lane share) m n → StaysLent job lane share m n × KeepsJob job n × (NothingOut n)

-- what the first pieces of a share made of what was lent when it was given out, put back now, is these pieces finished; the rest is lent still
abbrev pub ReturnIsFinish : Type 0
ReturnIsFinish = (job : Job) → IsPlan job.parts → (lane : Lane) (run rest : List PieceId) (m n : Machine) → KeepsJob job m → NothingOut m → IsLent job m lane (run ++ rest)
    → ShareSteps job (Beside job lane (run ++ rest)) m n
    → (lent after : Present) → Agree (is_lent_with (world_at job m) lane (run ++ rest)) m.now lent → lent.note ≡ None
    → IsPutBack (world_at job n) lane (run ++ rest) (applied_each (world_at job m) run lent) n.now after
    → RunsAt job n run × ((after_share job n run).now ≡ after) × IsLent job (after_share job n run) lane rest
