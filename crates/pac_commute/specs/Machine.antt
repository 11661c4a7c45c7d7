-- The replay machine: what it holds, its steps, and what each step and each list of steps keeps. It takes pieces by any readiness that
-- asks for no less than what a piece needs; precedence is one.
use Rattle.std.specs.Prelude.{◌≡◌, ℕ, Bool, true, false, ◌&&◌, not, List, [], Option}
use Rattle.std.specs.List.{list_any}
use Rattle.pac_value.specs.declared.values.Value.{Value}
use Rattle.pac_value.specs.Expressions.{Values}
use Rattle.pac_value.specs.State.{Cell, RowValues}
use Rattle.pac_ops.specs.declared.batch.Batch.{Batch}
use Rattle.pac_ops.specs.declared.piece.PieceId.{PieceId}
use Rattle.pac_ops.specs.Notes.{first_note}
use Rattle.pac_ops.specs.Operations.{State}
use Rattle.pac_ops.specs.Shapes.{RowsFit}
use Rattle.pac_ops.specs.StaysFit.{StaysFitAt}
use Rattle.pac_ops.specs.Transactions.{replayed}
use Rattle.pac_plan.specs.Analysis.{IsPlan}
use Rattle.pac_base.specs.Members.{Mem}
use Rattle.pac_plan.specs.declared.access.Access.{Access}
use Rattle.pac_plan.specs.declared.access.Access.TheVariants.{Whole}
use Rattle.pac_plan.specs.Pieces.{Present, of_txn, World, is_piece, adds, ops, apply, access, conflicts, needs, precedes, partial, Location, at_location, touches, HasInputs}
use Rattle.pac_commute.specs.Exchange.{HoldsNeeds, HoldsPreds}
use Rattle.pac_commute.specs.HandOut.{IsReadyPiece}
use Rattle.pac_commute.specs.PlanLaws.{txns_of, NumbersRunOn}
use Rattle.pac_commute.specs.PartialFits.{PresentFits, TxnsFitPlan}
use Rattle.pac_commute.specs.Works.{IsWork, IsOutcome}
use Rattle.pac_commute.specs.Loads.{Job, world_of, pieces_of, begin, end_values, next_in_job, loaded, and_batch}

-- ---- the machine

-- the batches that are loaded, which pieces are out, which are finished, and the present state
pub record Machine : Type 0 where
  pub batches : List Batch
  pub out : PieceId → Bool
  pub finished : PieceId → Bool
  pub now : Present

-- whether a piece is among these
abbrev pub among : List PieceId → PieceId → Bool
among ps q = list_any (λ p. is_piece p q) ps

-- the pieces but for one
abbrev pub drops : (PieceId → Bool) → PieceId → PieceId → Bool
drops F p q = F q && not (is_piece p q)

-- nothing is loaded
abbrev pub opening_machine : Job → Machine
opening_machine job = record { batches = []; out = λ p. false; finished = λ p. false; now = begin job [] }

-- the world of what is loaded
abbrev pub world_at : Job → Machine → World
world_at job m = world_of job m.batches

-- the pieces of what is loaded, in order
abbrev pub pieces_at : Job → Machine → List PieceId
pieces_at job m = pieces_of job m.batches

-- the values that its transactions end with
abbrev pub ends_at : Job → Machine → ℕ → Values
ends_at job m = end_values job m.batches

-- the access of a piece
abbrev pub access_at : Job → Machine → PieceId → Access
access_at job m p = access (world_at job m) (ends_at job m) p

-- ---- readiness

-- what a piece needs is finished
abbrev pub NeedsFinished : Job → Machine → PieceId → Type 0
NeedsFinished job m p = (q : PieceId) → Mem q (pieces_at job m) → needs (world_at job m) (ends_at job m) q p ≡ true → m.finished q ≡ true

-- the predecessors of a piece are finished
abbrev pub PredsFinished : Job → Machine → PieceId → Type 0
PredsFinished job m p = (q : PieceId) → Mem q (pieces_at job m) → precedes (world_at job m) (ends_at job m) q p ≡ true → m.finished q ≡ true

-- a piece may be taken: it is loaded, neither out nor finished, and what it needs is finished. No readiness may ask for less
pub record MayBeTaken (job : Job) (m : Machine) (p : PieceId) : Type 0 where
  pub there : Mem p (pieces_at job m)
  pub in_hand : m.out p ≡ false
  pub unfinished : m.finished p ≡ false
  pub needed : NeedsFinished job m p

-- a piece is ready by precedence: it is loaded, neither out nor finished, and its predecessors are finished
abbrev pub IsReadyAt : Job → Machine → PieceId → Type 0
IsReadyAt job m p = IsReadyPiece (world_at job m) (ends_at job m) (pieces_at job m) m.out m.finished p

-- ---- steps

-- a batch is loaded whose numbers run on and whose transactions fit the plan; a ready piece whose access is of keys is handed
-- out; a ready piece is applied at once; a piece that is out is finished; pieces are given back, so that no other is out than was
pub data StepBy (job : Job) (Ready : Machine → PieceId → Type 0) : Machine → Machine → Type 0 where
  Loaded : (m : Machine) (batch : Batch) → batch.first ≡ next_in_job job m.batches → TxnsFitPlan job.parts batch.txns
      → StepBy job Ready m (record m { batches = and_batch m.batches batch; now = loaded (next_in_job job m.batches) (begin job (and_batch m.batches batch)).envs m.now })
  Given : (m : Machine) (p : PieceId) → Ready m p → (access_at job m p ≡ Whole → ⊥) → StepBy job Ready m (record m { out = adds m.out p })
  Ran : (m : Machine) (p : PieceId) → Ready m p → StepBy job Ready m (record m { finished = adds m.finished p; now = apply (world_at job m) p m.now })
  Kept : (m : Machine) (p : PieceId) → m.out p ≡ true → StepBy job Ready m (record m { out = drops m.out p; finished = adds m.finished p; now = apply (world_at job m) p m.now })
  GivenBack : (m : Machine) (out : PieceId → Bool) → ((p : PieceId) → out p ≡ true → m.out p ≡ true) → StepBy job Ready m (record m { out = out })

-- steps one after another
pub data StepsBy (job : Job) (Ready : Machine → PieceId → Type 0) : Machine → Machine → Type 0 where
  Stop : (m : Machine) → StepsBy job Ready m m
  Then : (m n o : Machine) → StepBy job Ready m n → StepsBy job Ready n o → StepsBy job Ready m o

-- steps one after another, with a piece out after each
pub data StaysOutBy (job : Job) (Ready : Machine → PieceId → Type 0) (p : PieceId) : Machine → Machine → Type 0 where
  Stop : (m : Machine) → StaysOutBy job Ready p m m
  Then : (m n o : Machine) → StepBy job Ready m n → n.out p ≡ true → StaysOutBy job Ready p n o → StaysOutBy job Ready p m o

-- ---- what each step keeps

-- a piece that is out is loaded and not finished, what it needs is finished, and its access is of keys
pub record IsOutBy (job : Job) (m : Machine) (p : PieceId) : Type 0 where
  pub there : Mem p (pieces_at job m)
  pub unfinished : m.finished p ≡ false
  pub needed : NeedsFinished job m p
  pub keys : access_at job m p ≡ Whole → ⊥

-- the numbers of what is loaded run on, and its transactions fit the plan; what each finished piece needs is finished, and what is
-- finished is loaded; what is out is as above; the state is the partial replay of what is finished
pub record KeepsJob (job : Job) (m : Machine) : Type 0 where
  pub run_on : NumbersRunOn job.first m.batches
  pub fit : TxnsFitPlan job.parts (txns_of m.batches)
  pub closed : HoldsNeeds (world_at job m) (ends_at job m) (pieces_at job m) m.finished
  pub finished : (p : PieceId) → m.finished p ≡ true → Mem p (pieces_at job m)
  pub outs : (p : PieceId) → m.out p ≡ true → IsOutBy job m p
  pub now : m.now ≡ partial (world_at job m) m.finished (pieces_at job m) (begin job m.batches)

-- by precedence more is kept: the predecessors of what is finished are finished, and those of what is out
pub record KeepsPrecedence (job : Job) (m : Machine) : Type 0 where
  pub closed : HoldsPreds (world_at job m) (ends_at job m) (pieces_at job m) m.finished
  pub outs : (p : PieceId) → m.out p ≡ true → PredsFinished job m p

-- a machine with nothing loaded keeps both
abbrev pub OpensJob : Type 0
OpensJob = (job : Job) → KeepsJob job (opening_machine job) × KeepsPrecedence job (opening_machine job)

-- each step keeps the first, whatever readiness takes pieces, as long as they may be taken
abbrev pub StepsKeep : Type 0
StepsKeep = (job : Job) → IsPlan job.parts → (m n : Machine) → StepBy job (MayBeTaken job) m n → KeepsJob job m → KeepsJob job n

-- and so does each list of steps
abbrev pub RunsKeep : Type 0
RunsKeep = (job : Job) → IsPlan job.parts → (m n : Machine) → StepsBy job (MayBeTaken job) m n → KeepsJob job m → KeepsJob job n

-- what is ready by precedence may be taken
abbrev pub ReadyMayBeTaken : Type 0
ReadyMayBeTaken = (job : Job) → IsPlan job.parts → (m : Machine) (p : PieceId) → IsReadyAt job m p → MayBeTaken job m p

-- so the steps by precedence are such steps
abbrev pub OrderedSteps : Type 0
OrderedSteps = (job : Job) → IsPlan job.parts → (m n : Machine) → StepBy job (IsReadyAt job) m n → StepBy job (MayBeTaken job) m n

-- each of them keeps the order too
abbrev pub StepsKeepOrder : Type 0
StepsKeepOrder = (job : Job) → IsPlan job.parts → (m n : Machine) → StepBy job (IsReadyAt job) m n → KeepsJob job m → KeepsPrecedence job m → KeepsPrecedence job n

-- ---- pieces that are out

-- of two pieces that are out neither needs the other, and their accesses don't conflict
abbrev pub OutsApart : Type 0
OutsApart = (job : Job) → IsPlan job.parts → (m : Machine) → KeepsJob job m → (p q : PieceId) → m.out p ≡ true → m.out q ≡ true → (p ≡ q → ⊥)
    → (needs (world_at job m) (ends_at job m) p q ≡ false) × (conflicts (access_at job m p) (access_at job m q) ≡ false)

-- and neither precedes the other, where they are taken by precedence
abbrev pub OutsUnordered : Type 0
OutsUnordered = (job : Job) (m : Machine) → KeepsJob job m → KeepsPrecedence job m → (p q : PieceId) → m.out p ≡ true → m.out q ≡ true
    → precedes (world_at job m) (ends_at job m) p q ≡ false

-- a piece that has what it needs, so one that is out or may be taken, has its inputs
abbrev pub HaveInputs : Type 0
HaveInputs = (job : Job) → IsPlan job.parts → (m : Machine) → KeepsJob job m
    → (p : PieceId) → NeedsFinished job m p → HasInputs (world_at job m) (ends_at job m) p m.now

-- what a piece finds is what it found before: its operations, the types of its variables and its access, and all that it
-- touches; so copies that were made before are its work on what stands now, and what was made of them is what is made now
pub record FindsTheSame (job : Job) (p : PieceId) (m n : Machine) : Type 0 where
  pub operations : ops (world_at job n) p ≡ ops (world_at job m) p
  pub vars : (world_at job n).vars p.txn ≡ (world_at job m).vars p.txn
  pub accesses : access_at job n p ≡ access_at job m p
  pub alike : (c : Location) → touches (world_at job m) (ends_at job m) p c ≡ true → at_location n.now c ≡ at_location m.now c
  pub work : (copies : State) → IsWork (world_at job m) (ends_at job m) p m.now copies → IsWork (world_at job n) (ends_at job n) p n.now copies
  pub done : (copies : State) (rows : Cell → Option (Option RowValues)) (outs : ℕ → Option Value)
      → IsOutcome (world_at job m) (ends_at job m) p copies rows outs → IsOutcome (world_at job n) (ends_at job n) p copies rows outs

-- whatever steps are made while a piece stays out, it finds what it found when it was given out
abbrev pub WorkStays : Type 0
WorkStays = (job : Job) → IsPlan job.parts → (m n : Machine) (p : PieceId) → KeepsJob job m → m.out p ≡ true → StaysOutBy job (MayBeTaken job) p m n → FindsTheSame job p m n

-- ---- what fits, and the end

-- where the opening tables fit, rows and variables fit, and each piece that has what it needs finds what it uses, at every operation
-- whose conditions hold
abbrev pub MachineFits : Type 0
MachineFits = (job : Job) → IsPlan job.parts → RowsFit job.parts.tables job.tables → (m : Machine) → KeepsJob job m
    → PresentFits job.parts (world_at job m) m.now
    × ((p : PieceId) → NeedsFinished job m p → StaysFitAt job.parts.tables ((world_at job m).vars p.txn) (ops (world_at job m) p) (of_txn p.txn m.now))

-- a machine whose pieces are all finished has the replayed tables and their first note
abbrev pub MachineEnds : Type 0
MachineEnds = (job : Job) → IsPlan job.parts → (m : Machine) → KeepsJob job m → ((p : PieceId) → Mem p (pieces_at job m) → m.finished p ≡ true)
    → (m.now.tables ≡ (replayed job.parts.programs job.first (txns_of m.batches) job.tables).tables)
    × (m.now.note ≡ first_note (replayed job.parts.programs job.first (txns_of m.batches) job.tables).notes)
