-- A replay in order, as contracts see it: what is replayed, what is loaded, and which pieces are finished; and what each call makes of it.
use Rattle.std.specs.Prelude.{◌≡◌, ℕ, Bool, true, false, List, [], ◌∷◌, ◌++◌, length, Option, Some, None, refl}
use Rattle.std.specs.Coded.{Coded, code_by, coded×, coded_ℕ, coded_bool, coded_list}
use Rattle.pac_value.specs.State.{Tables, tables_code}
use Rattle.pac_ops.specs.declared.batch.Batch.{Batch}
use Rattle.pac_ops.specs.contracts.batch.Batch as batch_type
use Rattle.pac_ops.specs.declared.note.Note.{Note}
use Rattle.pac_ops.specs.declared.piece.PieceId.{PieceId}
use Rattle.pac_ops.specs.contracts.piece.PieceId as piece_type
use Rattle.pac_ops.specs.Notes.{first_note}
use Rattle.pac_ops.specs.Shapes.{RowsFit}
use Rattle.pac_ops.specs.Transactions.{replayed}
use Rattle.pac_plan.specs.declared.parts.PlanParts.{PlanParts}
use Rattle.pac_plan.specs.contracts.parts.PlanParts as plan_type
use Rattle.pac_plan.specs.Analysis.{IsPlan}
use Rattle.pac_plan.specs.Pieces.{Present, partial}
use Rattle.pac_commute.specs.Loads.{Job, world_of, pieces_of, begin, next_in_job, and_batch}
use Rattle.pac_commute.specs.Machine.{Machine, KeepsJob, among}
use Rattle.pac_commute.specs.PartialFits.{TxnsFitPlan}
use Rattle.pac_commute.specs.PlanLaws.{txns_of}

-- what is replayed, the batches that were loaded, whether no more may come, and the pieces that are finished, in the order in which they ran
pub record Course : Type 0 where
  pub job : Job
  pub batches : List Batch
  pub is_closed : Bool
  pub finished : List PieceId

-- how courses are told apart
abbrev pub course_code : Coded Course
course_code = code_by ((PlanParts × (ℕ × Tables)) × (List Batch × (Bool × List PieceId)))
    (coded× (coded× plan_type.the_row.coded (coded× coded_ℕ tables_code)) (coded× (coded_list batch_type.the_row.coded) (coded× coded_bool (coded_list piece_type.the_row.coded))))
    (λ c. ((c.job.parts, (c.job.first, c.job.tables)), (c.batches, (c.is_closed, c.finished))))
    (λ p. record { job = record { parts = p.0.0; first = p.0.1.0; tables = p.0.1.1 }; batches = p.1.0; is_closed = p.1.1.0; finished = p.1.1.1 })
    (λ c. refl)

-- nothing is loaded
abbrev pub opening_course : Job → Course
opening_course job = record { job = job; batches = []; is_closed = false; finished = [] }

-- the pieces of what was loaded, transaction by transaction, block by block
abbrev pub course_pieces : Course → List PieceId
course_pieces c = pieces_of c.job c.batches

-- the tables, values and note that stand: those of the partial replay of what is finished
abbrev pub course_present : Course → Present
course_present c = partial (world_of c.job c.batches) (among c.finished) (course_pieces c) (begin c.job c.batches)

-- the machine of pieces of which this is a state: no piece is out
abbrev pub course_machine : Course → Machine
course_machine c = record { batches = c.batches; out = λ p. false; finished = among c.finished; now = course_present c }

-- ---- what each call makes of it

-- one more batch is loaded
abbrev pub course_with_batch : Course → Batch → Course
course_with_batch c batch = record c { batches = and_batch c.batches batch }

-- no more may come
abbrev pub closed_course : Course → Course
closed_course c = record c { is_closed = true }

-- one more piece is finished
abbrev pub course_with_piece : Course → PieceId → Course
course_with_piece c p = record c { finished = c.finished ++ p ∷ [] }

-- a batch may be loaded: more may come, its numbers run on, and its transactions fit the plan
pub record MayFollow (c : Course) (batch : Batch) : Type 0 where
  pub opening : c.is_closed ≡ false
  pub first : batch.first ≡ next_in_job c.job c.batches
  pub fits : TxnsFitPlan c.job.parts batch.txns

-- this piece stands next in the order of transactions and blocks, after those that are finished; or all are
abbrev pub IsNextInOrder : Course → Option PieceId → Type 0
IsNextInOrder c (Some p) = (rest : List PieceId) × (course_pieces c ≡ c.finished ++ p ∷ rest)
IsNextInOrder c None = c.finished ≡ course_pieces c

-- it was run, and nothing else happened
abbrev pub IsRunInOrder : Course → Option PieceId → Course → Type 0
IsRunInOrder old (Some p) new = IsNextInOrder old (Some p) × (new ≡ course_with_piece old p)
IsRunInOrder old None new = IsNextInOrder old None × (new ≡ old)

-- so many pieces more are finished, and nothing else happened
pub record RanOn (old : Course) (pieces : ℕ) (new : Course) : Type 0 where
  pub more : List PieceId
  pub count : length more ≡ pieces
  pub finished : new ≡ record old { finished = old.finished ++ more }

-- a batch was loaded, and all is finished
abbrev pub RanBatch : Course → Batch → Course → Type 0
RanBatch old batch new = new ≡ record (course_with_batch old batch) { finished = course_pieces (course_with_batch old batch) }

-- ---- what holds at every moment

-- The plan is one, and the opening tables fit it. What is finished are the first pieces in the order of transactions and blocks, each once. The
-- numbers of what was loaded run on, its transactions fit the plan, what each finished piece needs is finished, and the present is the partial
-- replay of what is finished.
pub record IsSoundCourse (c : Course) : Type 0 where
  pub is_plan : IsPlan c.job.parts
  pub fit : RowsFit c.job.parts.tables c.job.tables
  pub in_order : (rest : List PieceId) × (course_pieces c ≡ c.finished ++ rest)
  pub machine : KeepsJob c.job (course_machine c)

-- all is finished: then tables and note are those that the flat form of the transactions leaves, one after another
pub record IsCourseOutcome (c : Course) (tables : Tables) (note : Option Note) : Type 0 where
  pub tables_are : tables ≡ (replayed c.job.parts.programs c.job.first (txns_of c.batches) c.job.tables).tables
  pub note_is : note ≡ first_note (replayed c.job.parts.programs c.job.first (txns_of c.batches) c.job.tables).notes
