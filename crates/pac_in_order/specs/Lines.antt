-- What is kept of a course: the batches that aren't finished, and where in them the next piece is looked for.
use Rattle.std.specs.Prelude.{◌≡◌, ℕ, ◌+◌, ◌-◌, ◌<◌, ◌≤◌, true, false, List, [], ◌∷◌, ◌++◌, length, take, slice_get, Option, Some, None}
use Rattle.std.specs.List.{range_with_len}
use Rattle.std.specs.FinMap.{empty}
use Rattle.pac_value.specs.State.{Tables}
use Rattle.pac_ops.specs.declared.batch.Batch.{Batch}
use Rattle.pac_ops.specs.declared.piece.PieceId.{PieceId}
use Rattle.pac_ops.specs.declared.transaction.Txn.{Txn}
use Rattle.pac_ops.specs.Operations.{with_values}
use Rattle.pac_ops.specs.Shapes.{RowsFit}
use Rattle.pac_plan.specs.Analysis.{IsPlan}
use Rattle.pac_plan.specs.Codes.{code_in, code_ops, piece_ops}
use Rattle.pac_plan.specs.declared.parts.PlanParts.{PlanParts}
use Rattle.pac_plan.specs.Pieces.{Present, blocks_of, pieces, of_txn, has_ops}
use Rattle.pac_plan.specs.Worlds.{blocks_in, txn_args}
use Rattle.pac_piece.specs.Frames.{after_ops}
use Rattle.pac_piece.specs.InPlace.{Place}
use Rattle.pac_commute.specs.Loads.{Job, world_of, next_in_job}
use Rattle.pac_commute.specs.PartialFits.{TxnsFitPlan}
use Rattle.pac_commute.specs.PlanLaws.{txns_of, NumbersRunOn}
use Rattle.pac_in_order.specs.declared.line.Line.{Line}
use Rattle.pac_in_order.specs.Courses.{Course, course_present}

-- the tables of an opening that is kept for clauses alone
abbrev pub opening_tables : {R : Type 0} → (R → Tables) → List R → Tables
opening_tables held [] = empty
opening_tables held (rows ∷ more) = held rows

-- the batches that were loaded: those that are finished, and those that are kept
abbrev pub line_batches : Line → List Batch
line_batches line = line.gone.items ++ line.batches.items

-- how many transactions stand before the one in which the next piece is looked for
abbrev pub line_index : Line → ℕ
line_index line = length (txns_of line.gone.items) + line.txn

-- the block from which on its next piece is looked for; one that isn't begun has all its pieces left
abbrev pub from_block : Option ℕ → ℕ
from_block None = 0
from_block (Some b) = b

-- the pieces of the first transactions, and of one more those in the first blocks
abbrev pub pieces_to : Job → List Batch → ℕ → ℕ → List PieceId
pieces_to job batches k b =
    pieces (world_of job batches) (range_with_len job.first k) (blocks_in job.parts) ++ blocks_of (world_of job batches) (job.first + k) (range_with_len 0 b)

-- the job of a line, where it was opened with these tables
abbrev pub line_job : Line → Tables → Job
line_job line opening = record { parts = line.plan; first = line.first; tables = opening }

-- the course
abbrev pub course_of : Line → Tables → Course
course_of line opening = record {
  job = line_job line opening;
  batches = line_batches line;
  is_closed = line.is_closed;
  finished = pieces_to (line_job line opening) (line_batches line) (line_index line) (from_block line.block);
}

-- a transaction is begun: it is the one at the place, and the values are those that stand once the finished pieces ran, and perhaps those that the
-- first operations of its piece in the block gave, where that piece was begun and undone
pub record IsTxnBegun (line : Line) (now : Present) (place : Place) (b : ℕ) : Type 0 where
  pub batch : Batch
  pub rest : List Batch
  pub kept : line.batches.items ≡ batch ∷ rest
  pub txn : Txn
  pub there : slice_get batch.txns line.txn ≡ Some txn
  pub block : b ≤ line.plan.blocks
  pub done : ℕ
  pub values : place.values ≡ (after_ops (take done (code_ops (code_in line.plan b txn))) (of_txn (line.first + line_index line) now)).env

-- where it is, if it is begun
abbrev pub BegunAt : Line → Present → Place → Option ℕ → Type 0
BegunAt line now place None = Unit {0}
BegunAt line now place (Some b) = IsTxnBegun line now place b

-- the place is within the first batch that is kept, or at its end
abbrev pub IsInFirst : ℕ → List Batch → Type 0
IsInFirst txn [] = txn ≡ 0
IsInFirst txn (batch ∷ more) = txn ≤ length batch.txns

-- what is kept is that of a course, and tables and note are those of its finished pieces
pub record KeepsLine (line : Line) (place : Place) (opening : Tables) : Type 0 where
  pub is_plan : IsPlan line.plan
  pub fit : RowsFit line.plan.tables opening
  pub run_on : NumbersRunOn line.first (line_batches line)
  pub fits : TxnsFitPlan line.plan (txns_of (line_batches line))
  pub next : line.next ≡ next_in_job (line_job line opening) (line_batches line)
  pub within : IsInFirst line.txn line.batches.items
  pub begun : BegunAt line (course_present (course_of line opening)) place line.block
  pub count : place.count ≡ length line.plan.tables
  pub tables : place.tables ≡ (course_present (course_of line opening)).tables
  pub note : place.note ≡ (course_present (course_of line opening)).note

-- of blocks from some number on, this is the first in which a transaction has operations; or it has none in any
abbrev pub IsFirstBlock : PlanParts → Txn → ℕ → Option ℕ → Type 0
IsFirstBlock parts txn from (Some b) = (from ≤ b) × (b < parts.blocks) × (has_ops (piece_ops parts b txn) ≡ true) × ((c : ℕ) → from ≤ c → c < b → has_ops (piece_ops parts c txn) ≡ false)
IsFirstBlock parts txn from None = (c : ℕ) → from ≤ c → c < parts.blocks → has_ops (piece_ops parts c txn) ≡ false

-- the place is at this piece
pub record IsAtPiece (line : Line) (piece : PieceId) : Type 0 where
  pub block : line.block ≡ Some piece.block
  pub batch : Batch
  pub rest : List Batch
  pub kept : line.batches.items ≡ batch ∷ rest
  pub txn : Txn
  pub there : slice_get batch.txns line.txn ≡ Some txn
  pub number : piece.txn ≡ batch.first + line.txn
  pub below : piece.block < line.plan.blocks
  pub exists : has_ops (piece_ops line.plan piece.block txn) ≡ true

-- a transaction begins with its arguments, or it was begun before
abbrev pub OpensTxn : Txn → Option ℕ → Place → Place → Type 0
OpensTxn txn None old new = new ≡ record old { values = with_values 0 (txn_args (Some txn)) empty }
OpensTxn txn (Some b) old new = new ≡ old

-- the place is at a piece; or nothing is kept
abbrev pub StandsNext : Line → Option PieceId → Type 0
StandsNext line (Some piece) = IsAtPiece line piece
StandsNext line None = line.batches.items ≡ []

-- the place is at the end of the first batch that is kept
abbrev pub IsFrontFinished : Line → Type 0
IsFrontFinished line = (batch : Batch) × (rest : List Batch) × (line.batches.items ≡ batch ∷ rest) × (line.txn ≡ length batch.txns)

-- how often the place may move on until nothing is kept
abbrev pub left_to_seek : Line → ℕ
left_to_seek line = length (txns_of line.batches.items) + length line.batches.items - line.txn

-- a batch is kept after the others
pub record IsAddedTo (old : Line) (batch : Batch) (new : Line) : Type 0 where
  pub batches : new.batches.items ≡ old.batches.items ++ batch ∷ []
  pub next : new.next ≡ old.next + length batch.txns
  pub rest : new ≡ record old { batches = new.batches; next = new.next }

-- the same are kept
pub record IsAddedNone (old new : Line) : Type 0 where
  pub batches : new.batches.items ≡ old.batches.items
  pub rest : new ≡ record old { batches = new.batches }
