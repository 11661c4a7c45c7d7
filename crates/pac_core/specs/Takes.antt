-- What is handed out: which piece comes next, and the work of a piece.
use Rattle.std.specs.Prelude.{◌≡◌, List, Option, Some}
use Rattle.pac_value.specs.Expressions.{Values}
use Rattle.pac_value.specs.State.{Cell, Tables}
use Rattle.pac_ops.specs.declared.piece.PieceId.{PieceId}
use Rattle.pac_ops.specs.declared.transaction.Txn.{Txn}
use Rattle.pac_plan.specs.declared.access.Access.{Access}
use Rattle.pac_plan.specs.declared.parts.PlanParts.{PlanParts}
use Rattle.pac_plan.specs.Worlds.{txn_at}
use Rattle.pac_plan.specs.Codes.{code_in}
use Rattle.pac_piece.specs.declared.work.Work.{Work}
use Rattle.pac_commute.specs.HandOut.{IsPieceTaken}
use Rattle.pac_commute.specs.PlanLaws.{txns_of}
use Rattle.pac_commute.specs.Machine.{among, access_at, ends_at, world_at}
use Rattle.pac_core.specs.Cells.{AreCellsOf, copies_at}
use Rattle.pac_core.specs.Inputs.{FindsInputs}
use Rattle.pac_core.specs.Replay.{Replay, loaded_pieces, machine_of, present_of}

-- the piece that comes next: a ready one that no ready one comes before, by batch, block and transaction; none only where none is ready
abbrev pub IsNextPiece : Replay → Option PieceId → Type 0
IsNextPiece r next = IsPieceTaken (world_at r.job (machine_of r)) (ends_at r.job (machine_of r)) (loaded_pieces r) (among r.out) (among r.finished) next

-- the access of a piece
abbrev pub access_now : Replay → PieceId → Access
access_now r p = access_at r.job (machine_of r) p

-- the work of a piece over these values and rows: the code of its transaction in its block, the values of its inputs, and copies of the
-- rows at cells
pub record IsWorkOver (parts : PlanParts) (piece : PieceId) (txn : Txn) (kept : Values) (cells : List Cell) (tables : Tables) (work : Work) : Type 0 where
  pub piece_is : work.piece ≡ piece
  pub code : work.code ≡ code_in parts piece.block txn
  pub inputs : FindsInputs parts piece.block txn kept work.env
  pub rows : work.rows ≡ copies_at tables cells

-- the work of a piece as the replay has it: the code of its transaction in its block, the values of its inputs, and copies of the rows at the
-- cells of its access
pub record IsWorkIn (r : Replay) (work : Work) : Type 0 where
  pub txn : Txn
  pub there : txn_at r.job.first (txns_of r.batches) work.piece.txn ≡ Some txn
  pub cells : List Cell
  pub named : AreCellsOf (access_now r work.piece) cells
  pub over : IsWorkOver r.job.parts work.piece txn ((present_of r).envs work.piece.txn) cells (present_of r).tables work
