-- When the code of a piece can be run: it is that of a transaction that fits a plan.
use Rattle.std.specs.Prelude.{◌≡◌, ◌≤◌, ℕ, length}
use Rattle.pac_value.specs.Expressions.{Values}
use Rattle.pac_value.specs.State.{Tables}
use Rattle.pac_ops.specs.declared.transaction.Txn.{Txn}
use Rattle.pac_ops.specs.Shapes.{RowsFit}
use Rattle.pac_ops.specs.Transactions.{txn_state}
use Rattle.pac_plan.specs.declared.code.Code.{Code}
use Rattle.pac_plan.specs.declared.parts.PlanParts.{PlanParts}
use Rattle.pac_plan.specs.Analysis.{IsPlan}
use Rattle.pac_plan.specs.Pieces.{InputsAre}
use Rattle.pac_plan.specs.Codes.{TxnFitsPlan, code_in, piece_ops}
use Rattle.pac_piece.specs.declared.work.Work.{Work}
use Rattle.pac_piece.specs.Frames.{AreAmong}
use Rattle.pac_piece.specs.Values.{copied}

-- a plan, a transaction that fits it and rows that fit it, over which the transaction leaves the piece's inputs and every other
-- value that the piece begins with; the code is that of the transaction in the block, and the rows that the piece finds fit
-- their tables
pub record IsRunnableOver (block : ℕ) (piece_code : Code) (env : Values) (base : Tables) : Type 0 where
  pub parts : PlanParts
  pub is_plan : IsPlan parts
  pub txn : Txn
  pub fits : TxnFitsPlan parts txn
  pub code : piece_code ≡ code_in parts block txn
  pub before : Tables
  pub before_fit : RowsFit parts.tables before
  pub inputs : InputsAre (piece_ops parts block txn) (txn_state parts.programs txn before).env env
  pub only : AreAmong env (txn_state parts.programs txn before).env
  pub rows : RowsFit parts.tables base

-- the work can be done, over the rows that it has copies of
abbrev pub IsRunnable : Work → Type 0
IsRunnable work = IsRunnableOver work.piece.block work.code work.env (copied work)

-- the code can be run over this number of tables: the plan's are among them
pub record IsRunnableOn (block : ℕ) (code : Code) (env : Values) (tables : ℕ) (held : Tables) : Type 0 where
  pub runnable : IsRunnableOver block code env held
  pub among : length runnable.parts.tables ≤ tables
