-- The code of pieces: what a transaction runs in a block of a plan, and which values it finds.
use Rattle.std.specs.Prelude.{◌≡◌, ℕ, Bool, List, map, slice_get, Some, IsSome}
use Rattle.std.specs.List.{list_all}
use Rattle.std.specs.FinMap.{empty}
use Rattle.pac_value.specs.declared.values.Ty.TheVariants.{Bool as BoolTy}
use Rattle.pac_value.specs.declared.expr.Expr.{Expr}
use Rattle.pac_value.specs.Expressions.{Values, type_in, types_of}
use Rattle.pac_value.specs.State.{Tables}
use Rattle.pac_ops.specs.declared.transaction.Txn.{Txn}
use Rattle.pac_ops.specs.declared.transaction.Txn.TheVariants.{Call as ACall, AdHoc}
use Rattle.pac_ops.specs.Shapes.{RowsFit, TxnFitsTypes}
use Rattle.pac_ops.specs.Operations.{with_values}
use Rattle.pac_ops.specs.Transactions.{txn_state}
use Rattle.pac_ops.specs.Effects.{NumberedOp, numbered_from, record_op, target_of}
use Rattle.pac_plan.specs.declared.code.Code.{Code}
use Rattle.pac_plan.specs.declared.code.Code.TheVariants.{Ops, Records}
use Rattle.pac_plan.specs.declared.parts.PlanParts.{PlanParts}
use Rattle.pac_plan.specs.Nodes.{Operation}
use Rattle.pac_plan.specs.Analysis.{IsPlan, block_in, HasBlockEdge}
use Rattle.pac_plan.specs.Pieces.{part, is_bounded, InputsAre}
use Rattle.pac_plan.specs.Worlds.{ops_of, txn_code, txn_block, txn_args}
use Rattle.pac_plan.specs.PieceFits.{records_in}

-- the transaction is of one of the plan's programs and its arguments have the types of the parameters, or its records fit
-- the plan's tables
abbrev pub TxnFitsPlan : PlanParts → Txn → Type 0
TxnFitsPlan parts txn = TxnFitsTypes (map (λ program. program.params) parts.programs) parts.tables txn

-- the operations that a transaction has in a block
abbrev pub piece_ops : PlanParts → ℕ → Txn → List NumberedOp
piece_ops parts block txn = part (txn_block parts (Some txn)) block (txn_code parts (Some txn))

-- the operations of a procedure in a block
abbrev pub proc_ops : PlanParts → ℕ → ℕ → List NumberedOp
proc_ops parts proc block = part (λ o. block_in parts (Operation proc o.0)) block (numbered_from 0 (ops_of (slice_get parts.programs proc)))

-- the code of a transaction in a block: operations of a call, records of an ad hoc transaction
abbrev pub code_in : PlanParts → ℕ → Txn → Code
code_in parts block (ACall call) = Ops (proc_ops parts call.proc block)
code_in parts block (AdHoc records) = Records (records_in parts block records)

-- the operations that code stands for; those of records are numbered from 0
abbrev pub code_ops : Code → List NumberedOp
code_ops (Ops os) = os
code_ops (Records changes) = numbered_from 0 (map record_op changes)

-- each key of the operations is bounded
abbrev pub are_bounded : List NumberedOp → Bool
are_bounded os = list_all (λ o. is_bounded os (target_of o.1.kind)) os

-- the environment has the inputs of a transaction's piece, as the transaction leaves them on some rows that fit
abbrev pub HasTxnInputs : PlanParts → ℕ → Txn → Values → Type 0
HasTxnInputs parts block txn env =
    (rows : Tables) × RowsFit parts.tables rows × InputsAre (piece_ops parts block txn) (txn_state parts.programs txn rows).env env

-- in a block to which no edge leads a transaction has its arguments as inputs, over any rows
abbrev pub ArgumentsAreInputs : Type 0
ArgumentsAreInputs = (parts : PlanParts) → IsPlan parts → (block : ℕ) → ((from : ℕ) → HasBlockEdge parts from block → ⊥) → (txn : Txn) (rows : Tables)
    → InputsAre (piece_ops parts block txn) (txn_state parts.programs txn rows).env (with_values 0 (txn_args (Some txn)) empty)

-- an expression has a type that keys and columns have, over the values that there are
abbrev pub IsStoredTyped : Values → Expr → Type 0
IsStoredTyped env e = IsSome (type_in (types_of env) e) × (type_in (types_of env) e ≡ Some BoolTy → ⊥)
