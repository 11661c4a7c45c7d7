-- What the plan says of the value of code and of work, and how that value depends on the access.
use Rattle.std.specs.Prelude.{◌≡◌, ◌↔◌, ℕ, true, List, ◌∷◌, ◌++◌, Option, Some}
use Rattle.std.specs.FinMap.{get}
use Rattle.pac_value.specs.declared.values.Ty.{Ty}
use Rattle.pac_value.specs.declared.values.Value.{Value}
use Rattle.pac_value.specs.Expressions.{Values}
use Rattle.pac_value.specs.State.{Cell, Tables}
use Rattle.pac_ops.specs.Operations.{State}
use Rattle.pac_ops.specs.declared.transaction.Txn.{Txn}
use Rattle.pac_ops.specs.declared.note.Note.{Note}
use Rattle.pac_ops.specs.Notes.{first_note}
use Rattle.pac_ops.specs.Uses.{defined_variable}
use Rattle.pac_ops.specs.Flat.{all_hold}
use Rattle.pac_ops.specs.Effects.{NumberedOp, numbered_meaning, numbered_notes, used_in}
use Rattle.pac_plan.specs.declared.code.Code.{Code}
use Rattle.pac_plan.specs.declared.parts.PlanParts.{PlanParts}
use Rattle.pac_plan.specs.Analysis.{IsPlan}
use Rattle.pac_plan.specs.Pieces.{access_of, covers, covers_write, InputsAre}
use Rattle.pac_plan.specs.Worlds.{txn_vars}
use Rattle.pac_plan.specs.Codes.{TxnFitsPlan, code_in, code_ops, piece_ops}
use Rattle.pac_tables.specs.declared.writes.Write.{Write}
use Rattle.pac_piece.specs.declared.work.Work.{Work}
use Rattle.pac_piece.specs.Frames.{after_ops, notes_after, change_row}
use Rattle.pac_piece.specs.Values.{IsValueOver, begun, state_over, work_end}

-- where the code of work is that of a transaction in a block of a plan, the work ends with the state, and leaves the least note,
-- that the transaction's operations in the block mean on the state that it begins with
abbrev pub WorkMeansPiece : Type 0
WorkMeansPiece = (parts : PlanParts) → IsPlan parts → (txn : Txn) → TxnFitsPlan parts txn → (work : Work) → work.code ≡ code_in parts work.piece.block txn
    → (work_end work ≡ numbered_meaning (txn_vars parts (Some txn)) (piece_ops parts work.piece.block txn) (begun work))
    × (first_note (notes_after work.piece.txn (code_ops work.code) (begun work)) ≡ first_note (numbered_notes (txn_vars parts (Some txn)) work.piece.txn (piece_ops parts work.piece.block txn) (begun work)))

-- the same of the code of a transaction in a block of a plan, from any state on
abbrev pub CodeMeansPiece : Type 0
CodeMeansPiece = (parts : PlanParts) → IsPlan parts → (txn : Txn) → TxnFitsPlan parts txn → (block number : ℕ) (s : State)
    → (after_ops (code_ops (code_in parts block txn)) s ≡ numbered_meaning (txn_vars parts (Some txn)) (piece_ops parts block txn) s)
    × (first_note (notes_after number (code_ops (code_in parts block txn)) s) ≡ first_note (numbered_notes (txn_vars parts (Some txn)) number (piece_ops parts block txn) s))

-- the flat meaning of operations gives the variable a value: one of them defines it, and its conditions hold after those before it
pub record IsGivenIn (vars : List Ty) (os : List NumberedOp) (s : State) (x : ℕ) : Type 0 where
  pub before : List NumberedOp
  pub op : NumberedOp
  pub after : List NumberedOp
  pub split : os ≡ before ++ op ∷ after
  pub holds : all_hold (numbered_meaning vars before s).env op.1.conds ≡ true
  pub defines : defined_variable op.1.kind ≡ Some x

-- where the code is that of a transaction in a block of a plan, a variable has a value among those that it gives exactly where the flat meaning of the
-- transaction's operations in the block gives it one, and it is the one that the variable has at their end
abbrev pub GivesAsMeant : Type 0
GivesAsMeant = (parts : PlanParts) → IsPlan parts → (txn : Txn) → TxnFitsPlan parts txn → (block number : ℕ) (env : Values) (base : Tables)
    → (writes : List Write) (outs : Values) (note : Option Note) → IsValueOver number (code_in parts block txn) env base writes outs note → (x : ℕ) (v : Value)
    → (get outs x ≡ Some v)
    ↔ (IsGivenIn (txn_vars parts (Some txn)) (piece_ops parts block txn) (state_over env base) x
    × (get (numbered_meaning (txn_vars parts (Some txn)) (piece_ops parts block txn) (state_over env base)).env x ≡ Some v))

-- what code leaves depends on the values of the variables that its operations use, and on the rows of its access alone: where two environments have the
-- same values of these variables, and two maps the same rows there, as copies of these rows and the tables have, its value over the ones is its value
-- over the others
abbrev pub SameByAccess : Type 0
SameByAccess = (txn : ℕ) (code : Code) (inputs env other_env : Values) (one other : Tables) → InputsAre (code_ops code) inputs env
    → ((x : ℕ) → used_in (code_ops code) x ≡ true → get env x ≡ get other_env x)
    → ((a : Cell) → covers (access_of (code_ops code) inputs) a ≡ true → get one a ≡ get other a)
    → (writes : List Write) (outs : Values) (note : Option Note) → IsValueOver txn code env one writes outs note → IsValueOver txn code other_env other writes outs note

-- where operations have their inputs, they change rows only at cells that their access modifies
abbrev pub WritesWithinAccess : Type 0
WritesWithinAccess = (os : List NumberedOp) (env : Values) (s : State) → InputsAre os env s.env → (a : Cell) → change_row os s a ≡ true → covers_write (access_of os env) a ≡ true
