-- The laws of one operation, and of operations in order.
use Rattle.std.specs.Prelude.{◌≡◌, ℕ, Bool, true, false, List, [], map, Option, Some, ◌++◌}
use Rattle.std.specs.FinMap.{get}
use Rattle.pac_value.specs.declared.values.Ty.{Ty}
use Rattle.pac_value.specs.declared.expr.Expr.{Expr}
use Rattle.pac_value.specs.Expressions.{Values, value}
use Rattle.pac_value.specs.State.{Cell, RowValues}
use Rattle.pac_ops.specs.declared.program.FlatOp.{FlatOp}
use Rattle.pac_ops.specs.declared.transaction.Change.{Change}
use Rattle.pac_ops.specs.Uses.{expr_uses, op_uses, defined_variable, accessed_table, modifies}
use Rattle.pac_ops.specs.Operations.{State, row_at}
use Rattle.pac_ops.specs.Flat.{flat_done, flat_reason, flat_meaning, notes_of}
use Rattle.pac_ops.specs.Notes.{first_note, least}
use Rattle.pac_ops.specs.Transactions.{with_changes}
use Rattle.pac_ops.specs.Effects.{flat_cell, flat_effect, with_flat, numbered_meaning, numbered_notes, numbered_from, record_op}
use Rattle.pac_ops.specs.declared.note.Note.{Note}

-- two environments are alike on the variables that pass the test
abbrev pub AlikeOnVars : (ℕ → Bool) → Values → Values → Type 0
AlikeOnVars used env env' = (x : ℕ) → used x ≡ true → get env x ≡ get env' x

-- a value depends on nothing but the variables that the expression uses
abbrev pub ValueByUses : Type 0
ValueByUses = (e : Expr) (env env' : Values) → AlikeOnVars (λ x. expr_uses x e) env env' → value e env ≡ value e env'

-- a flat operation has its effect on its cell, and aborts for the reason in it
abbrev pub HasForm : Type 0
HasForm = (vars : List Ty) (op : FlatOp) (s : State)
    → (flat_done vars op s ≡ with_flat (flat_cell op s.env) (flat_effect vars op s.env (row_at s.tables (flat_cell op s.env))) s)
    × (flat_reason op s ≡ (flat_effect vars op s.env (row_at s.tables (flat_cell op s.env))).reason)

-- the cell depends on the variables that the operation uses alone, and the effect on these and the row at the cell alone
abbrev pub EffectByUses : Type 0
EffectByUses = (vars : List Ty) (op : FlatOp) (env env' : Values) (row : Option RowValues) → AlikeOnVars (λ x. op_uses x op) env env'
    → (flat_cell op env ≡ flat_cell op env') × (flat_effect vars op env row ≡ flat_effect vars op env' row)

-- its cell is in its table; it changes no variable but the one that it defines, no row but that at its cell, and none if it
-- doesn't modify
abbrev pub ChangesOnlyItsOwn : Type 0
ChangesOnlyItsOwn = (vars : List Ty) (op : FlatOp) (s : State)
    → ((cell : Cell) → flat_cell op s.env ≡ Some cell → accessed_table op.kind ≡ Some cell.0)
    × ((y : ℕ) → (defined_variable op.kind ≡ Some y → ⊥) → get (flat_done vars op s).env y ≡ get s.env y)
    × ((cell : Cell) → (flat_cell op s.env ≡ Some cell → modifies op.kind ≡ false) → get (flat_done vars op s).tables cell ≡ get s.tables cell)

-- a whole program, numbered from any number on, means what it means flat
abbrev pub WholeProgram : Type 0
WholeProgram = (vars : List Ty) (txn n : ℕ) (ops : List FlatOp) (s : State)
    → (numbered_meaning vars (numbered_from n ops) s ≡ flat_meaning vars ops s) × (numbered_notes vars txn (numbered_from n ops) s ≡ notes_of vars txn n ops s)

-- records as operations make their changes, and leave no note
abbrev pub RecordsAreOps : Type 0
RecordsAreOps = (vars : List Ty) (txn n : ℕ) (records : List Change) (s : State)
    → (numbered_meaning vars (numbered_from n (map record_op records)) s ≡ record { env = s.env; tables = with_changes s.tables records })
    × (numbered_notes vars txn (numbered_from n (map record_op records)) s ≡ [])

-- the least of notes doesn't depend on their order, and the first note of two lists is the least of their first ones
abbrev pub NotesInAnyOrder : Type 0
NotesInAnyOrder = ((n a b : Option Note) → least (least n a) b ≡ least (least n b) a)
    × ((a b c : Option Note) → least a (least b c) ≡ least (least a b) c)
    × ((xs ys : List Note) → first_note (xs ++ ys) ≡ least (first_note xs) (first_note ys))
