-- What a flat operation does, in one form: the variable that it gives a value, the change of the row that it touches,
-- and why it aborts. Operations with numbers, of which each part of a transaction has some.
use Rattle.std.specs.List.{list_any}
use Rattle.std.specs.Prelude.{Bool, false, ◌==◌, ℕ, ◌+◌, if◌then◌else◌, List, [], ◌∷◌, ◌++◌, map, slice_get, Option, Some, None, Result, Ok, Err}
use Rattle.std.specs.Option.{option_map}
use Rattle.std.specs.FinMap.{get, insert}
use Rattle.pac_value.specs.declared.values.Ty.{Ty}
use Rattle.pac_value.specs.declared.values.Value.{Value}
use Rattle.pac_value.specs.declared.expr.Expr.{Expr, Lit}
use Rattle.pac_value.specs.declared.expr.Trap.{Trap}
use Rattle.pac_value.specs.Values.{key_value}
use Rattle.pac_value.specs.Expressions.{Values, ◌>>=◌}
use Rattle.pac_value.specs.State.{Cell, RowValues, Tables, with_row}
use Rattle.pac_ops.specs.declared.note.Note.{Note}
use Rattle.pac_ops.specs.declared.reason.Reason.{Reason}
use Rattle.pac_ops.specs.declared.program.FlatOp.{FlatOp}
use Rattle.pac_ops.specs.declared.program.OpKind.{OpKind}
use Rattle.pac_ops.specs.declared.program.OpKind.TheVariants.{Let, Cond, Read, Has, Put, SetCol, Delete, AbortIf}
use Rattle.pac_ops.specs.declared.transaction.Change.{Change}
use Rattle.pac_ops.specs.declared.transaction.Change.TheVariants.{Put as PutRow, Delete as DeleteRow}
use Rattle.pac_ops.specs.Reasons.{or_abort}
use Rattle.pac_ops.specs.Notes.{note_at}
use Rattle.pac_ops.specs.Uses.{op_uses, defined_variable}
use Rattle.pac_ops.specs.Operations.{State, touched, Effect, Nothing, Gives, Leaves, effect}
use Rattle.pac_ops.specs.Flat.{all_hold, default_of, flat_done, flat_reason}

-- the table and the key that an operation names
abbrev pub target_of : OpKind → Option (ℕ × Expr)
target_of (Let x e) = None
target_of (Cond x e) = None
target_of (Read x t k c d) = Some (t, k)
target_of (Has x t k) = Some (t, k)
target_of (Put t k es) = Some (t, k)
target_of (SetCol t k c e) = Some (t, k)
target_of (Delete t k) = Some (t, k)
target_of (AbortIf e) = None

-- a cell, where no trap came before it
abbrev pub cell_in : Result (Option Cell) Trap → Option Cell
cell_in (Ok cell) = cell
cell_in (Err trap) = None

-- the cell that a flat operation touches: none where a condition fails, no table is named, or the key traps
abbrev pub flat_cell : FlatOp → Values → Option Cell
flat_cell op env = if all_hold env op.conds then cell_in (touched op.kind env) else None

-- a row is left as it was, or stands from now on, or none
pub data RowChange : Type 0 where
  Same : RowChange
  Now : Option RowValues → RowChange

-- what an operation gives a variable, what it does to the row at its cell, and why it would abort
pub record FlatEffect : Type 0 where
  pub gives : Option (ℕ × Value)
  pub change : RowChange
  pub reason : Option Reason

-- it does nothing
abbrev pub nothing : FlatEffect
nothing = record { gives = None; change = Same; reason = None }

-- the variable that an operation defines, with the default of its type
abbrev pub default_in : List Ty → Option ℕ → Option (ℕ × Value)
default_in vars None = None
default_in vars (Some x) = option_map (λ ty. (x, default_of ty)) (slice_get vars x)

-- the effect of an operation that is done
abbrev pub done_effect : Effect → FlatEffect
done_effect Nothing = nothing
done_effect (Gives x v) = record { gives = Some (x, v); change = Same; reason = None }
done_effect (Leaves row) = record { gives = None; change = Now row; reason = None }

-- an operation that aborts gives its variable the default
abbrev pub effect_or_default : List Ty → Option ℕ → Result Effect Reason → FlatEffect
effect_or_default vars x (Ok e) = done_effect e
effect_or_default vars x (Err reason) = record { gives = default_in vars x; change = Same; reason = Some reason }

-- what an operation of a kind does: its key is evaluated first
abbrev pub kind_effect : List Ty → OpKind → Values → Option RowValues → FlatEffect
kind_effect vars kind env row = effect_or_default vars (defined_variable kind) (or_abort (touched kind env) >>= λ cell. effect kind env row)

-- what a flat operation does where this row stands at its cell
abbrev pub flat_effect : List Ty → FlatOp → Values → Option RowValues → FlatEffect
flat_effect vars op env row = if all_hold env op.conds then kind_effect vars op.kind env row else nothing

-- values with the one that is given
abbrev pub given : Option (ℕ × Value) → Values → Values
given None env = env
given (Some g) env = insert env g.0 g.1

-- tables with the change of the row at a cell
abbrev pub changed : Option Cell → RowChange → Tables → Tables
changed None c tables = tables
changed (Some cell) Same tables = tables
changed (Some cell) (Now row) tables = with_row tables cell row

-- the state with an effect on a cell
abbrev pub with_flat : Option Cell → FlatEffect → State → State
with_flat cell e s = record { env = given e.gives s.env; tables = changed cell e.change s.tables }

-- an operation with its number in its transaction
abbrev pub NumberedOp : Type 0
NumberedOp = ℕ × FlatOp

-- the state after operations that have numbers
unfoldable pub numbered_meaning : List Ty → List NumberedOp → State → State
numbered_meaning vars [] s = s
numbered_meaning vars (o ∷ os) s = numbered_meaning vars os (flat_done vars o.1 s)

-- the notes that they leave
unfoldable pub numbered_notes : List Ty → ℕ → List NumberedOp → State → List Note
numbered_notes vars txn [] s = []
numbered_notes vars txn (o ∷ os) s = note_at txn o.0 (flat_reason o.1 s) ++ numbered_notes vars txn os (flat_done vars o.1 s)

-- operations numbered from n on
unfoldable pub numbered_from : ℕ → List FlatOp → List NumberedOp
numbered_from n [] = []
numbered_from n (op ∷ ops) = (n, op) ∷ numbered_from (n + 1) ops

-- a record as an operation: its key and its values are written out
abbrev pub record_op : Change → FlatOp
record_op (PutRow table key row) = record { conds = []; kind = Put table (Lit (key_value key)) (map Lit row) }
record_op (DeleteRow table key) = record { conds = []; kind = Delete table (Lit (key_value key)) }

-- ---- which variables operations define and use

-- the variable is this one, where there is one
abbrev pub is_var : ℕ → Option ℕ → Bool
is_var x None = false
is_var x (Some y) = x == y

-- one of the operations defines the variable
abbrev pub defined_in : List NumberedOp → ℕ → Bool
defined_in os x = list_any (λ o. is_var x (defined_variable o.1.kind)) os

-- one of the operations uses the variable
abbrev pub used_in : List NumberedOp → ℕ → Bool
used_in os x = list_any (λ o. op_uses x o.1) os

-- ---- what is read and written one by one

-- of one transaction: a row, or a variable
pub data Spot : Type 0 where
  RowAt : Cell → Spot
  VarAt : ℕ → Spot

-- what stands there
abbrev pub seen_in : State → Spot → Option RowValues × Option Value
seen_in s (RowAt a) = (get s.tables a, None)
seen_in s (VarAt x) = (None, get s.env x)
