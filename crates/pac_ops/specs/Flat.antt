-- The flat meaning: operations in one list, each of which does something only where its conditions hold, and none of
-- which stops those after it.
use Rattle.std.specs.Prelude.{pos, ◌+◌, ℕ, Bool, true, false, not, ◌&&◌, if◌then◌else◌, List, [], ◌∷◌, ◌++◌, slice_get, Option, Some, None, Result, Ok, Err}
use Rattle.std.specs.FinMap.{get}
use Rattle.pac_value.specs.declared.values.Ty.{Ty}
use Rattle.pac_value.specs.declared.values.Ty.TheVariants.{Int as IntTy, Text as TextTy, Bool as BoolTy}
use Rattle.pac_value.specs.declared.values.Value.{Value}
use Rattle.pac_value.specs.declared.values.Value.TheVariants.{Int, Text, Bool as Truth}
use Rattle.pac_value.specs.Expressions.{Values}
use Rattle.pac_ops.specs.declared.note.Note.{Note}
use Rattle.pac_ops.specs.declared.program.FlatOp.{FlatOp}
use Rattle.pac_ops.specs.declared.program.OpKind.{OpKind}
use Rattle.pac_ops.specs.declared.reason.Reason.{Reason}
use Rattle.pac_ops.specs.Notes.{note_at}
use Rattle.pac_ops.specs.Operations.{State, define, done}
use Rattle.pac_ops.specs.Uses.{defined_variable}

-- a value that is true; as in a conditional, one that is no bool is not
abbrev pub is_true : Value → Bool
is_true (Truth b) = b
is_true v = false

-- the condition holds: where it asks for true the value is true, where it asks for false it isn't; without a value it fails
abbrev pub is_as_asked : Bool → Option Value → Bool
is_as_asked asked None = false
is_as_asked true (Some v) = is_true v
is_as_asked false (Some v) = not (is_true v)

-- all conditions hold
abbrev pub all_hold : Values → List (ℕ × Bool) → Bool
all_hold env [] = true
all_hold env (c ∷ cs) = is_as_asked c.1 (get env c.0) && all_hold env cs

-- the default of a type
abbrev pub default_of : Ty → Value
default_of IntTy = Int (pos 0)
default_of TextTy = Text []
default_of BoolTy = Truth false

-- a variable of a type gets the default of that
abbrev pub given_default : ℕ → Option Ty → State → State
given_default x None s = s
given_default x (Some ty) s = define x (default_of ty) s

-- the same of the variable that an operation has, if any, where the variables have these types
abbrev pub with_default : List Ty → Option ℕ → State → State
with_default vars None s = s
with_default vars (Some x) s = given_default x (slice_get vars x) s

-- the state after an operation: the one that it means, or where it would abort, one in which its variable alone changes
abbrev pub done_or_default : List Ty → OpKind → State → Result State Reason → State
done_or_default vars kind s (Ok t) = t
done_or_default vars kind s (Err reason) = with_default vars (defined_variable kind) s

-- why an operation aborts, if it does
abbrev pub reason_in : Result State Reason → Option Reason
reason_in (Ok t) = None
reason_in (Err reason) = Some reason

-- the state after a flat operation; where some condition does not hold, nothing changes
abbrev pub flat_done : List Ty → FlatOp → State → State
flat_done vars op s = if all_hold s.env op.conds then done_or_default vars op.kind s (done op.kind s) else s

-- why a flat operation would abort, if it would
abbrev pub flat_reason : FlatOp → State → Option Reason
flat_reason op s = if all_hold s.env op.conds then reason_in (done op.kind s) else None

-- the state after flat operations, one after another
abbrev pub flat_meaning : List Ty → List FlatOp → State → State
flat_meaning vars [] s = s
flat_meaning vars (op ∷ ops) s = flat_meaning vars ops (flat_done vars op s)

-- the notes that they leave in a transaction with this number, where the first operation has the number n
abbrev pub notes_of : List Ty → ℕ → ℕ → List FlatOp → State → List Note
notes_of vars txn n [] s = []
notes_of vars txn n (op ∷ ops) s = note_at txn n (flat_reason op s) ++ notes_of vars txn (n + 1) ops (flat_done vars op s)
