-- What a piece has done so far, and one operation more.
use Rattle.std.specs.Prelude.{◌≡◌, ℕ, Bool, true, false, ◌||◌, ◌&&◌, if◌then◌else◌, List, [], ◌∷◌, ◌++◌, Option, Some, None, Result, Ok, Err, is_ok}
use Rattle.std.specs.Ordering.{eq_by_cmp}
use Rattle.std.specs.FinMap.{get, insert}
use Rattle.pac_value.specs.declared.values.Ty.{Ty}
use Rattle.pac_value.specs.declared.values.Value.{Value}
use Rattle.pac_value.specs.Expressions.{Values}
use Rattle.pac_value.specs.State.{Cell, cell_cmp, Tables}
use Rattle.pac_ops.specs.declared.note.Note.{Note}
use Rattle.pac_ops.specs.declared.reason.Reason.{Reason}
use Rattle.pac_ops.specs.declared.program.OpKind.{OpKind}
use Rattle.pac_ops.specs.declared.program.FlatOp.{FlatOp}
use Rattle.pac_ops.specs.Notes.{note_at, first_note, least}
use Rattle.pac_ops.specs.Uses.{defined_variable, modifies}
use Rattle.pac_ops.specs.Operations.{State, define, done}
use Rattle.pac_ops.specs.Flat.{all_hold, default_of, flat_reason}
use Rattle.pac_ops.specs.Defaults.{trapped_type}
use Rattle.pac_ops.specs.Effects.{NumberedOp, flat_cell, is_var}
use Rattle.pac_tables.specs.Written.{IsOnce, is_written, written}
use Rattle.pac_piece.specs.declared.frame.Frame.{Frame}
use Rattle.pac_piece.specs.Effects.{CanDo}

-- ---- operations, where the default of one that aborts is plain from its kind

-- a variable, if there is one, gets the default of a type
abbrev pub defaulted : Option ℕ → Ty → State → State
defaulted None ty s = s
defaulted (Some x) ty s = define x (default_of ty) s

-- the state that an operation means, or where it would abort, one in which its variable has the default
abbrev pub done_or_defaulted : OpKind → State → Result State Reason → State
done_or_defaulted kind s (Ok t) = t
done_or_defaulted kind s (Err reason) = defaulted (defined_variable kind) (trapped_type kind) s

-- the state after an operation
abbrev pub after_op : FlatOp → State → State
after_op op s = if all_hold s.env op.conds then done_or_defaulted op.kind s (done op.kind s) else s

-- the state after operations
abbrev pub after_ops : List NumberedOp → State → State
after_ops [] s = s
after_ops (o ∷ os) s = after_ops os (after_op o.1 s)

-- the notes that they leave
abbrev pub notes_after : ℕ → List NumberedOp → State → List Note
notes_after txn [] s = []
notes_after txn (o ∷ os) s = note_at txn o.0 (flat_reason o.1 s) ++ notes_after txn os (after_op o.1 s)

-- the cell of an operation that modifies, was executed and left no note
abbrev pub cell_changed : FlatOp → State → Option Cell
cell_changed op s = if modifies op.kind && is_ok (done op.kind s) then flat_cell op s.env else None

-- the variable of an operation whose conditions hold
abbrev pub var_given : FlatOp → State → Option ℕ
var_given op s = if all_hold s.env op.conds then defined_variable op.kind else None

-- the cell is this one, where there is one
abbrev pub is_cell : Cell → Option Cell → Bool
is_cell a None = false
is_cell a (Some cell) = eq_by_cmp cell_cmp a cell

-- one of the operations changes the row at a cell
abbrev pub change_row : List NumberedOp → State → Cell → Bool
change_row [] s a = false
change_row (o ∷ os) s a = is_cell a (cell_changed o.1 s) || change_row os (after_op o.1 s) a

-- one of the operations gives the variable a value
abbrev pub give_value : List NumberedOp → State → ℕ → Bool
give_value [] s x = false
give_value (o ∷ os) s x = is_var x (var_given o.1 s) || give_value os (after_op o.1 s) x

-- each operation whose conditions hold can be executed
abbrev pub CanRun : List NumberedOp → State → Type 0
CanRun [] s = Unit {0}
CanRun (o ∷ os) s = (all_hold s.env o.1.conds ≡ true → CanDo s.env o.1.kind) × CanRun os (after_op o.1 s)

-- ---- frames

-- the state that a piece sees: its values, and the rows that it wrote over those that it began with
abbrev pub state_seen : {K : Type 0} → Tables → Frame K → State
state_seen base frame = record { env = frame.env; tables = written base frame.writes.items }

-- what was given stands in the environment
abbrev pub AreAmong : Values → Values → Type 0
AreAmong outs env = (x : ℕ) (v : Value) → get outs x ≡ Some v → get env x ≡ Some v

-- an environment has one value more
abbrev pub HasOneMore : Values → ℕ → Value → Values → Type 0
HasOneMore old x v new = new ≡ insert old x v

module _ {K : Type 0} (Adds : K → ℕ → Value → K → Type 0) where
  -- what is kept of the values that are given has one more: that of the variable, if there is one
  abbrev pub Keeps : Option ℕ → Values → K → K → Type 0
  Keeps None env old new = new ≡ old
  Keeps (Some x) env old new = (v : Value) × (get env x ≡ Some v) × Adds old x v new

  -- it has one more for each operation that gives a variable a value
  abbrev pub KeepsAll : List NumberedOp → State → K → K → Type 0
  KeepsAll [] s old new = new ≡ old
  KeepsAll (o ∷ os) s old new = (mid : K) × Keeps (var_given o.1 s) (after_op o.1 s).env old mid × KeepsAll os (after_op o.1 s) mid new

  -- a variable got a value, and nothing else happened
  pub record Given (var : ℕ) (value : Value) (old new : Frame K) : Type 0 where
    pub env : new.env ≡ insert old.env var value
    pub outs : Adds old.outs var value new.outs
    pub writes : new.writes.items ≡ old.writes.items
    pub note : new.note ≡ old.note

  -- one operation more was executed
  pub record StepsTo (base : Tables) (txn : ℕ) (o : NumberedOp) (old new : Frame K) : Type 0 where
    pub state : state_seen base new ≡ after_op o.1 (state_seen base old)
    pub note : new.note ≡ least old.note (first_note (note_at txn o.0 (flat_reason o.1 (state_seen base old))))
    pub changed : (a : Cell) → is_written new.writes.items a ≡ (is_cell a (cell_changed o.1 (state_seen base old)) || is_written old.writes.items a)
    pub kept : Keeps (var_given o.1 (state_seen base old)) new.env old.outs new.outs
    pub once : IsOnce new.writes.items

  -- all were executed from a state on, and nothing had happened before
  pub record RunsTo (base : Tables) (txn : ℕ) (os : List NumberedOp) (s : State) (outs : K) (frame : Frame K) : Type 0 where
    pub state : state_seen base frame ≡ after_ops os s
    pub note : frame.note ≡ first_note (notes_after txn os s)
    pub changed : (a : Cell) → is_written frame.writes.items a ≡ change_row os s a
    pub kept : KeepsAll os s outs frame.outs
    pub once : IsOnce frame.writes.items

  -- the operations so far were executed, and what is left leads to what all lead to
  pub record RunsOn (base : Tables) (txn : ℕ) (os : List NumberedOp) (s : State) (outs : K) (rest : List NumberedOp) (frame : Frame K) : Type 0 where
    pub state : after_ops rest (state_seen base frame) ≡ after_ops os s
    pub note : least frame.note (first_note (notes_after txn rest (state_seen base frame))) ≡ first_note (notes_after txn os s)
    pub changed : (a : Cell) → (is_written frame.writes.items a || change_row rest (state_seen base frame) a) ≡ change_row os s a
    pub kept : (new : K) → KeepsAll rest (state_seen base frame) frame.outs new → KeepsAll os s outs new
    pub once : IsOnce frame.writes.items

-- no row has been written yet, and no note left
pub record IsFreshFrame {K : Type 0} (frame : Frame K) : Type 0 where
  pub writes : frame.writes.items ≡ []
  pub note : frame.note ≡ None
