-- What the parts of one operation's execution answer.
use Rattle.std.specs.Prelude.{◌≡◌, ◌⊎◌, ℕ, ◌||◌, Option, Some, None, Result, Ok, Err}
use Rattle.pac_value.specs.declared.expr.Expr.{Expr}
use Rattle.pac_value.specs.declared.values.Value.{Value}
use Rattle.pac_value.specs.State.{Cell, Tables}
use Rattle.pac_ops.specs.declared.reason.Reason.{Reason}
use Rattle.pac_ops.specs.declared.program.OpKind.{OpKind}
use Rattle.pac_ops.specs.declared.program.OpKind.TheVariants.{Let, Cond}
use Rattle.pac_ops.specs.Notes.{least}
use Rattle.pac_ops.specs.Uses.{defined_variable}
use Rattle.pac_ops.specs.Operations.{State, Effect, Nothing, Gives, Leaves, touched, effect, row_at, with_effect, done}
use Rattle.pac_ops.specs.Defaults.{trapped_type}
use Rattle.pac_ops.specs.Effects.{NumberedOp}
use Rattle.pac_tables.specs.Written.{IsOnce, is_written}
use Rattle.pac_piece.specs.declared.effects.OpEffect.{OpEffect}
use Rattle.pac_piece.specs.declared.failed.OpFailed.{OpFailed}
use Rattle.pac_piece.specs.declared.failed.OpFailed.TheVariants.{Abort, NoMemory}
use Rattle.pac_piece.specs.declared.frame.Frame.{Frame}
use Rattle.pac_piece.specs.Effects.{effect_of}
use Rattle.pac_piece.specs.Frames.{state_seen, defaulted, is_cell, Keeps}

-- the cell that an operation touches and its effect there; or why it would abort; or no memory
abbrev pub AnswersAt : OpKind → State → Result (Option Cell × OpEffect) OpFailed → Type 0
AnswersAt kind s (Ok step) = (touched kind s.env ≡ Ok step.0) × (effect kind s.env (row_at s.tables step.0) ≡ Ok (effect_of step.1))
AnswersAt kind s (Err (Abort reason)) = done kind s ≡ Err reason
AnswersAt kind s (Err NoMemory) = Unit {0}

-- the cell at which an effect leaves a row or none
abbrev pub cell_left : Option Cell → Effect → Option Cell
cell_left cell Nothing = None
cell_left cell (Gives x v) = None
cell_left cell (Leaves row) = cell

-- the variable that an effect gives a value
abbrev pub var_left : Effect → Option ℕ
var_left Nothing = None
var_left (Gives x v) = Some x
var_left (Leaves row) = None

-- an operation of this kind gives a variable the value of an expression
abbrev pub GivesValueOf : OpKind → ℕ → Expr → Type 0
GivesValueOf kind var e = (kind ≡ Let var e) ⊎ (kind ≡ Cond var e)

-- an effect was applied
pub record Applies {K : Type 0} (Adds : K → ℕ → Value → K → Type 0) (cell : Option Cell) (e : Effect) (old new : Frame K) : Type 0 where
  pub state : (base : Tables) → state_seen base new ≡ with_effect cell e (state_seen base old)
  pub note : new.note ≡ old.note
  pub changed : (a : Cell) → is_written new.writes.items a ≡ (is_cell a (cell_left cell e) || is_written old.writes.items a)
  pub kept : Keeps Adds (var_left e) new.env old.outs new.outs
  pub once : IsOnce new.writes.items

-- a note was left, and the variable has its default
pub record GivesUp {K : Type 0} (Adds : K → ℕ → Value → K → Type 0) (txn : ℕ) (o : NumberedOp) (reason : Reason) (old new : Frame K) : Type 0 where
  pub state : (base : Tables) → state_seen base new ≡ defaulted (defined_variable o.1.kind) (trapped_type o.1.kind) (state_seen base old)
  pub note : new.note ≡ least old.note (Some (record { txn = txn; op = o.0; reason = reason }))
  pub changed : new.writes.items ≡ old.writes.items
  pub kept : Keeps Adds (defined_variable o.1.kind) new.env old.outs new.outs
