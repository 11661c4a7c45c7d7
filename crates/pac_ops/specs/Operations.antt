-- What single operations mean: the cell that one touches, and what it does.
use Rattle.std.specs.Prelude.{◌+◌, ℕ, true, List, [], ◌∷◌, is_some, slice_get, slice_set, Option, Some, None, Result, Ok, Err, unwrap_or}
use Rattle.std.specs.Option.{option_and_then}
use Rattle.std.specs.FinMap.{get, insert, empty}
use Rattle.pac_value.specs.declared.values.Key.{Key}
use Rattle.pac_value.specs.declared.values.Value.{Value}
use Rattle.pac_value.specs.declared.values.Value.TheVariants.{Bool as Truth}
use Rattle.pac_value.specs.declared.expr.Expr.{Expr}
use Rattle.pac_value.specs.declared.expr.Trap.{Trap}
use Rattle.pac_value.specs.Values.{as_key}
use Rattle.pac_value.specs.Expressions.{Values, value, ◌>>=◌}
use Rattle.pac_value.specs.State.{Cell, RowValues, Tables, with_row}
use Rattle.pac_ops.specs.declared.reason.Reason.{Reason}
use Rattle.pac_ops.specs.declared.reason.Reason.TheVariants.{Missing, Asked}
use Rattle.pac_ops.specs.declared.program.OpKind.{OpKind}
use Rattle.pac_ops.specs.declared.program.OpKind.TheVariants.{Let, Cond, Read, Has, Put, SetCol, Delete, AbortIf}
use Rattle.pac_ops.specs.Reasons.{or_abort}

-- the values of variables, and the tables
pub record State : Type 0 where
  pub env : Values
  pub tables : Tables

-- the variables from number n on have these values
abbrev pub with_values : ℕ → List Value → Values → Values
with_values n [] env = env
with_values n (v ∷ vs) env = with_values (n + 1) vs (insert env n v)

-- the state in which a call begins: the parameters alone have values
abbrev pub opening : List Value → Tables → State
opening args tables = record { env = with_values 0 args empty; tables = tables }

-- a variable gets a value
abbrev pub define : ℕ → Value → State → State
define x v s = record { env = insert s.env x v; tables = s.tables }

-- a row stands at a cell from now on, or none
abbrev pub write : Cell → Option RowValues → State → State
write cell row s = record { env = s.env; tables = with_row s.tables cell row }

-- the key that an expression gives
abbrev pub key_at : Expr → Values → Result Key Trap
key_at k env = value k env >>= λ v. Ok (as_key v)

-- the cell at the value of a key
abbrev pub cell_at : ℕ → Expr → Values → Result (Option Cell) Trap
cell_at t k env = value k env >>= λ v. Ok (Some (t, as_key v))

-- the cell that an operation looks at or changes, unless its key traps; None where it touches no table
abbrev pub touched : OpKind → Values → Result (Option Cell) Trap
touched (Let x e) env = Ok None
touched (Cond x e) env = Ok None
touched (Read x t k c d) env = cell_at t k env
touched (Has x t k) env = cell_at t k env
touched (Put t k es) env = cell_at t k env
touched (SetCol t k c e) env = cell_at t k env
touched (Delete t k) env = cell_at t k env
touched (AbortIf e) env = Ok None

-- what an operation does
pub data Effect : Type 0 where
  Nothing : Effect
  Gives : ℕ → Value → Effect  -- the variable gets the value
  Leaves : Option RowValues → Effect  -- the row stands at its cell from now on, or none

-- the values of expressions, from left to right
abbrev pub values : List Expr → Values → Result RowValues Trap
values [] env = Ok []
values (e ∷ es) env = value e env >>= λ v. values es env >>= λ vs. Ok (v ∷ vs)

-- a column of the row that stands at a cell, or the default
abbrev pub column_or : Option RowValues → ℕ → Value → Value
column_or None c default = default
column_or (Some row) c default = unwrap_or (slice_get row c) default

-- the row with another value in a column; there has to be one
abbrev pub replaced : Option RowValues → ℕ → Value → Result RowValues Reason
replaced None c v = Err Missing
replaced (Some row) c v = Ok (slice_set row c v)

-- an `abort if` aborts where its test is true
abbrev pub unless_asked : Value → Result Effect Reason
unless_asked (Truth true) = Err Asked
unless_asked v = Ok Nothing

-- what an operation does where this row stands at its cell, or none; or why it aborts
abbrev pub effect : OpKind → Values → Option RowValues → Result Effect Reason
effect (Let x e) env row = or_abort (value e env) >>= λ v. Ok (Gives x v)
effect (Cond x e) env row = or_abort (value e env) >>= λ v. Ok (Gives x v)
effect (Read x t k c d) env row = Ok (Gives x (column_or row c d))
effect (Has x t k) env row = Ok (Gives x (Truth (is_some row)))
effect (Put t k es) env row = or_abort (values es env) >>= λ vs. Ok (Leaves (Some vs))
effect (SetCol t k c e) env row = or_abort (value e env) >>= λ v. replaced row c v >>= λ vs. Ok (Leaves (Some vs))
effect (Delete t k) env row = Ok (Leaves None)
effect (AbortIf e) env row = or_abort (value e env) >>= λ v. unless_asked v

-- the row at the cell that is touched
abbrev pub row_at : Tables → Option Cell → Option RowValues
row_at tables cell = option_and_then (get tables) cell

-- the state after an operation that touches this cell and does this
abbrev pub with_effect : Option Cell → Effect → State → State
with_effect cell Nothing s = s
with_effect cell (Gives x v) s = define x v s
with_effect None (Leaves row) s = s
with_effect (Some cell) (Leaves row) s = write cell row s

-- the state after an operation, or why it aborts: its key is evaluated first, then its values, then the row is looked for
abbrev pub done : OpKind → State → Result State Reason
done kind s = or_abort (touched kind s.env) >>= λ cell. effect kind s.env (row_at s.tables cell) >>= λ e. Ok (with_effect cell e s)
