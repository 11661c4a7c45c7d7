-- Rows keep fitting their tables, and variables their types.
use Rattle.std.specs.Prelude.{◌≡◌, ℕ, true, List, [], ◌∷◌, map, take, slice_get, Some}
use Rattle.std.specs.FinMap.{get}
use Rattle.pac_value.specs.declared.values.Ty.{Ty}
use Rattle.pac_value.specs.declared.values.Value.{Value}
use Rattle.pac_value.specs.Values.{type_of}
use Rattle.pac_value.specs.Expressions.{Values, type_in, types_of}
use Rattle.pac_value.specs.State.{Tables}
use Rattle.pac_ops.specs.declared.shapes.TableTypes.{TableTypes}
use Rattle.pac_ops.specs.declared.program.FlatOp.{FlatOp}
use Rattle.pac_ops.specs.declared.program.Program.{Program}
use Rattle.pac_ops.specs.Shapes.{RowsFit}
use Rattle.pac_ops.specs.Programs.{IsWellFormedProgram}
use Rattle.pac_ops.specs.Uses.{op_uses, expr_uses}
use Rattle.pac_ops.specs.Operations.{State, opening}
use Rattle.pac_ops.specs.Effects.{NumberedOp}
use Rattle.pac_ops.specs.Flat.{all_hold, flat_done, flat_meaning}
use Rattle.pac_value.specs.declared.expr.Expr.{Expr}

-- a variable has a value, and that is of its type
abbrev pub HasTyped : List Ty → Values → ℕ → Type 0
HasTyped vars env x = (v : Value) × (get env x ≡ Some v) × (slice_get vars x ≡ Some (type_of v))

-- rows fit, and what has a value has one of its type
pub record IsFit (tables : List TableTypes) (vars : List Ty) (s : State) : Type 0 where
  pub rows : RowsFit tables s.tables
  pub types : (x : ℕ) (v : Value) → get s.env x ≡ Some v → slice_get vars x ≡ Some (type_of v)

-- an operation whose conditions hold finds what it uses
abbrev pub FindsUses : List Ty → FlatOp → Values → Type 0
FindsUses vars op env = all_hold env op.conds ≡ true → (x : ℕ) → op_uses x op ≡ true → HasTyped vars env x

-- before each operation of a well-formed program rows fit, variables have their types, and the operation finds what it uses
abbrev pub StaysFit : Type 0
StaysFit = (tables : List TableTypes) (program : Program) → IsWellFormedProgram tables program
    → (args : List Value) (rows : Tables) → map type_of args ≡ program.params → RowsFit tables rows → (n : ℕ)
    → let s = flat_meaning program.vars (take n program.ops) (opening args rows) in
    IsFit tables program.vars s × ((op : FlatOp) → slice_get program.ops n ≡ Some op → FindsUses program.vars op s.env)

-- ---- numbered operations

-- at each of these operations, and after them, rows fit and variables have their types, and each finds what it uses
abbrev pub StaysFitAt : List TableTypes → List Ty → List NumberedOp → State → Type 0
StaysFitAt tables vars [] s = IsFit tables vars s
StaysFitAt tables vars (o ∷ os) s = IsFit tables vars s × FindsUses vars o.1 s.env × StaysFitAt tables vars os (flat_done vars o.1 s)

-- ---- expressions

-- an expression whose variables have values of their types has over the environment the type that it has over the types
abbrev pub TypedOverValues : Type 0
TypedOverValues = (vars : List Ty) (env : Values) (e : Expr) → ((x : ℕ) → expr_uses x e ≡ true → HasTyped vars env x) → type_in (types_of env) e ≡ type_in (λ x. slice_get vars x) e
