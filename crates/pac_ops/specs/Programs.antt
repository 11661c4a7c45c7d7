-- When a program is well-formed over the tables that it accesses.
use Rattle.std.specs.Prelude.{◌≡◌, ◌⊎◌, ℕ, ◌+◌, ◌<◌, ◌≤◌, Bool, IsTrue, List, [], ◌∷◌, ◌++◌, map, length, slice_get, Option, Some, None, is_some, IsSomeAnd, Contains}
use Rattle.std.specs.Option.{option_map, option_and_then}
use Rattle.pac_value.specs.declared.limits.TheConstants.{MAX_COLUMNS}
use Rattle.pac_value.specs.declared.values.Ty.{Ty}
use Rattle.pac_value.specs.declared.values.Ty.TheVariants.{Bool as BoolTy}
use Rattle.pac_value.specs.declared.expr.Expr.{Expr}
use Rattle.pac_value.specs.Values.{type_of}
use Rattle.pac_value.specs.Expressions.{type_in}
use Rattle.pac_value.specs.Scopes.{Scope, is_bool, is_wanted, are_wanted, is_width}
use Rattle.pac_ops.specs.declared.limits.TheConstants.{MAX_OPS}
use Rattle.pac_ops.specs.declared.shapes.TableTypes.{TableTypes}
use Rattle.pac_ops.specs.declared.program.OpKind.{OpKind}
use Rattle.pac_ops.specs.declared.program.OpKind.TheVariants.{Let, Cond, Read, Has, Put, SetCol, Delete, AbortIf}
use Rattle.pac_ops.specs.declared.program.FlatOp.{FlatOp}
use Rattle.pac_ops.specs.declared.program.Program.{Program}
use Rattle.pac_ops.specs.Uses.{op_uses, defined_variable, Defines}

-- a list begins with the items of another
abbrev pub IsPrefixOf : {A : Type 0} → List A → List A → Type 0
IsPrefixOf {A} prefix items = (rest : List A) × (items ≡ prefix ++ rest)

-- the type of a table's keys, where there is such a table
abbrev pub key_type_in : List TableTypes → ℕ → Option Ty
key_type_in tables t = option_map (λ table. table.key) (slice_get tables t)

-- the types of a table's columns, where there is such a table
abbrev pub row_type_in : List TableTypes → ℕ → Option (List Ty)
row_type_in tables t = option_map (λ table. table.columns) (slice_get tables t)

-- the type of a table's column, where there are such a table and such a column
abbrev pub column_type_in : List TableTypes → ℕ → ℕ → Option Ty
column_type_in tables t c = option_and_then (λ columns. slice_get columns c) (row_type_in tables t)

-- a row of these values fits the columns of a table: 1 to 8 values, one for each column and of its type
abbrev pub IsRowWanted : List (Option Ty) → Option (List Ty) → Type 0
IsRowWanted given columns = IsSomeAnd columns (λ types. IsTrue (is_width (length given)) × IsTrue (are_wanted given types))

-- the expressions of an operation have the types that their positions want; in particular its table and column are there
abbrev pub IsWellTyped : List TableTypes → Scope → OpKind → Type 0
IsWellTyped tables scope (Let x e) = IsTrue (is_some (type_in scope e))
IsWellTyped tables scope (Cond x e) = IsTrue (is_bool (type_in scope e))
IsWellTyped tables scope (Read x t k c default) = IsTrue (is_wanted (type_in scope k) (key_type_in tables t)) × IsTrue (is_wanted (Some (type_of default)) (column_type_in tables t c))
IsWellTyped tables scope (Has x t k) = IsTrue (is_wanted (type_in scope k) (key_type_in tables t))
IsWellTyped tables scope (Put t k es) = IsTrue (is_wanted (type_in scope k) (key_type_in tables t)) × IsRowWanted (map (type_in scope) es) (row_type_in tables t)
IsWellTyped tables scope (SetCol t k c e) = IsTrue (is_wanted (type_in scope k) (key_type_in tables t)) × IsTrue (is_wanted (type_in scope e) (column_type_in tables t c))
IsWellTyped tables scope (Delete t k) = IsTrue (is_wanted (type_in scope k) (key_type_in tables t))
IsWellTyped tables scope (AbortIf e) = IsTrue (is_bool (type_in scope e))

-- the type that an operation gives its variable
abbrev pub given_type : Scope → OpKind → Option Ty
given_type scope (Let x e) = type_in scope e
given_type scope (Cond x e) = Some BoolTy
given_type scope (Read x t k c default) = Some (type_of default)
given_type scope (Has x t k) = Some BoolTy
given_type scope (Put t k es) = None
given_type scope (SetCol t k c e) = None
given_type scope (Delete t k) = None
given_type scope (AbortIf e) = None

-- the types of variables, by their numbers
abbrev pub scope_in : List Ty → Scope
scope_in vars x = slice_get vars x

-- an operation before j defines the variable, and its conditions are the first ones of those of j
abbrev pub IsDefinedBefore : List FlatOp → ℕ → FlatOp → ℕ → Type 0
IsDefinedBefore ops j user x = (i : ℕ) × (i < j) × IsSomeAnd (slice_get ops i) (λ op. (defined_variable op.kind ≡ Some x) × IsPrefixOf op.conds user.conds)

-- some operation is a condition and defines the variable
abbrev pub IsCondition : List FlatOp → ℕ → Type 0
IsCondition ops x = (i : ℕ) × IsSomeAnd (slice_get ops i) (λ op. (test : Expr) × (op.kind ≡ Cond x test))

-- a program is well-formed over the types of tables
pub record IsWellFormedProgram (tables : List TableTypes) (program : Program) : Type 0 where
  pub few : length program.ops ≤ MAX_OPS
  -- the parameters are the first variables
  pub params : IsPrefixOf program.params program.vars
  -- each other variable is defined by an operation, and by no more than one; no parameter is defined
  pub defined : (x : ℕ) → length program.params ≤ x → x < length program.vars → (i : ℕ) × Defines program.ops i x
  pub once : (i j x : ℕ) → Defines program.ops i x → Defines program.ops j x → i ≡ j
  pub after : (i x : ℕ) → Defines program.ops i x → length program.params ≤ x
  -- a variable has the type that its operation gives it
  pub given : (i x : ℕ) (op : FlatOp) → slice_get program.ops i ≡ Some op → defined_variable op.kind ≡ Some x
      → IsSomeAnd (slice_get program.vars x) (λ ty. given_type (scope_in program.vars) op.kind ≡ Some ty)
  -- what an operation uses is a parameter or was defined before, under conditions that are among its own
  pub used : (j x : ℕ) (op : FlatOp) → slice_get program.ops j ≡ Some op → IsTrue (op_uses x op)
      → (x < length program.params) ⊎ IsDefinedBefore program.ops j op x
  pub conditions : (i : ℕ) (op : FlatOp) (c : ℕ × Bool) → slice_get program.ops i ≡ Some op → Contains op.conds c → IsCondition program.ops c.0
  pub typed : (i : ℕ) (op : FlatOp) → slice_get program.ops i ≡ Some op → IsWellTyped tables (scope_in program.vars) op.kind

-- each program is well-formed
abbrev pub AreWellFormedPrograms : List TableTypes → List Program → Type 0
AreWellFormedPrograms tables programs = (p : ℕ) (program : Program) → slice_get programs p ≡ Some program → IsWellFormedProgram tables program

-- how many operations programs have
abbrev pub count_ops : List Program → ℕ
count_ops [] = 0
count_ops (program ∷ programs) = length program.ops + count_ops programs

-- a key or a column is an int or a text
abbrev pub IsStoredType : Ty → Type 0
IsStoredType ty = ty ≡ BoolTy → ⊥

-- a table has 1 to 8 columns; its key and they are ints or texts
pub record IsWellFormedTableTypes (table : TableTypes) : Type 0 where
  pub some : 1 ≤ length table.columns
  pub few : length table.columns ≤ MAX_COLUMNS
  pub key : IsStoredType table.key
  pub columns : (c : ℕ) (ty : Ty) → slice_get table.columns c ≡ Some ty → IsStoredType ty

-- each table is well-formed
abbrev pub AreWellFormedTables : List TableTypes → Type 0
AreWellFormedTables tables = (t : ℕ) (table : TableTypes) → slice_get tables t ≡ Some table → IsWellFormedTableTypes table
