-- When statements are well-formed: each expression has the type that its position wants.
use Rattle.std.specs.Prelude.{ℕ, Bool, false, ◌&&◌, ◌||◌, ◌==◌, if◌then◌else◌, List, [], ◌∷◌, map, length, slice_get, Option, Some, None, IsSome, is_some}
use Rattle.std.specs.Option.{option_map, option_and_then}
use Rattle.pac_value.specs.declared.values.Ty.{Ty}
use Rattle.pac_value.specs.declared.values.Ty.TheVariants.{Int as IntTy, Bool as BoolTy}
use Rattle.pac_value.specs.declared.expr.Expr.{Expr}
use Rattle.pac_value.specs.Values.{type_of}
use Rattle.pac_value.specs.Expressions.{type_in}
use Rattle.pac_value.specs.Scopes.{Scope, with_var, is_bool, is_wanted, are_wanted, is_width}
use Rattle.pac_types.specs.declared.table.Column.{Column}
use Rattle.pac_types.specs.declared.table.Table.{Table}
use Rattle.pac_types.specs.declared.procedure.Proc.{Proc}
use Rattle.pac_types.specs.declared.statement.Stmt.{Stmt}
use Rattle.pac_types.specs.declared.statement.Stmt.TheOpen.{Stmt-F, Let, Read, Has, Put, Set, Delete, AbortIf, If, For}
use Rattle.pac_types.specs.declared.statement.Stmt.TheFolds.{fold-Stmt}

-- the types of columns or parameters
abbrev pub types : List Column → List Ty
types columns = map (λ column. column.ty) columns

-- the type of a table's key
abbrev pub key_type : List Table → ℕ → Option Ty
key_type tables t = option_map (λ table. table.key) (slice_get tables t)

-- the types of a table's columns, none where there is no such table
abbrev pub column_types_of : Option Table → List Ty
column_types_of None = []
column_types_of (Some table) = types table.columns

-- the types of the columns of the table with a number, none where there is no such table
abbrev pub column_types : List Table → ℕ → List Ty
column_types tables t = column_types_of (slice_get tables t)

-- the type of a table's column
abbrev pub column_type : List Table → ℕ → ℕ → Option Ty
column_type tables t c = slice_get (column_types tables t) c

-- the scope after a test that has to hold
abbrev pub if_so : Bool → Scope → Option Scope
if_so ok scope = if ok then Some scope else None

-- what a check of a statement knows: the variables that it defines, and the scope after it, None where it is not well-formed
pub record Check : Type 0 where
  pub defines : ℕ → Bool
  pub after : Scope → Option Scope

-- a statement that defines a variable, and one that defines none
abbrev pub defining : ℕ → (Scope → Option Scope) → Check
defining x after = record { defines = λ y. y == x; after = after }

abbrev pub well_formed_plain : (Scope → Option Scope) → Check
well_formed_plain after = record { defines = λ y. false; after = after }

-- the variables that one of several statements defines
abbrev pub any_defines : List Check → ℕ → Bool
any_defines [] y = false
any_defines (c ∷ cs) y = c.defines y || any_defines cs y

-- the scope after one statement after another
abbrev pub in_order : List Check → Scope → Option Scope
in_order [] scope = Some scope
in_order (c ∷ cs) scope = option_and_then (in_order cs) (c.after scope)

-- the scope without some variables
abbrev pub without : (ℕ → Bool) → Scope → Scope
without some scope y = if some y then None else scope y

-- a conditional: the hidden variable is visible in the blocks and after them, what a block defines is not
abbrev pub well_formed_conditional : ℕ → Expr → List Check → List Check → Check
well_formed_conditional x e first second = record {
  defines = λ y. y == x || (any_defines first y || any_defines second y);
  after = λ scope. if_so
      (is_bool (type_in scope e) && is_some (in_order first (with_var scope x BoolTy)) && is_some (in_order second (with_var scope x BoolTy)))
      (without (any_defines first) (without (any_defines second) (with_var scope x BoolTy)));
}

-- a loop: its variable is an int in the block, at whose beginning nothing is visible of what it defines, as it may have run
-- before; neither the variable nor what the block defines is visible after it
abbrev pub well_formed_loop : ℕ → List Check → Check
well_formed_loop x body = record {
  defines = λ y. y == x || any_defines body y;
  after = λ scope. if_so (is_some (in_order body (with_var (without (any_defines body) scope) x IntTy))) (without (λ y. y == x || any_defines body y) scope);
}

-- the check of a statement, from those of the statements in its blocks
abbrev pub check_step : List Table → Stmt-F Check → Check
check_step tables (Let x e) = defining x (λ scope. option_map (with_var scope x) (type_in scope e))
check_step tables (Read x t k c default) = defining x (λ scope.
    if_so (is_wanted (type_in scope k) (key_type tables t) && is_wanted (Some (type_of default)) (column_type tables t c)) (with_var scope x (type_of default)))
check_step tables (Has x t k) = defining x (λ scope. if_so (is_wanted (type_in scope k) (key_type tables t)) (with_var scope x BoolTy))
check_step tables (Put t k es) = well_formed_plain (λ scope.
    if_so (is_wanted (type_in scope k) (key_type tables t) && is_width (length es) && are_wanted (map (type_in scope) es) (column_types tables t)) scope)
check_step tables (Set t k c e) = well_formed_plain (λ scope. if_so (is_wanted (type_in scope k) (key_type tables t) && is_wanted (type_in scope e) (column_type tables t c)) scope)
check_step tables (Delete t k) = well_formed_plain (λ scope. if_so (is_wanted (type_in scope k) (key_type tables t)) scope)
check_step tables (AbortIf e) = well_formed_plain (λ scope. if_so (is_bool (type_in scope e)) scope)
check_step tables (If x e first second) = well_formed_conditional x e first second
check_step tables (For x from to body) = well_formed_loop x body

-- the check of a statement
abbrev pub check : List Table → Stmt → Check
check tables = fold-Stmt Check (check_step tables)

-- the scope after a statement, None where it is not well-formed
abbrev pub scope_after : List Table → Stmt → Scope → Option Scope
scope_after tables stmt = (check tables stmt).after

-- the scope after statements, None where one is not well-formed
abbrev pub scope_after_all : List Table → List Stmt → Scope → Option Scope
scope_after_all tables stmts = in_order (map (check tables) stmts)

-- the parameters have the first numbers
abbrev pub scope_of : List Column → Scope
scope_of params x = slice_get (types params) x

-- the procedure's statements are well-formed where its parameters are visible
abbrev pub IsWellFormedProc : List Table → Proc → Type 0
IsWellFormedProc tables proc = IsSome (scope_after_all tables proc.body (scope_of proc.params))
