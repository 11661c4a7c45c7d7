-- Which variables operations use and define, and which tables they look at or change.
use Rattle.std.specs.Prelude.{◌≡◌, ℕ, Bool, true, false, ◌||◌, ◌==◌, List, slice_get, Option, Some, None, IsSomeAnd}
use Rattle.std.specs.List.{list_any}
use Rattle.pac_value.specs.declared.expr.Expr.{Expr}
use Rattle.pac_value.specs.declared.expr.Expr.TheOpen.{Expr-F, Lit, Var, Bin, Not}
use Rattle.pac_value.specs.declared.expr.Expr.TheFolds.{fold-Expr}
use Rattle.pac_ops.specs.declared.program.OpKind.{OpKind}
use Rattle.pac_ops.specs.declared.program.OpKind.TheVariants.{Let, Cond, Read, Has, Put, SetCol, Delete, AbortIf}
use Rattle.pac_ops.specs.declared.program.FlatOp.{FlatOp}

-- whether an expression uses a variable, from whether its operands do
abbrev pub use_step : ℕ → Expr-F Bool → Bool
use_step x (Lit v) = false
use_step x (Var y) = y == x
use_step x (Bin op l r) = l || r
use_step x (Not e) = e

-- an expression uses the variable
abbrev pub expr_uses : ℕ → Expr → Bool
expr_uses x = fold-Expr Bool (use_step x)

-- one of several expressions uses the variable
abbrev pub exprs_use : ℕ → List Expr → Bool
exprs_use x es = list_any (expr_uses x) es

-- the key, a value or the test of an operation uses the variable
abbrev pub kind_uses : ℕ → OpKind → Bool
kind_uses x (Let y e) = expr_uses x e
kind_uses x (Cond y e) = expr_uses x e
kind_uses x (Read y t k c d) = expr_uses x k
kind_uses x (Has y t k) = expr_uses x k
kind_uses x (Put t k es) = expr_uses x k || exprs_use x es
kind_uses x (SetCol t k c e) = expr_uses x k || expr_uses x e
kind_uses x (Delete t k) = expr_uses x k
kind_uses x (AbortIf e) = expr_uses x e

-- a condition is on the variable
abbrev pub conds_use : ℕ → List (ℕ × Bool) → Bool
conds_use x conds = list_any (λ c. c.0 == x) conds

-- an operation uses the variable: in its conditions, its key, its values or its test
abbrev pub op_uses : ℕ → FlatOp → Bool
op_uses x op = conds_use x op.conds || kind_uses x op.kind

-- the variable that an operation defines
abbrev pub defined_variable : OpKind → Option ℕ
defined_variable (Let x e) = Some x
defined_variable (Cond x e) = Some x
defined_variable (Read x t k c d) = Some x
defined_variable (Has x t k) = Some x
defined_variable (Put t k es) = None
defined_variable (SetCol t k c e) = None
defined_variable (Delete t k) = None
defined_variable (AbortIf e) = None

-- the table that an operation accesses
abbrev pub accessed_table : OpKind → Option ℕ
accessed_table (Let x e) = None
accessed_table (Cond x e) = None
accessed_table (Read x t k c d) = Some t
accessed_table (Has x t k) = Some t
accessed_table (Put t k es) = Some t
accessed_table (SetCol t k c e) = Some t
accessed_table (Delete t k) = Some t
accessed_table (AbortIf e) = None

-- an operation modifies its table: a read and a `has` don't
abbrev pub modifies : OpKind → Bool
modifies (Let x e) = false
modifies (Cond x e) = false
modifies (Read x t k c d) = false
modifies (Has x t k) = false
modifies (Put t k es) = true
modifies (SetCol t k c e) = true
modifies (Delete t k) = true
modifies (AbortIf e) = false

-- the operation of this number defines the variable
abbrev pub Defines : List FlatOp → ℕ → ℕ → Type 0
Defines ops i x = IsSomeAnd (slice_get ops i) (λ op. defined_variable op.kind ≡ Some x)
