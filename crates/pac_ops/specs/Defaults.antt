-- The type of what an operation would have given that aborts, from its kind alone.
use Rattle.std.specs.Prelude.{◌≡◌, ℕ, if◌then◌else◌, slice_get, List, Option, Some, Err, IsSomeAnd}
use Rattle.std.specs.Option.{option_map}
use Rattle.pac_value.specs.declared.values.Ty.{Ty}
use Rattle.pac_value.specs.declared.values.Ty.TheVariants.{Int as IntTy, Bool as BoolTy}
use Rattle.pac_value.specs.declared.expr.Expr.{Expr}
use Rattle.pac_value.specs.declared.expr.Expr.TheOpen.{Expr-F, Lit, Var, Bin, Not}
use Rattle.pac_value.specs.declared.expr.Expr.TheFolds.{fold-Expr}
use Rattle.pac_value.specs.Values.{type_of}
use Rattle.pac_value.specs.Expressions.{Values, is_arithmetic, ◌>>=◌}
use Rattle.pac_value.specs.State.{RowValues}
use Rattle.pac_ops.specs.declared.reason.Reason.{Reason}
use Rattle.pac_ops.specs.declared.program.OpKind.{OpKind}
use Rattle.pac_ops.specs.declared.program.OpKind.TheVariants.{Let, Cond, Read, Has, Put, SetCol, Delete, AbortIf}
use Rattle.pac_ops.specs.Reasons.{or_abort}
use Rattle.pac_ops.specs.Programs.{given_type, scope_in}
use Rattle.pac_ops.specs.Uses.{defined_variable}
use Rattle.pac_ops.specs.Operations.{touched, effect}
use Rattle.pac_ops.specs.Flat.{default_of}
use Rattle.pac_ops.specs.Effects.{default_in}

-- an expression that traps is an int under an operator of arithmetic, and else a bool; no literal and no variable traps
abbrev pub trapped_step : Expr-F Ty → Ty
trapped_step (Lit v) = type_of v
trapped_step (Var x) = BoolTy
trapped_step (Bin op l r) = if is_arithmetic op then IntTy else BoolTy
trapped_step (Not e) = BoolTy

-- the type that an expression which traps stands for
abbrev pub trapped_expr : Expr → Ty
trapped_expr = fold-Expr Ty trapped_step

-- the type of the default that an operation which traps gives its variable
abbrev pub trapped_type : OpKind → Ty
trapped_type (Let x e) = trapped_expr e
trapped_type (Cond x e) = BoolTy
trapped_type (Read x t k c d) = type_of d
trapped_type (Has x t k) = BoolTy
trapped_type (Put t k es) = BoolTy
trapped_type (SetCol t k c e) = BoolTy
trapped_type (Delete t k) = BoolTy
trapped_type (AbortIf e) = BoolTy

-- where an operation aborts, the default of its variable is plain from its kind
abbrev pub DefaultsByKind : Type 0
DefaultsByKind = (vars : List Ty) (kind : OpKind) (env : Values) (row : Option RowValues) (reason : Reason)
    → ((x : ℕ) → defined_variable kind ≡ Some x → IsSomeAnd (slice_get vars x) (λ ty. given_type (scope_in vars) kind ≡ Some ty))
    → (or_abort (touched kind env) >>= λ cell. effect kind env row) ≡ Err reason
    → default_in vars (defined_variable kind) ≡ option_map (λ x. (x, default_of (trapped_type kind))) (defined_variable kind)
