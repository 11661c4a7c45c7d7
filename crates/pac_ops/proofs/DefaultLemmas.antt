-- The default of an operation that aborts is plain from its kind.
use Rattle.std.proofs.Common.{◌≡◌, ℕ, cond, List, refl, sym, ap, ◌∙◌, Option, Some, None, Result, Ok, Err}
use Rattle.std.specs.Prelude.{slice_get, IsSomeAnd}
use Rattle.std.specs.Option.{option_map}
use Rattle.std.proofs.lemmas.Option.{same_Some}
use Rattle.pac_value.specs.declared.values.Ty.{Ty}
use Rattle.pac_value.specs.declared.values.Ty.TheVariants.{Int as IntTy, Text as TextTy, Bool as BoolTy}
use Rattle.pac_value.specs.declared.values.Value.{Value}
use Rattle.pac_value.specs.declared.expr.BinOp.{BinOp}
use Rattle.pac_value.specs.declared.expr.BinOp.TheVariants.{Add, Sub, Mul, Div, Rem, Eq, Ne, Lt, Le, Gt, Ge, And, Or}
use Rattle.pac_value.specs.declared.expr.Expr.{Expr}
use Rattle.pac_value.specs.declared.expr.Trap.{Trap}
use Rattle.pac_value.specs.Values.{type_of}
use Rattle.pac_value.specs.Expressions.{Values, value, value_step, type_in, type_step, operator_type, arithmetic_type, is_arithmetic, ◌>>=◌}
use Rattle.pac_value.proofs.ByForms.{by_forms, fold-Lit, fold-Var, fold-Bin, fold-Not}
use Rattle.pac_ops.specs.declared.reason.Reason.{Reason}
use Rattle.pac_ops.specs.declared.program.OpKind.TheVariants.{Let, Cond, Read, Has, Put, SetCol, Delete, AbortIf}
use Rattle.pac_ops.specs.Reasons.{or_abort}
use Rattle.pac_ops.specs.Programs.{scope_in}
use Rattle.pac_ops.specs.Operations.{Gives}
use Rattle.pac_ops.specs.Flat.{default_of}
use Rattle.pac_ops.specs.Effects.{default_in}
use Rattle.pac_ops.specs.Defaults.{trapped_step, trapped_expr, DefaultsByKind}
use Rattle.pac_ops.proofs.TypeLemmas.{equality_bool, order_bool, bin_types, negation_types}

arithmetic_int : (a b ty : Ty) → arithmetic_type a b ≡ Some ty → IntTy ≡ ty
arithmetic_int IntTy IntTy ty e = same_Some IntTy ty e
arithmetic_int IntTy TextTy ty e = absurd cc
arithmetic_int IntTy BoolTy ty e = absurd cc
arithmetic_int TextTy IntTy ty e = absurd cc
arithmetic_int TextTy TextTy ty e = absurd cc
arithmetic_int TextTy BoolTy ty e = absurd cc
arithmetic_int BoolTy IntTy ty e = absurd cc
arithmetic_int BoolTy TextTy ty e = absurd cc
arithmetic_int BoolTy BoolTy ty e = absurd cc

logic_is : (a b ty : Ty) → operator_type And a b ≡ Some ty → BoolTy ≡ ty
logic_is BoolTy BoolTy ty e = same_Some BoolTy ty e
logic_is IntTy b ty e = absurd cc
logic_is TextTy b ty e = absurd cc
logic_is BoolTy IntTy ty e = absurd cc
logic_is BoolTy TextTy ty e = absurd cc

operator_gives : (op : BinOp) (a b ty : Ty) → operator_type op a b ≡ Some ty → cond (is_arithmetic op) IntTy BoolTy ≡ ty
operator_gives Add a b ty e = arithmetic_int a b ty e
operator_gives Sub a b ty e = arithmetic_int a b ty e
operator_gives Mul a b ty e = arithmetic_int a b ty e
operator_gives Div a b ty e = arithmetic_int a b ty e
operator_gives Rem a b ty e = arithmetic_int a b ty e
operator_gives Eq a b ty e = equality_bool a b ty e
operator_gives Ne a b ty e = equality_bool a b ty e
operator_gives Lt a b ty e = order_bool a b ty e
operator_gives Le a b ty e = order_bool a b ty e
operator_gives Gt a b ty e = order_bool a b ty e
operator_gives Ge a b ty e = order_bool a b ty e
operator_gives And a b ty e = logic_is a b ty e
operator_gives Or a b ty e = logic_is a b ty e

no_trap : {A : Type 0} (v : Value) (trap : Trap) → ◌≡◌ {A = Result Value Trap} (Ok v) (Err trap) → A
no_trap v trap e = absurd cc

trapped_is : (types : ℕ → Option Ty) (env : Values) (trap : Trap) (e : Expr) (ty : Ty) → type_in types e ≡ Some ty → value e env ≡ Err trap → trapped_expr e ≡ ty
trapped_is types env trap = by_forms (λ e. (ty : Ty) → type_in types e ≡ Some ty → value e env ≡ Err trap → trapped_expr e ≡ ty)
    (λ v ty e h. no_trap v trap (sym (fold-Lit (Result Value Trap) (value_step env) v) ∙ h))
    (λ x ty e h. no_trap _ trap (sym (fold-Var (Result Value Trap) (value_step env) x) ∙ h))
    (λ op l r p q ty e h.
    let t = bin_types op (type_in types l) (type_in types r) ty (sym (fold-Bin (Option Ty) (type_step types) op l r) ∙ e) in
    fold-Bin Ty trapped_step op l r ∙ operator_gives op t.0 t.1 ty t.4)
    (λ e p ty h k. fold-Not Ty trapped_step e ∙ (negation_types (type_in types e) ty (sym (fold-Not (Option Ty) (type_step types) e) ∙ h)).1)

some_one : {A : Type 0} (o : Option A) (P : A → Type 0) → IsSomeAnd o P → (x : A) × (o ≡ Some x) × P x
some_one None P h = absurd h
some_one (Some x) P h = (x, refl, h)

module _ (vars : List Ty) where
  by_type : (x : ℕ) (ty : Ty) → slice_get vars x ≡ Some ty → default_in vars (Some x) ≡ Some (x, default_of ty)
  by_type x ty e = ap (option_map (λ t. (x, default_of t))) e

  trapped_value : (x : ℕ) (r : Result Value Trap) (reason : Reason) → (or_abort r >>= λ v. Ok (Gives x v)) ≡ Err reason → (trap : Trap) × (r ≡ Err trap)
  trapped_value x (Ok v) reason e = absurd cc
  trapped_value x (Err trap) reason e = (trap, refl)

pub defaults_by_kind : DefaultsByKind
defaults_by_kind vars (Let x e) env row reason gives h =
    let g = some_one (slice_get vars x) (λ ty. type_in (scope_in vars) e ≡ Some ty) (gives x refl) in
    let t = trapped_value vars x (value e env) reason h in
    by_type vars x (trapped_expr e) (g.1 ∙ ap (λ ty. Some ty) (sym (trapped_is (scope_in vars) env t.0 e g.0 g.2 t.1)))
defaults_by_kind vars (Cond x e) env row reason gives h = let g = some_one (slice_get vars x) (λ ty. Some BoolTy ≡ Some ty) (gives x refl) in by_type vars x BoolTy (g.1 ∙ sym g.2)
defaults_by_kind vars (Read x t k c d) env row reason gives h = let g = some_one (slice_get vars x) (λ ty. Some (type_of d) ≡ Some ty) (gives x refl) in by_type vars x (type_of d) (g.1 ∙ sym g.2)
defaults_by_kind vars (Has x t k) env row reason gives h = let g = some_one (slice_get vars x) (λ ty. Some BoolTy ≡ Some ty) (gives x refl) in by_type vars x BoolTy (g.1 ∙ sym g.2)
defaults_by_kind vars (Put t k es) env row reason gives h = refl
defaults_by_kind vars (SetCol t k c e) env row reason gives h = refl
defaults_by_kind vars (Delete t k) env row reason gives h = refl
defaults_by_kind vars (AbortIf e) env row reason gives h = refl
