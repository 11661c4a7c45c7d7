-- An expression has over values the type that it has over their types.
use Rattle.std.proofs.Common.{◌≡◌, ℕ, Bool, true, sym, ap, ap₂, ◌∙◌, Option}
use Rattle.std.specs.Prelude.{slice_get}
use Rattle.std.specs.Option.{option_map, option_and_then}
use Rattle.pac_value.specs.declared.values.Ty.{Ty}
use Rattle.pac_value.specs.Values.{type_of}
use Rattle.pac_value.specs.Expressions.{type_in, type_step, types_of, operator_type, negated_type}
use Rattle.pac_value.proofs.ByForms.{by_forms, fold-Lit, fold-Var, fold-Bin, fold-Not}
use Rattle.pac_ops.specs.Uses.{use_step, expr_uses}
use Rattle.pac_ops.specs.StaysFit.{HasTyped, TypedOverValues}
use Rattle.pac_base.proofs.TestLemmas.{or_left, or_right, eq_self}

pub typed_over : TypedOverValues
typed_over vars env = by_forms (λ e. ((x : ℕ) → expr_uses x e ≡ true → HasTyped vars env x) → type_in (types_of env) e ≡ type_in (λ x. slice_get vars x) e)
    (λ v has. fold-Lit (Option Ty) (type_step (types_of env)) v ∙ sym (fold-Lit (Option Ty) (type_step (λ x. slice_get vars x)) v))
    (λ y has.
    let h = has y (fold-Var Bool (use_step y) y ∙ eq_self y) in
    fold-Var (Option Ty) (type_step (types_of env)) y ∙ ap (option_map type_of) h.1 ∙ sym h.2 ∙ sym (fold-Var (Option Ty) (type_step (λ x. slice_get vars x)) y))
    (λ op l r p q has. fold-Bin (Option Ty) (type_step (types_of env)) op l r
    ∙ ap₂ (λ (a b : Option Ty). option_and_then (λ x. option_and_then (λ y. operator_type op x y) b) a)
    (p (λ x u. has x (fold-Bin Bool (use_step x) op l r ∙ or_left (expr_uses x l) (expr_uses x r) u)))
    (q (λ x u. has x (fold-Bin Bool (use_step x) op l r ∙ or_right (expr_uses x l) (expr_uses x r) u)))
    ∙ sym (fold-Bin (Option Ty) (type_step (λ x. slice_get vars x)) op l r))
    (λ e p has. fold-Not (Option Ty) (type_step (types_of env)) e
    ∙ ap (option_and_then negated_type) (p (λ x u. has x (fold-Not Bool (use_step x) e ∙ u)))
    ∙ sym (fold-Not (Option Ty) (type_step (λ x. slice_get vars x)) e))
