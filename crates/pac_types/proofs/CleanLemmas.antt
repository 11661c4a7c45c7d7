-- An expression that has a type has no fault inside.
use Rattle.std.proofs.Common.{◌≡◌, ℕ, Bool, true, false, not, List, [], ◌++◌, Option, Some, None, refl, sym, ap, subst, ◌∙◌}
use Rattle.std.specs.Option.{option_and_then}
use Rattle.pac_value.specs.declared.values.Ty.{Ty}
use Rattle.pac_value.specs.declared.values.Ty.TheVariants.{Int as IntTy, Text as TextTy, Bool as BoolTy}
use Rattle.pac_value.specs.declared.expr.BinOp.{BinOp}
use Rattle.pac_value.specs.declared.expr.BinOp.TheVariants.{Add, Sub, Mul, Div, Rem, Eq, Ne, Lt, Le, Gt, Ge, And, Or}
use Rattle.pac_value.specs.Expressions.{operator_type, negated_type}
use Rattle.pac_syntax.specs.declared.tree.ExprNode.{ExprNode}
use Rattle.pac_syntax.proofs.NodeForms.{by_nodes, fold-Literal, fold-Name, fold-Binary, fold-Not}
use Rattle.pac_types.specs.declared.type_error.TypeFaultKind.TheVariants.{WrongType}
use Rattle.pac_types.specs.Checking.{is_right}
use Rattle.pac_types.specs.Faults.{fault_if, Known, seen, name_faults, is_left, wanted_right, is_same, is_test, Judged, wrong_type, placed, judge_step, judged}
use Rattle.pac_types.proofs.ExprLemmas.{no_left, no_right}

-- it has no fault inside where it has a type
abbrev pub TypedIsClean : Judged → Type 0
TypedIsClean j = (ty : Ty) → j.ty ≡ Some ty → j.faults ≡ []

abbrev some_type : Ty → Option Ty
some_type ty = Some ty

abbrev no_type : Option Ty
no_type = None

none_some : (ty : Ty) → no_type ≡ some_type ty → ⊥
none_some ty e = absurd cc

name_clean : (known : Known) (o : Option ℕ) (at : ℕ) (ty : Ty) → option_and_then (λ ty. ty) (seen known o) ≡ some_type ty → name_faults at o (seen known o) ≡ []
name_clean known None at ty e = absurd (none_some ty e)
name_clean known (Some offset) at ty e = by (seen known (Some offset)) e
  where
    by : (o : Option (Option Ty)) → option_and_then (λ ty. ty) o ≡ some_type ty → name_faults at (Some offset) o ≡ []
    by None e = absurd (none_some ty e)
    by (Some x) e = refl

-- a position that takes the type that an expression has
taken_clean : (takes : Ty → Bool) (j : Judged) (ty : Ty) → TypedIsClean j → j.ty ≡ Some ty → takes ty ≡ true → placed takes j ≡ []
taken_clean takes j ty clean e t = ap (λ (o : Option Ty). wrong_type takes j.at o ++ j.faults) e ∙ ap (λ (b : Bool). fault_if (not b) j.at WrongType ++ j.faults) t ∙ clean ty e

pub right_is : (op : BinOp) (a b : Ty) → is_same (wanted_right op (Some a)) b ≡ is_right op a b
right_is Add a b = refl
right_is Sub a b = refl
right_is Mul a b = refl
right_is Div a b = refl
right_is Rem a b = refl
right_is Eq a b = refl
right_is Ne a b = refl
right_is Lt a b = refl
right_is Le a b = refl
right_is Gt a b = refl
right_is Ge a b = refl
right_is And a b = refl
right_is Or a b = refl

binary_clean : (op : BinOp) (l r : Judged) → TypedIsClean l → TypedIsClean r → (ty : Ty) → option_and_then (λ a. option_and_then (λ b. operator_type op a b) r.ty) l.ty ≡ some_type ty → placed (is_left op) l ++ placed (is_same (wanted_right op l.ty)) r ≡ []
binary_clean op l r left_clean right_clean ty h = by_left l.ty refl h
  where
    left_takes : (a b : Ty) (c : Bool) → is_left op a ≡ c → operator_type op a b ≡ some_type ty → is_left op a ≡ true
    left_takes a b true e g = e
    left_takes a b false e g = absurd (none_some ty (sym (no_left op a e b) ∙ g))

    right_takes : (a b : Ty) (c : Bool) → is_left op a ≡ true → is_right op a b ≡ c → operator_type op a b ≡ some_type ty → is_right op a b ≡ true
    right_takes a b true l e g = e
    right_takes a b false l e g = absurd (none_some ty (sym (no_right op a b l e) ∙ g))

    both : (a b : Ty) → l.ty ≡ Some a → r.ty ≡ Some b → operator_type op a b ≡ some_type ty → placed (is_left op) l ++ placed (is_same (wanted_right op l.ty)) r ≡ []
    both a b e f g =
        let left : is_left op a ≡ true = left_takes a b (is_left op a) refl g in
        let right : is_same (wanted_right op l.ty) b ≡ true = ap (λ (o : Option Ty). is_same (wanted_right op o) b) e ∙ right_is op a b ∙ right_takes a b (is_right op a b) left refl g in
        λ i. taken_clean (is_left op) l a left_clean e left i ++ taken_clean (is_same (wanted_right op l.ty)) r b right_clean f right i

    by_right : (a : Ty) → l.ty ≡ Some a → (o : Option Ty) → r.ty ≡ o → option_and_then (λ b. operator_type op a b) o ≡ some_type ty → placed (is_left op) l ++ placed (is_same (wanted_right op l.ty)) r ≡ []
    by_right a e None f g = absurd (none_some ty g)
    by_right a e (Some b) f g = both a b e f g

    by_left : (o : Option Ty) → l.ty ≡ o → option_and_then (λ a. option_and_then (λ b. operator_type op a b) r.ty) o ≡ some_type ty → placed (is_left op) l ++ placed (is_same (wanted_right op l.ty)) r ≡ []
    by_left None e g = absurd (none_some ty g)
    by_left (Some a) e g = by_right a e r.ty refl g

not_clean : (j : Judged) → TypedIsClean j → (ty : Ty) → option_and_then negated_type j.ty ≡ some_type ty → placed is_test j ≡ []
not_clean j clean ty h = by j.ty refl h
  where
    by : (o : Option Ty) → j.ty ≡ o → option_and_then negated_type o ≡ some_type ty → placed is_test j ≡ []
    by None e g = absurd (none_some ty g)
    by (Some IntTy) e g = absurd (none_some ty g)
    by (Some TextTy) e g = absurd (none_some ty g)
    by (Some BoolTy) e g = taken_clean is_test j BoolTy clean e refl

module _ (names : List (List ℕ)) (known : Known) where
  clean_at : (e : ExprNode) (j : Judged) → judged names known e ≡ j → TypedIsClean j → TypedIsClean (judged names known e)
  clean_at e j is h = subst (λ (z : Judged). TypedIsClean z) (sym is) h

  pub clean : (e : ExprNode) → TypedIsClean (judged names known e)
  clean = by_nodes (λ e. TypedIsClean (judged names known e))
      (λ l. clean_at _ _ (fold-Literal Judged (judge_step names known) l) (λ ty e. refl))
      (λ n. clean_at _ _ (fold-Name Judged (judge_step names known) n) (λ ty e. name_clean known _ n.at ty e))
      (λ at op l r p q. clean_at _ _ (fold-Binary Judged (judge_step names known) at op l r) (λ ty e. binary_clean op (judged names known l) (judged names known r) p q ty e))
      (λ at e p. clean_at _ _ (fold-Not Judged (judge_step names known) at e) (λ ty h. not_clean (judged names known e) p ty h))
