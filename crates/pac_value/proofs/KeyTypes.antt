-- What an operator gives is an int, where it is a key.
use Rattle.std.proofs.Common.{◌≡◌, Option, Some, None, ℕ, IsSome, refl, subst, ◌∙◌}
use Rattle.std.specs.Option.{option_and_then}
use Rattle.pac_value.specs.declared.values.Ty.{Ty}
use Rattle.pac_value.specs.declared.values.Ty.TheVariants.{Int as IntTy, Text as TextTy, Bool as BoolTy}
use Rattle.pac_value.specs.declared.expr.BinOp.{BinOp}
use Rattle.pac_value.specs.declared.expr.BinOp.TheVariants.{Add, Sub, Mul, Div, Rem, Eq, Ne, Lt, Le, Gt, Ge, And, Or}
use Rattle.pac_value.specs.declared.expr.Expr.{Expr, Bin}
use Rattle.pac_value.proofs.ByForms.{fold-Bin}
use Rattle.pac_value.proofs.ArithmeticLemmas.{int_given}
use Rattle.pac_value.specs.Expressions.{type_in, type_step, operator_type, equality_type, order_type, logic_type}

-- a type that is known to be a bool or none is no key's
equality_is_bool : (a b : Ty) → IsSome (equality_type a b) → equality_type a b ≡ Some BoolTy
equality_is_bool IntTy IntTy e = refl
equality_is_bool IntTy TextTy e = absurd (cc)
equality_is_bool IntTy BoolTy e = absurd (cc)
equality_is_bool TextTy IntTy e = absurd (cc)
equality_is_bool TextTy TextTy e = refl
equality_is_bool TextTy BoolTy e = absurd (cc)
equality_is_bool BoolTy IntTy e = absurd (cc)
equality_is_bool BoolTy TextTy e = absurd (cc)
equality_is_bool BoolTy BoolTy e = refl

order_is_bool : (a b : Ty) → IsSome (order_type a b) → order_type a b ≡ Some BoolTy
order_is_bool IntTy IntTy e = refl
order_is_bool IntTy TextTy e = absurd (cc)
order_is_bool IntTy BoolTy e = absurd (cc)
order_is_bool TextTy IntTy e = absurd (cc)
order_is_bool TextTy TextTy e = refl
order_is_bool TextTy BoolTy e = absurd (cc)
order_is_bool BoolTy IntTy e = absurd (cc)
order_is_bool BoolTy TextTy e = absurd (cc)
order_is_bool BoolTy BoolTy e = absurd (cc)

logic_is_bool : (a b : Ty) → IsSome (logic_type a b) → logic_type a b ≡ Some BoolTy
logic_is_bool IntTy IntTy e = absurd (cc)
logic_is_bool IntTy TextTy e = absurd (cc)
logic_is_bool IntTy BoolTy e = absurd (cc)
logic_is_bool TextTy IntTy e = absurd (cc)
logic_is_bool TextTy TextTy e = absurd (cc)
logic_is_bool TextTy BoolTy e = absurd (cc)
logic_is_bool BoolTy IntTy e = absurd (cc)
logic_is_bool BoolTy TextTy e = absurd (cc)
logic_is_bool BoolTy BoolTy e = refl

-- an operator gives an int or a bool
int_or_bool : (op : BinOp) (a b : Ty) → IsSome (operator_type op a b) → (operator_type op a b ≡ Some BoolTy → ⊥) → operator_type op a b ≡ Some IntTy
int_or_bool Add a b e other = int_given a b e
int_or_bool Sub a b e other = int_given a b e
int_or_bool Mul a b e other = int_given a b e
int_or_bool Div a b e other = int_given a b e
int_or_bool Rem a b e other = int_given a b e
int_or_bool Eq a b e other = absurd (other (equality_is_bool a b e))
int_or_bool Ne a b e other = absurd (other (equality_is_bool a b e))
int_or_bool Lt a b e other = absurd (other (order_is_bool a b e))
int_or_bool Le a b e other = absurd (other (order_is_bool a b e))
int_or_bool Gt a b e other = absurd (other (order_is_bool a b e))
int_or_bool Ge a b e other = absurd (other (order_is_bool a b e))
int_or_bool And a b e other = absurd (other (logic_is_bool a b e))
int_or_bool Or a b e other = absurd (other (logic_is_bool a b e))

both_typed : (op : BinOp) (a b : Option Ty) → IsSome (option_and_then (λ x. option_and_then (λ y. operator_type op x y) b) a)
    → (option_and_then (λ x. option_and_then (λ y. operator_type op x y) b) a ≡ Some BoolTy → ⊥) → option_and_then (λ x. option_and_then (λ y. operator_type op x y) b) a ≡ Some IntTy
both_typed op None b e other = absurd (cc)
both_typed op (Some x) None e other = absurd (cc)
both_typed op (Some x) (Some y) e other = int_or_bool op x y e other

pub operator_is_int : (types : ℕ → Option Ty) (op : BinOp) (l r : Expr) → IsSome (type_in types (Bin op l r)) → (type_in types (Bin op l r) ≡ Some BoolTy → ⊥) → type_in types (Bin op l r) ≡ Some IntTy
operator_is_int types op l r some other =
    let here = fold-Bin (Option Ty) (type_step types) op l r in
    here ∙ both_typed op (type_in types l) (type_in types r) (subst IsSome here some) (λ e. other (here ∙ e))
