-- The types of values of expressions, and of what operations do.
use Rattle.std.proofs.Common.{◌≡◌, ℕ, Bool, true, false, cond, ℤ, ◌+ℤ◌, ◌-ℤ◌, ◌*ℤ◌, List, [], ◌∷◌, map, refl, sym, ap, ◌∙◌, subst, true≢false, Option, Some, None, Result, Ok, Err, unwrap_or}
use Rattle.std.specs.Prelude.{slice_get}
use Rattle.std.specs.Option.{option_and_then}
use Rattle.std.specs.Ordering.{int_eq}
use Rattle.std.proofs.lemmas.Option.{same_Some}
use Rattle.pac_value.specs.declared.values.Ty.{Ty}
use Rattle.pac_value.specs.declared.values.Ty.TheVariants.{Int as IntTy, Text as TextTy, Bool as BoolTy}
use Rattle.pac_value.specs.declared.values.Value.{Value}
use Rattle.pac_value.specs.declared.values.Value.TheVariants.{Int, Text, Bool as Truth}
use Rattle.pac_value.specs.declared.expr.BinOp.{BinOp}
use Rattle.pac_value.specs.declared.expr.BinOp.TheVariants.{Add, Sub, Mul, Div, Rem, Eq, Ne, Lt, Le, Gt, Ge, And, Or}
use Rattle.pac_value.specs.declared.expr.Expr.{Expr}
use Rattle.pac_value.specs.declared.expr.Trap.{Trap}
use Rattle.pac_value.specs.declared.expr.Trap.TheVariants.{Overflow, DivZero}
use Rattle.pac_value.specs.Values.{type_of}
use Rattle.pac_value.specs.Expressions.{Values, value, value_step, type_in, type_step, operator_type, arithmetic_type, equality_type, order_type, logic_type, negated_type, is_int, checked, quotient, remainder, divided, of_ints, applied, decides, joined, negated, ◌>>=◌}
use Rattle.pac_value.specs.Scopes.{is_wanted, are_wanted}
use Rattle.pac_value.specs.State.{RowValues}
use Rattle.pac_value.proofs.ByForms.{by_forms, fold-Lit, fold-Var, fold-Bin, fold-Not}
use Rattle.pac_ops.specs.Uses.{use_step, expr_uses, exprs_use}
use Rattle.pac_ops.specs.Operations.{values}
use Rattle.pac_ops.specs.StaysFit.{HasTyped}
use Rattle.pac_base.proofs.TestLemmas.{or_left, or_right, eq_self, and_left, and_right}

-- a result that is a value has the type
abbrev pub Typed : Ty → Result Value Trap → Type 0
Typed ty (Ok v) = type_of v ≡ ty
Typed ty (Err trap) = Unit {0}

checked_typed : (z : ℤ) → Typed IntTy (checked z)
checked_typed z = go (is_int z)
  where
    go : (b : Bool) → Typed IntTy (cond b (Ok (Int z)) (Err Overflow))
    go true = refl
    go false = tt

divided_typed : (d z : ℤ) → Typed IntTy (divided d z)
divided_typed d z = go (int_eq d _)
  where
    go : (b : Bool) → Typed IntTy (cond b (Err DivZero) (checked z))
    go true = tt
    go false = checked_typed z

ints_typed : (f : ℤ → ℤ → Result Value Trap) → ((x y : ℤ) → Typed IntTy (f x y)) → (a b : Value) (ty : Ty) → arithmetic_type (type_of a) (type_of b) ≡ Some ty → Typed ty (of_ints f a b)
ints_typed f h (Int a) (Int b) ty e = subst (λ t. Typed t (f a b)) (same_Some IntTy ty e) (h a b)
ints_typed f h (Int a) (Text b) ty e = absurd cc
ints_typed f h (Int a) (Truth b) ty e = absurd cc
ints_typed f h (Text a) (Int b) ty e = absurd cc
ints_typed f h (Text a) (Text b) ty e = absurd cc
ints_typed f h (Text a) (Truth b) ty e = absurd cc
ints_typed f h (Truth a) (Int b) ty e = absurd cc
ints_typed f h (Truth a) (Text b) ty e = absurd cc
ints_typed f h (Truth a) (Truth b) ty e = absurd cc

pub equality_bool : (a b ty : Ty) → equality_type a b ≡ Some ty → BoolTy ≡ ty
equality_bool IntTy IntTy ty e = same_Some BoolTy ty e
equality_bool IntTy TextTy ty e = absurd cc
equality_bool IntTy BoolTy ty e = absurd cc
equality_bool TextTy IntTy ty e = absurd cc
equality_bool TextTy TextTy ty e = same_Some BoolTy ty e
equality_bool TextTy BoolTy ty e = absurd cc
equality_bool BoolTy IntTy ty e = absurd cc
equality_bool BoolTy TextTy ty e = absurd cc
equality_bool BoolTy BoolTy ty e = same_Some BoolTy ty e

pub order_bool : (a b ty : Ty) → order_type a b ≡ Some ty → BoolTy ≡ ty
order_bool IntTy IntTy ty e = same_Some BoolTy ty e
order_bool IntTy TextTy ty e = absurd cc
order_bool IntTy BoolTy ty e = absurd cc
order_bool TextTy IntTy ty e = absurd cc
order_bool TextTy TextTy ty e = same_Some BoolTy ty e
order_bool TextTy BoolTy ty e = absurd cc
order_bool BoolTy IntTy ty e = absurd cc
order_bool BoolTy TextTy ty e = absurd cc
order_bool BoolTy BoolTy ty e = absurd cc

pub logic_bool : (a b ty : Ty) → logic_type a b ≡ Some ty → (a ≡ ty) × (b ≡ ty)
logic_bool IntTy IntTy ty e = absurd cc
logic_bool IntTy TextTy ty e = absurd cc
logic_bool IntTy BoolTy ty e = absurd cc
logic_bool TextTy IntTy ty e = absurd cc
logic_bool TextTy TextTy ty e = absurd cc
logic_bool TextTy BoolTy ty e = absurd cc
logic_bool BoolTy IntTy ty e = absurd cc
logic_bool BoolTy TextTy ty e = absurd cc
logic_bool BoolTy BoolTy ty e = (same_Some BoolTy ty e, same_Some BoolTy ty e)

applied_typed : (op : BinOp) (a b : Value) (ty : Ty) → operator_type op (type_of a) (type_of b) ≡ Some ty → Typed ty (applied op a b)
applied_typed Add a b ty e = ints_typed _ (λ x y. checked_typed (x +ℤ y)) a b ty e
applied_typed Sub a b ty e = ints_typed _ (λ x y. checked_typed (x -ℤ y)) a b ty e
applied_typed Mul a b ty e = ints_typed _ (λ x y. checked_typed (x *ℤ y)) a b ty e
applied_typed Div a b ty e = ints_typed _ (λ x y. divided_typed y (quotient x y)) a b ty e
applied_typed Rem a b ty e = ints_typed _ (λ x y. divided_typed y (remainder x y)) a b ty e
applied_typed Eq a b ty e = equality_bool (type_of a) (type_of b) ty e
applied_typed Ne a b ty e = equality_bool (type_of a) (type_of b) ty e
applied_typed Lt a b ty e = order_bool (type_of a) (type_of b) ty e
applied_typed Le a b ty e = order_bool (type_of a) (type_of b) ty e
applied_typed Gt a b ty e = order_bool (type_of a) (type_of b) ty e
applied_typed Ge a b ty e = order_bool (type_of a) (type_of b) ty e
applied_typed And a b ty e = (logic_bool (type_of a) (type_of b) ty e).1
applied_typed Or a b ty e = (logic_bool (type_of a) (type_of b) ty e).1

decides_typed : (op : BinOp) (a : Value) (b ty : Ty) → decides op a ≡ true → operator_type op (type_of a) b ≡ Some ty → type_of a ≡ ty
decides_typed And a b ty d e = (logic_bool (type_of a) b ty e).0
decides_typed Or a b ty d e = (logic_bool (type_of a) b ty e).0
decides_typed Add a b ty d e = absurd (true≢false (sym d))
decides_typed Sub a b ty d e = absurd (true≢false (sym d))
decides_typed Mul a b ty d e = absurd (true≢false (sym d))
decides_typed Div a b ty d e = absurd (true≢false (sym d))
decides_typed Rem a b ty d e = absurd (true≢false (sym d))
decides_typed Eq a b ty d e = absurd (true≢false (sym d))
decides_typed Ne a b ty d e = absurd (true≢false (sym d))
decides_typed Lt a b ty d e = absurd (true≢false (sym d))
decides_typed Le a b ty d e = absurd (true≢false (sym d))
decides_typed Gt a b ty d e = absurd (true≢false (sym d))
decides_typed Ge a b ty d e = absurd (true≢false (sym d))

joined_typed : (op : BinOp) (a : Value) (r : Result Value Trap) (b ty : Ty) → operator_type op (type_of a) b ≡ Some ty → Typed b r → Typed ty (joined op a r)
joined_typed op a r b ty e h = go (decides op a) refl
  where
    right : (r : Result Value Trap) → Typed b r → Typed ty (r >>= λ v. applied op a v)
    right (Ok v) h = applied_typed op a v ty (ap (operator_type op (type_of a)) h ∙ e)
    right (Err trap) h = tt

    go : (d : Bool) → decides op a ≡ d → Typed ty (cond d (Ok a) (r >>= λ v. applied op a v))
    go true d = decides_typed op a b ty d e
    go false d = right r h

pub bin_types : (op : BinOp) (l r : Option Ty) (ty : Ty) → option_and_then (λ a. option_and_then (λ b. operator_type op a b) r) l ≡ Some ty → (a : Ty) × (b : Ty) × (l ≡ Some a) × (r ≡ Some b) × (operator_type op a b ≡ Some ty)
bin_types op None r ty e = absurd cc
bin_types op (Some a) None ty e = absurd cc
bin_types op (Some a) (Some b) ty e = (a, b, refl, refl, e)

pub negation_types : (o : Option Ty) (ty : Ty) → option_and_then negated_type o ≡ Some ty → (o ≡ Some BoolTy) × (BoolTy ≡ ty)
negation_types None ty e = absurd cc
negation_types (Some IntTy) ty e = absurd cc
negation_types (Some TextTy) ty e = absurd cc
negation_types (Some BoolTy) ty e = (refl, same_Some BoolTy ty e)

negated_typed : (v : Value) → type_of v ≡ BoolTy → type_of (negated v) ≡ BoolTy
negated_typed (Int n) e = e
negated_typed (Text t) e = e
negated_typed (Truth b) e = refl

module _ (vars : List Ty) (env : Values) where
  -- an expression of a type whose variables have values of their types has a value of its type
  pub value-typed : (e : Expr) → ((x : ℕ) → expr_uses x e ≡ true → HasTyped vars env x) → (ty : Ty) → type_in (λ x. slice_get vars x) e ≡ Some ty → Typed ty (value e env)
  value-typed = by_forms (λ e. ((x : ℕ) → expr_uses x e ≡ true → HasTyped vars env x) → (ty : Ty) → type_in (λ x. slice_get vars x) e ≡ Some ty → Typed ty (value e env))
      (λ v has ty e. subst (Typed ty) (sym (fold-Lit (Result Value Trap) (value_step env) v)) (same_Some (type_of v) ty (sym (fold-Lit (Option Ty) (type_step (λ x. slice_get vars x)) v) ∙ e)))
      (λ y has ty e.
      let h = has y (fold-Var Bool (use_step y) y ∙ eq_self y) in
      subst (Typed ty) (sym (fold-Var (Result Value Trap) (value_step env) y ∙ ap (λ (o : Option Value). Ok (unwrap_or o (Truth false))) h.1))
      (same_Some (type_of h.0) ty (sym h.2 ∙ sym (fold-Var (Option Ty) (type_step (λ x. slice_get vars x)) y) ∙ e)))
      (λ op l r p q has ty e.
      let t = bin_types op (type_in (λ x. slice_get vars x) l) (type_in (λ x. slice_get vars x) r) ty (sym (fold-Bin (Option Ty) (type_step (λ x. slice_get vars x)) op l r) ∙ e) in
      subst (Typed ty) (sym (fold-Bin (Result Value Trap) (value_step env) op l r))
      (both op (value l env) (value r env) t.0 t.1 ty t.4
      (p (λ x u. has x (fold-Bin Bool (use_step x) op l r ∙ or_left (expr_uses x l) (expr_uses x r) u)) t.0 t.2)
      (q (λ x u. has x (fold-Bin Bool (use_step x) op l r ∙ or_right (expr_uses x l) (expr_uses x r) u)) t.1 t.3)))
      (λ e p has ty h.
      let t = negation_types (type_in (λ x. slice_get vars x) e) ty (sym (fold-Not (Option Ty) (type_step (λ x. slice_get vars x)) e) ∙ h) in
      subst (Typed ty) (sym (fold-Not (Result Value Trap) (value_step env) e))
      (turned (value e env) ty t.1 (p (λ x u. has x (fold-Not Bool (use_step x) e ∙ u)) BoolTy t.0)))
    where
      both : (op : BinOp) (l r : Result Value Trap) (a b ty : Ty) → operator_type op a b ≡ Some ty → Typed a l → Typed b r → Typed ty (l >>= λ v. joined op v r)
      both op (Ok v) r a b ty e h k = joined_typed op v r b ty (ap (λ z. operator_type op z b) h ∙ e) k
      both op (Err trap) r a b ty e h k = tt

      turned : (r : Result Value Trap) (ty : Ty) → BoolTy ≡ ty → Typed BoolTy r → Typed ty (r >>= λ v. Ok (negated v))
      turned (Ok v) ty e h = negated_typed v h ∙ e
      turned (Err trap) ty e h = tt

  -- a row of values
  abbrev pub RowTyped : List Ty → Result RowValues Trap → Type 0
  RowTyped tys (Ok vs) = map type_of vs ≡ tys
  RowTyped tys (Err trap) = Unit {0}

pub wanted_is : (a b : Option Ty) → is_wanted a b ≡ true → (ty : Ty) × (a ≡ Some ty) × (b ≡ Some ty) × (ty ≡ BoolTy → ⊥)
wanted_is (Some IntTy) (Some IntTy) h = (IntTy, refl, refl, λ e. cc)
wanted_is (Some TextTy) (Some TextTy) h = (TextTy, refl, refl, λ e. cc)
wanted_is (Some BoolTy) (Some IntTy) h = absurd cc
wanted_is (Some BoolTy) (Some TextTy) h = absurd cc
wanted_is (Some BoolTy) (Some BoolTy) h = absurd cc
wanted_is (Some IntTy) (Some TextTy) h = absurd cc
wanted_is (Some IntTy) (Some BoolTy) h = absurd cc
wanted_is (Some TextTy) (Some IntTy) h = absurd cc
wanted_is (Some TextTy) (Some BoolTy) h = absurd cc
wanted_is None b h = absurd cc
wanted_is (Some IntTy) None h = absurd cc
wanted_is (Some TextTy) None h = absurd cc
wanted_is (Some BoolTy) None h = absurd cc

module _ (vars : List Ty) (env : Values) where
  pub values-typed : (es : List Expr) → ((x : ℕ) → exprs_use x es ≡ true → HasTyped vars env x) → (tys : List Ty) → are_wanted (map (type_in (λ x. slice_get vars x)) es) tys ≡ true → RowTyped vars env tys (values es env)
  values-typed [] has [] w = refl
  values-typed [] has (ty ∷ tys) w = absurd cc
  values-typed (e ∷ es) has [] w = absurd cc
  values-typed (e ∷ es) has (ty ∷ tys) w = go (value e env) (values es env)
      (value-typed vars env e (λ x u. has x (or_left (expr_uses x e) (exprs_use x es) u)) ty wanted)
      (values-typed es (λ x u. has x (or_right (expr_uses x e) (exprs_use x es) u)) tys (and_right (is_wanted (type_in (λ x. slice_get vars x) e) (Some ty)) (are_wanted (map (type_in (λ x. slice_get vars x)) es) tys) w))
    where
      wanted : type_in (λ x. slice_get vars x) e ≡ Some ty
      wanted = let t = wanted_is (type_in (λ x. slice_get vars x) e) (Some ty) (and_left (is_wanted (type_in (λ x. slice_get vars x) e) (Some ty)) (are_wanted (map (type_in (λ x. slice_get vars x)) es) tys) w) in t.1 ∙ sym t.2

      go : (r : Result Value Trap) (rs : Result RowValues Trap) → Typed ty r → RowTyped vars env tys rs → RowTyped vars env (ty ∷ tys) (r >>= λ v. rs >>= λ vs. Ok (v ∷ vs))
      go (Ok v) (Ok vs) h k = λ i. h i ∷ k i
      go (Ok v) (Err trap) h k = tt
      go (Err trap) rs h k = tt
