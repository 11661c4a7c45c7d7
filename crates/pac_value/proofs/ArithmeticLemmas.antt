-- What arithmetic wants and gives.
use Rattle.std.proofs.Common.{◌≡◌, ℤ, true, Option, Some, None, Result, Ok, Err, ℕ, IsSome, refl, sym, ap, subst, ◌∙◌}
use Rattle.std.specs.Option.{option_and_then}
use Rattle.pac_value.specs.declared.values.Ty.{Ty}
use Rattle.pac_value.specs.declared.values.Ty.TheVariants.{Int as IntTy, Text as TextTy, Bool as BoolTy}
use Rattle.pac_value.specs.declared.values.Value.{Value}
use Rattle.pac_value.specs.declared.values.Value.TheVariants.{Int}
use Rattle.pac_value.specs.declared.expr.Trap.{Trap}
use Rattle.pac_value.specs.declared.expr.BinOp.{BinOp}
use Rattle.pac_value.specs.declared.expr.BinOp.TheVariants.{Add, Sub, Mul, Div, Rem, Eq, Ne, Lt, Le, Gt, Ge, And, Or}
use Rattle.pac_value.specs.declared.expr.Expr.{Expr, Bin}
use Rattle.pac_value.proofs.ByForms.{fold-Bin}
use Rattle.pac_value.specs.Expressions.{Values, value, value_step, type_in, type_step, is_arithmetic, operator_type, arithmetic_type, joined, applied, ◌>>=◌}

-- an int decides nothing
pub joined_int : (op : BinOp) (a : ℤ) (right : Result Value Trap) → joined op (Int a) right ≡ (right >>= λ b. applied op (Int a) b)
joined_int Add a right = refl
joined_int Sub a right = refl
joined_int Mul a right = refl
joined_int Div a right = refl
joined_int Rem a right = refl
joined_int Eq a right = refl
joined_int Ne a right = refl
joined_int Lt a right = refl
joined_int Le a right = refl
joined_int Gt a right = refl
joined_int Ge a right = refl
joined_int And a right = refl
joined_int Or a right = refl

-- arithmetic gives an int, where it gives anything
pub int_given : (a b : Ty) → IsSome (arithmetic_type a b) → arithmetic_type a b ≡ Some IntTy
int_given IntTy IntTy e = refl
int_given IntTy TextTy e = absurd (cc)
int_given IntTy BoolTy e = absurd (cc)
int_given TextTy IntTy e = absurd (cc)
int_given TextTy TextTy e = absurd (cc)
int_given TextTy BoolTy e = absurd (cc)
int_given BoolTy IntTy e = absurd (cc)
int_given BoolTy TextTy e = absurd (cc)
int_given BoolTy BoolTy e = absurd (cc)

int_typed : (op : BinOp) → is_arithmetic op ≡ true → (a b : Option Ty) → IsSome (option_and_then (λ x. option_and_then (λ y. operator_type op x y) b) a) → option_and_then (λ x. option_and_then (λ y. operator_type op x y) b) a ≡ Some IntTy
int_typed op is None b e = absurd (cc)
int_typed op is (Some x) None e = absurd (cc)
int_typed Add is (Some x) (Some y) e = int_given x y e
int_typed Sub is (Some x) (Some y) e = int_given x y e
int_typed Mul is (Some x) (Some y) e = int_given x y e
int_typed Div is (Some x) (Some y) e = int_given x y e
int_typed Rem is (Some x) (Some y) e = int_given x y e
int_typed Eq is (Some x) (Some y) e = absurd (cc)
int_typed Ne is (Some x) (Some y) e = absurd (cc)
int_typed Lt is (Some x) (Some y) e = absurd (cc)
int_typed Le is (Some x) (Some y) e = absurd (cc)
int_typed Gt is (Some x) (Some y) e = absurd (cc)
int_typed Ge is (Some x) (Some y) e = absurd (cc)
int_typed And is (Some x) (Some y) e = absurd (cc)
int_typed Or is (Some x) (Some y) e = absurd (cc)

module _ (op : BinOp) (l r : Expr) where
  -- a trap of the right operand stops what the left one does not decide
  pub second_stops : (env : Values) (first : ℤ) (trap : Trap) → Ok (Int first) ≡ value l env → Err trap ≡ value r env → value (Bin op l r) env ≡ Err trap
  second_stops env first trap left right =
      fold-Bin (Result Value Trap) (value_step env) op l r
      ∙ ap (λ (x : Result Value Trap). x >>= λ a. joined op a (value r env)) (sym left)
      ∙ joined_int op first (value r env)
      ∙ ap (λ (x : Result Value Trap). x >>= λ b. applied op (Int first) b) (sym right)

  pub type_is_int : (types : ℕ → Option Ty) → is_arithmetic op ≡ true → IsSome (type_in types (Bin op l r)) → type_in types (Bin op l r) ≡ Some IntTy
  type_is_int types is some =
      let here = fold-Bin (Option Ty) (type_step types) op l r in
      here ∙ int_typed op is (type_in types l) (type_in types r) (subst IsSome here some)
