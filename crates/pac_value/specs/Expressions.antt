-- The types and the values of expressions.
use Rattle.std.specs.Prelude.{◌^◌, ℕ, ℤ, pos, negsuc, ◌+ℤ◌, ◌-ℤ◌, ◌*ℤ◌, int_div, Bool, true, false, not, nat_lt, if◌then◌else◌, Option, Some, None, Result, Ok, Err, unwrap_or, codes, List}
use Rattle.std.specs.Option.{option_map, option_and_then}
use Rattle.std.specs.Ordering.{nat_cmp, int_eq, is_lt, is_le, is_gt, is_ge}
use Rattle.std.specs.FinMap.{FinMap, get}
use Rattle.pac_value.specs.Values.{type_of, same_value, value_cmp}
use Rattle.pac_value.specs.declared.values.Ty.{Ty}
use Rattle.pac_value.specs.declared.values.Ty.TheVariants.{Int as IntTy, Text as TextTy, Bool as BoolTy}
use Rattle.pac_value.specs.declared.values.Value.{Value}
use Rattle.pac_value.specs.declared.values.Value.TheVariants.{Int, Bool as Truth}
use Rattle.pac_value.specs.declared.expr.BinOp.{BinOp}
use Rattle.pac_value.specs.declared.expr.BinOp.TheVariants.{Add, Sub, Mul, Div, Rem, Eq, Ne, Lt, Le, Gt, Ge, And, Or}
use Rattle.pac_value.specs.declared.expr.Expr.{Expr}
use Rattle.pac_value.specs.declared.expr.Expr.TheOpen.{Expr-F, Lit, Var, Bin, Not}
use Rattle.pac_value.specs.declared.expr.Expr.TheFolds.{fold-Expr}
use Rattle.pac_value.specs.declared.expr.Trap.{Trap}
use Rattle.pac_value.specs.declared.expr.Trap.TheVariants.{Overflow, DivZero}

-- the values of variables, by the variables' numbers
abbrev pub Values : Type 0
Values = FinMap nat_cmp Value

-- the types of the variables that have values
abbrev pub types_of : Values → ℕ → Option Ty
types_of env x = option_map type_of (get env x)

-- two ints give an int
abbrev pub arithmetic_type : Ty → Ty → Option Ty
arithmetic_type IntTy IntTy = Some IntTy
arithmetic_type _ _ = None

-- two values of one type can be told apart
abbrev pub equality_type : Ty → Ty → Option Ty
equality_type IntTy IntTy = Some BoolTy
equality_type TextTy TextTy = Some BoolTy
equality_type BoolTy BoolTy = Some BoolTy
equality_type _ _ = None

-- two ints or two texts are ordered
abbrev pub order_type : Ty → Ty → Option Ty
order_type IntTy IntTy = Some BoolTy
order_type TextTy TextTy = Some BoolTy
order_type _ _ = None

-- two bools give a bool
abbrev pub logic_type : Ty → Ty → Option Ty
logic_type BoolTy BoolTy = Some BoolTy
logic_type _ _ = None

-- the type of what an operator gives for operands of these types
abbrev pub operator_type : BinOp → Ty → Ty → Option Ty
operator_type Add = arithmetic_type
operator_type Sub = arithmetic_type
operator_type Mul = arithmetic_type
operator_type Div = arithmetic_type
operator_type Rem = arithmetic_type
operator_type Eq = equality_type
operator_type Ne = equality_type
operator_type Lt = order_type
operator_type Le = order_type
operator_type Gt = order_type
operator_type Ge = order_type
operator_type And = logic_type
operator_type Or = logic_type

-- the type of what `!` gives: of a bool, a bool
abbrev pub negated_type : Ty → Option Ty
negated_type IntTy = None
negated_type TextTy = None
negated_type BoolTy = Some BoolTy

-- the type of an expression from those of its operands
abbrev pub type_step : (ℕ → Option Ty) → Expr-F (Option Ty) → Option Ty
type_step types (Lit v) = Some (type_of v)
type_step types (Var x) = types x
type_step types (Bin op l r) = option_and_then (λ a. option_and_then (λ b. operator_type op a b) r) l
type_step types (Not e) = option_and_then negated_type e

-- the type of an expression whose variables have these types, None where it is not well typed
abbrev pub type_in : (ℕ → Option Ty) → Expr → Option Ty
type_in types = fold-Expr (Option Ty) (type_step types)

-- an int is from -2^63 to 2^63 - 1
abbrev pub is_int : ℤ → Bool
is_int (pos n) = nat_lt n (2 ^ 63)
is_int (negsuc n) = nat_lt n (2 ^ 63)

-- a whole number as an int, Overflow where it is none
abbrev pub checked : ℤ → Result Value Trap
checked z = if is_int z then Ok (Int z) else Err Overflow

-- the quotient, rounded toward zero
abbrev pub quotient : ℤ → ℤ → ℤ
quotient = int_div

-- what is left of a once b is taken from it as often as the quotient says
abbrev pub remainder : ℤ → ℤ → ℤ
remainder a b = a -ℤ b *ℤ quotient a b

-- what a division gives: DivZero where the divisor is zero, and else the number as an int
abbrev pub divided : ℤ → ℤ → Result Value Trap
divided divisor z = if int_eq divisor (pos 0) then Err DivZero else checked z

-- an operator that gives an int for two ints
abbrev pub is_arithmetic : BinOp → Bool
is_arithmetic Add = true
is_arithmetic Sub = true
is_arithmetic Mul = true
is_arithmetic Div = true
is_arithmetic Rem = true
is_arithmetic _ = false

-- an int, as a value
abbrev pub as_value : Result ℤ Trap → Result Value Trap
as_value (Ok z) = Ok (Int z)
as_value (Err trap) = Err trap

-- what an operator gives for two ints; other operands are not well typed
abbrev pub of_ints : (ℤ → ℤ → Result Value Trap) → Value → Value → Result Value Trap
of_ints f (Int a) (Int b) = f a b
of_ints f a b = Ok b

-- what an operator gives for the values of its operands
abbrev pub applied : BinOp → Value → Value → Result Value Trap
applied Add a b = of_ints (λ x y. checked (x +ℤ y)) a b
applied Sub a b = of_ints (λ x y. checked (x -ℤ y)) a b
applied Mul a b = of_ints (λ x y. checked (x *ℤ y)) a b
applied Div a b = of_ints (λ x y. divided y (quotient x y)) a b
applied Rem a b = of_ints (λ x y. divided y (remainder x y)) a b
applied Eq a b = Ok (Truth (same_value a b))
applied Ne a b = Ok (Truth (not (same_value a b)))
applied Lt a b = Ok (Truth (is_lt (value_cmp a b)))
applied Le a b = Ok (Truth (is_le (value_cmp a b)))
applied Gt a b = Ok (Truth (is_gt (value_cmp a b)))
applied Ge a b = Ok (Truth (is_ge (value_cmp a b)))
applied And a b = Ok b
applied Or a b = Ok b

infixl 10 ◌>>=◌
-- the first trap stops what comes after it
abbrev pub ◌>>=◌ : {A B E : Type 0} → Result A E → (A → Result B E) → Result B E
(Ok x) >>= f = f x
(Err e) >>= f = Err e

-- false decides what `&&` gives, and true what `||` gives
abbrev pub decides : BinOp → Value → Bool
decides And (Truth b) = not b
decides Or (Truth b) = b
decides op v = false

-- the right operand counts only where the left one does not decide
abbrev pub joined : BinOp → Value → Result Value Trap → Result Value Trap
joined op left right = if decides op left then Ok left else (right >>= λ b. applied op left b)

-- what `!` gives
abbrev pub negated : Value → Value
negated (Truth b) = Truth (not b)
negated v = v

-- the value of an expression from those of its operands, which count from left to right
abbrev pub value_step : Values → Expr-F (Result Value Trap) → Result Value Trap
value_step env (Lit v) = Ok v
value_step env (Var x) = Ok (unwrap_or (get env x) (Truth false))
value_step env (Bin op l r) = l >>= λ a. joined op a r
value_step env (Not e) = e >>= λ a. Ok (negated a)

-- the value of an expression, or the first trap: each operator computes over unbounded whole numbers, and its result is checked
abbrev pub value : Expr → Values → Result Value Trap
value expr env = fold-Expr (Result Value Trap) (value_step env) expr

-- a trap as it is printed
abbrev pub trap_name : Trap → List ℕ
trap_name Overflow = codes "Overflow"
trap_name DivZero = codes "DivZero"
