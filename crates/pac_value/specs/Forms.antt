-- Which expressions are arithmetic, and which are tests; and expressions of keys.
use Rattle.std.specs.Prelude.{Bool, true, false, not, Result, Ok}
use Rattle.pac_value.specs.declared.values.Key.{Key}
use Rattle.pac_value.specs.declared.expr.Expr.{Expr}
use Rattle.pac_value.specs.declared.expr.Expr.TheOpen.{Expr-F, Lit, Var, Bin, Not}
use Rattle.pac_value.specs.declared.expr.Expr.TheFolds.{fold-Expr}
use Rattle.pac_value.specs.declared.expr.Trap.{Trap}
use Rattle.pac_value.specs.Values.{as_key}
use Rattle.pac_value.specs.Expressions.{Values, value, is_arithmetic, ◌>>=◌}

-- an operator of arithmetic with its operands
abbrev pub calculates_step : Expr-F Bool → Bool
calculates_step (Lit v) = false
calculates_step (Var x) = false
calculates_step (Bin op l r) = is_arithmetic op
calculates_step (Not e) = false

-- an expression is an operator of arithmetic with its operands
abbrev pub calculates : Expr → Bool
calculates = fold-Expr Bool calculates_step

-- any other operator with its operands
abbrev pub tests_step : Expr-F Bool → Bool
tests_step (Lit v) = false
tests_step (Var x) = false
tests_step (Bin op l r) = not (is_arithmetic op)
tests_step (Not e) = true

-- an expression is any other operator with its operands
abbrev pub tests : Expr → Bool
tests = fold-Expr Bool tests_step

-- the key with the value of an expression, or the trap that stops it
abbrev pub key_given : Expr → Values → Result Key Trap
key_given expr env = value expr env >>= λ v. Ok (as_key v)
