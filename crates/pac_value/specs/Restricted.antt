-- The values of some variables.
use Rattle.std.specs.Prelude.{◌≡◌, ℕ, List, None, Contains}
use Rattle.std.specs.FinMap.{get}
use Rattle.pac_value.specs.Expressions.{Values}

-- an environment has the values that another has of these variables, and no others
pub record HasOnly (vars : List ℕ) (whole env : Values) : Type 0 where
  pub own : (x : ℕ) → Contains vars x → get env x ≡ get whole x
  pub none : (x : ℕ) → (Contains vars x → ⊥) → get env x ≡ None
