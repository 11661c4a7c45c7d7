-- Values that variables are given.
use Rattle.std.specs.Prelude.{◌≡◌, ℕ, List, Contains}
use Rattle.std.specs.FinMap.{get}
use Rattle.pac_value.specs.Expressions.{Values}
use Rattle.pac_commute.specs.Works.{given_over}

-- an environment has the values that these variables were given, and else what another has
pub record GivesTo (vars : List ℕ) (given whole env : Values) : Type 0 where
  pub own : (x : ℕ) → Contains vars x → get env x ≡ given_over (get given x) (get whole x)
  pub others : (x : ℕ) → (Contains vars x → ⊥) → get env x ≡ get whole x
