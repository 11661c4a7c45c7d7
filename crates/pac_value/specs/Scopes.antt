-- Which variables are visible, and which types keys, columns and tests want.
use Rattle.std.specs.Prelude.{ℕ, Bool, true, false, ◌&&◌, ◌==◌, nat_le, if◌then◌else◌, List, [], ◌∷◌, Option, Some}
use Rattle.pac_value.specs.declared.limits.TheConstants.{MAX_COLUMNS}
use Rattle.pac_value.specs.declared.values.Ty.{Ty}
use Rattle.pac_value.specs.declared.values.Ty.TheVariants.{Int as IntTy, Text as TextTy, Bool as BoolTy}

-- the types of the variables that are visible
abbrev pub Scope : Type 0
Scope = ℕ → Option Ty

-- one more variable
abbrev pub with_var : Scope → ℕ → Ty → Scope
with_var scope x ty y = if y == x then Some ty else scope y

-- a bool
abbrev pub is_bool : Option Ty → Bool
is_bool (Some BoolTy) = true
is_bool _ = false

-- the type that a key or a column wants: it is an int or a text
abbrev pub is_wanted : Option Ty → Option Ty → Bool
is_wanted (Some IntTy) (Some IntTy) = true
is_wanted (Some TextTy) (Some TextTy) = true
is_wanted _ _ = false

-- as many values as columns, each of its column's type
abbrev pub are_wanted : List (Option Ty) → List Ty → Bool
are_wanted [] [] = true
are_wanted (a ∷ as_) (ty ∷ tys) = is_wanted a (Some ty) && are_wanted as_ tys
are_wanted _ _ = false

-- a row has 1 to 8 columns
abbrev pub is_width : ℕ → Bool
is_width n = nat_le 1 n && nat_le n MAX_COLUMNS
