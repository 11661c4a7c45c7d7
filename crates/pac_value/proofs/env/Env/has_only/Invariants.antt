use Rattle.std.proofs.Common.{◌≡◌, ◌<◌, ℕ, get_or, None}
use Rattle.std.specs.FinMap.{get}
use Rattle.std.specs.List.{Contains}
use Rattle.pac_value.specs.declared.values.Value.{Value}
use Rattle.pac_value.proofs.env.Env.has_only.Given as goal

-- the entries that were read are of the variables
abbrev pub invariant-loop-var : goal.invariant-loop-var
invariant-loop-var l = (i : ℕ) (d : ℕ × Value) → i < l.var-index → Contains l.vars (get_or l.var-items i d).0

-- no other variable has a value, and those that were read have the same in both
abbrev pub invariant-loop-var-2 : goal.invariant-loop-var-2
invariant-loop-var-2 l =
    ((x : ℕ) → (Contains l.vars x → ⊥) → get l.self x ≡ None)
    × ((j : ℕ) → j < l.var-index → get l.self (get_or l.vars j 0) ≡ get l.other (get_or l.vars j 0))
