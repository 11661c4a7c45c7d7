-- The dependencies of a procedure's operations: as lists of pairs, and as edges of a graph.
use Rattle.std.specs.Prelude.{◌≡◌, ◌⊎◌, ◌↔◌, ℕ, ◌+◌, ◌<◌, ◌≤◌, IsTrue, List, Contains, Some}
use Rattle.pac_graph.specs.Groups.{ArePairsAscending}
use Rattle.pac_ops.specs.declared.program.OpKind.{OpKind}
use Rattle.pac_ops.specs.declared.program.FlatOp.{FlatOp}
use Rattle.pac_ops.specs.Uses.{accessed_table, modifies}
use Rattle.pac_ops.specs.Dependencies.{IsFlow, IsConflict}

-- the pairs are those that the relation holds between, ascending
pub record ArePairsOf (relation : ℕ → ℕ → Type 0) (pairs : List (ℕ × ℕ)) : Type 0 where
  pub each : (i j : ℕ) → Contains pairs (i, j) ↔ relation i j
  pub ascending : ArePairsAscending pairs

-- two operations that conflict, the lower number first
abbrev pub IsConflictPair : List FlatOp → ℕ → ℕ → Type 0
IsConflictPair ops i j = (i < j) × IsConflict ops i j

-- flow from one operation, in a graph whose nodes from `first` on are the operations
abbrev pub IsFlowFrom : List FlatOp → ℕ → ℕ → ℕ → ℕ → Type 0
IsFlowFrom ops first i u v = (j : ℕ) × IsFlow ops i j × (u ≡ first + i) × (v ≡ first + j)

-- flow between two of the operations there
abbrev pub IsFlowAt : List FlatOp → ℕ → ℕ → ℕ → Type 0
IsFlowAt ops first u v = (i : ℕ) × IsFlowFrom ops first i u v

-- a conflict of one operation with one whose number is `at` or above
abbrev pub IsConflictFrom : List FlatOp → ℕ → ℕ → ℕ → ℕ → Type 0
IsConflictFrom ops at i u v = (at ≤ v) × IsConflict ops i v × (u ≡ i)

-- two kinds of operation conflict
abbrev pub AreConflicting : OpKind → OpKind → Type 0
AreConflicting a b = ((t : ℕ) × (accessed_table a ≡ Some t) × (accessed_table b ≡ Some t)) × (IsTrue (modifies a) ⊎ IsTrue (modifies b))
