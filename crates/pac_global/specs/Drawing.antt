-- The graph in which blocks are found: its nodes are the operations, one procedure's after another's, and after all
-- operations the virtual writes of the tables.
use Rattle.std.specs.Prelude.{◌≡◌, ◌⊎◌, ℕ, zero, suc, ◌+◌, ◌<◌, List, [], ◌∷◌, length, slice_get, slice_index, slice_index_or, IsSomeAnd, map}
use Rattle.pac_ops.specs.declared.program.FlatOp.{FlatOp}
use Rattle.pac_ops.specs.declared.program.Program.{Program}
use Rattle.pac_ops.specs.Programs.{count_ops}
use Rattle.pac_ops.specs.Dependencies.{Accesses}
use Rattle.pac_slice.specs.Dependent.{IsFlowAt}
use Rattle.pac_plan.specs.Nodes.{Node, Operation, VirtualWrite}

-- how many operations the first programs have
abbrev pub first_of : List Program → ℕ → ℕ
first_of programs zero = 0
first_of [] (suc p) = 0
first_of (program ∷ programs) (suc p) = length program.ops + first_of programs p

-- the number of a node
abbrev pub number_in : List Program → Node → ℕ
number_in programs (Operation p i) = first_of programs p + i
number_in programs (VirtualWrite t) = count_ops programs + t

-- the edges between two nodes, both ways
abbrev pub IsBothWays : ℕ → ℕ → ℕ → ℕ → Type 0
IsBothWays a b u v = ((u ≡ a) × (v ≡ b)) ⊎ ((u ≡ b) × (v ≡ a))

-- an operation and the virtual write of its table, both ways; the operations of its procedure are numbered from `first`
-- on, the virtual writes from `total` on
abbrev pub IsHomeEdge : List FlatOp → ℕ → ℕ → ℕ → ℕ → ℕ → Type 0
IsHomeEdge ops first total i u v = (t : ℕ) × Accesses ops i t × IsBothWays (first + i) (total + t) u v

-- the same for one of the operations
abbrev pub HasHomeEdge : List FlatOp → ℕ → ℕ → ℕ → ℕ → Type 0
HasHomeEdge ops first total u v = (i : ℕ) × IsHomeEdge ops first total i u v

-- an edge that a procedure makes: by flow, or with the virtual write of a table
abbrev pub HasEdgeOf : List Program → ℕ → ℕ → ℕ → Type 0
HasEdgeOf programs p u v = IsSomeAnd (slice_get programs p) (λ program. IsFlowAt program.ops (first_of programs p) u v ⊎ HasHomeEdge program.ops (first_of programs p) (count_ops programs) u v)

-- each operation's block stands among the numbers of all nodes
pub record AreBlocksOf (programs : List Program) (numbers : List ℕ) (blocks : List (List ℕ)) : Type 0 where
  pub each : map (λ row. length row) blocks ≡ map (λ program. length program.ops) programs
  pub is : (p i : ℕ) → IsSomeAnd (slice_get programs p) (λ program. i < length program.ops) → slice_index (slice_index_or blocks p []) i ≡ slice_index numbers (first_of programs p + i)
