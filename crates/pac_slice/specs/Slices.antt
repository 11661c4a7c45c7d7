-- The slices of a procedure.
use Rattle.std.specs.Prelude.{◌≡◌, ◌⊎◌, ℕ, ◌<◌, List, length, slice_index}
use Rattle.pac_graph.specs.Classes.{class_count}
use Rattle.pac_graph.specs.Groups.{AreGroups}
use Rattle.pac_ops.specs.declared.program.FlatOp.{FlatOp}
use Rattle.pac_ops.specs.Dependencies.{IsFlow, IsConflict}
use Rattle.pac_slice.specs.declared.local_graph.LocalGraph.{LocalGraph}

-- a link leads from an operation to another by flow, and both ways between two that conflict
abbrev pub IsLink : List FlatOp → ℕ → ℕ → Type 0
IsLink ops i j = IsFlow ops i j ⊎ IsConflict ops i j

-- each operation has a slice; slices are the groups that links make of the operations, which come in the order of their numbers
pub record AreSlices (ops : List FlatOp) (graph : LocalGraph) : Type 0 where
  pub each : length graph.slice_of ≡ length ops
  pub groups : AreGroups (λ i. i < length ops) ◌<◌ (IsLink ops) (IsFlow ops) (slice_index graph.slice_of) (class_count graph.slice_of) graph.edges
