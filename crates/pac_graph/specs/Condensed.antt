-- The graph of a graph's classes, whose edges are followed both ways, and the least rank in each class.
use Rattle.std.specs.Prelude.{◌≡◌, ◌↔◌, ℕ, ◌<◌, ◌≤◌, List, length, slice_index}
use Rattle.pac_graph.specs.Graph.{Graph, HasEdge}
use Rattle.pac_graph.specs.Classes.{class_count}

-- the same nodes, and each edge the other way round
abbrev pub IsReverse : Graph → Graph → Type 0
IsReverse graph reverse = (reverse.nodes ≡ graph.nodes) × ((a b : ℕ) → HasEdge reverse b a ↔ HasEdge graph a b)

-- of each class, the least rank of its nodes
pub record AreLeastRanks (classes order ranks : List ℕ) : Type 0 where
  pub size : length ranks ≡ class_count classes
  pub least : (u : ℕ) → u < length classes → slice_index ranks (slice_index classes u) ≤ slice_index order u
  pub node : (class : ℕ) → class < class_count classes → (u : ℕ) × (u < length classes) × (slice_index classes u ≡ class) × (slice_index order u ≡ slice_index ranks class)
