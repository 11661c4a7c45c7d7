-- Classes of nodes that reach each other.
use Rattle.std.specs.Prelude.{◌≡◌, ◌↔◌, ℕ, ◌+◌, ◌<◌, ◌≤◌, max, List, [], ◌∷◌, length, slice_index}
use Rattle.pac_graph.specs.Graph.{Graph, HasEdge, ReachEachOther}

-- how many classes there are, by the class of each node: one more than the highest
abbrev pub class_count : List ℕ → ℕ
class_count [] = 0
class_count (class ∷ classes) = max (class + 1) (class_count classes)

-- these are the classes of a graph's nodes: two nodes are of one class exactly where each is reached from the other
pub record AreClasses (graph : Graph) (classes : List ℕ) : Type 0 where
  pub each : length classes ≡ graph.nodes
  pub same : (u v : ℕ) → u < graph.nodes → v < graph.nodes → (slice_index classes u ≡ slice_index classes v) ↔ ReachEachOther (HasEdge graph) u v

-- each class below this number has a node
abbrev pub HaveNodes : List ℕ → ℕ → Type 0
HaveNodes classes count = (class : ℕ) → class < count → (u : ℕ) × (u < length classes) × (slice_index classes u ≡ class)

-- this is how many classes there are, each has a node, and there are no more than nodes
pub record IsClassCount (classes : List ℕ) (count : ℕ) : Type 0 where
  pub is : count ≡ class_count classes
  pub used : HaveNodes classes count
  pub few : count ≤ length classes
