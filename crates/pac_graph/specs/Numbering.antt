-- The numbering of classes: at each turn the least class that is ready is next.
use Rattle.std.specs.Prelude.{◌≡◌, ℕ, ◌<◌, ◌≤◌, List, length, slice_index}
use Rattle.pac_graph.specs.Graph.{Graph, HasEdge}
use Rattle.pac_graph.specs.Classes.{class_count}
use Rattle.pac_graph.specs.Groups.{IsEdgeBetween}

-- an edge leads from the class c into another class d; `classes` is the class of each node
abbrev pub IsClassEdge : Graph → List ℕ → ℕ → ℕ → Type 0
IsClassEdge graph classes c d = IsEdgeBetween (HasEdge graph) (slice_index classes) c d

-- the class c has a node whose rank is below that of each node of the class d; `order` is the rank of each node
abbrev pub HasLesserNode : List ℕ → List ℕ → ℕ → ℕ → Type 0
HasLesserNode classes order c d = (u : ℕ) × (u < length classes) × (slice_index classes u ≡ c) × ((v : ℕ) → v < length classes → slice_index classes v ≡ d → slice_index order u < slice_index order v)

-- at this turn the class is ready: it had no turn before, and each class with an edge into it had
abbrev pub IsClassReady : (ℕ → ℕ → Type 0) → List ℕ → ℕ → ℕ → Type 0
IsClassReady edge numbers turn class = (turn ≤ slice_index numbers class) × ((other : ℕ) → edge other class → slice_index numbers other < turn)

-- a class's number is its turn; at each turn it is the turn of the least class that is ready
pub record IsInTurn (edge before : ℕ → ℕ → Type 0) (count : ℕ) (numbers : List ℕ) : Type 0 where
  pub size : length numbers ≡ count
  pub below : (class : ℕ) → class < count → slice_index numbers class < count
  pub each : (turn : ℕ) → turn < count → (class : ℕ) × (class < count) × (slice_index numbers class ≡ turn)
  pub ready : (class : ℕ) → class < count → IsClassReady edge numbers (slice_index numbers class) class
  pub least : (class other : ℕ) → class < count → other < count → (other ≡ class → ⊥) → IsClassReady edge numbers (slice_index numbers class) other → before class other

-- these are the numbers of a graph's classes, one a class
abbrev pub IsNumbering : Graph → List ℕ → List ℕ → List ℕ → Type 0
IsNumbering graph classes order numbers = IsInTurn (IsClassEdge graph classes) (HasLesserNode classes order) (class_count classes) numbers
