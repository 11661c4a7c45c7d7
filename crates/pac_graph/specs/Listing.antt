-- What the list of a graph's edges keeps.
use Rattle.std.specs.Prelude.{◌≡◌, ◌⊎◌, ◌↔◌, ℕ, ◌<◌, List, Contains}
use Rattle.pac_graph.specs.Graph.{Graph, HasEdge}
use Rattle.pac_graph.specs.Groups.{ArePairsAscending}

-- the pairs are the edges from the nodes below one, and those from it to the nodes below another
pub record AreEdgesBelow (graph : Graph) (pairs : List (ℕ × ℕ)) (from to : ℕ) : Type 0 where
  pub lists : (b c : ℕ) → Contains pairs (b, c) ↔ (HasEdge graph b c × ((b < from) ⊎ ((b ≡ from) × (c < to))))
  pub ascends : ArePairsAscending pairs
