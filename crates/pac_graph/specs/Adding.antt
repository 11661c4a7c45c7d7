-- Graphs that get more edges.
use Rattle.std.specs.Prelude.{◌≡◌, ◌⊎◌, ◌↔◌, ℕ, ◌<◌}
use Rattle.pac_graph.specs.Graph.{Graph, HasEdge}

-- the graph has its old edges and these, and no others
pub record Adds (old : Graph) (more : ℕ → ℕ → Type 0) (new : Graph) : Type 0 where
  pub nodes : new.nodes ≡ old.nodes
  pub edges : (u v : ℕ) → HasEdge new u v ↔ (HasEdge old u v ⊎ more u v)

-- the edge from a to b
abbrev pub IsTheEdge : ℕ → ℕ → ℕ → ℕ → Type 0
IsTheEdge a b u v = (u ≡ a) × (v ≡ b)

-- one of the edges that the first n numbers stand for
abbrev pub IsUpTo : (ℕ → ℕ → ℕ → Type 0) → ℕ → ℕ → ℕ → Type 0
IsUpTo edges n u v = (i : ℕ) × (i < n) × edges i u v
