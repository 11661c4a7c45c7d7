-- The first bit from a position on is the first edge.
use Rattle.std.proofs.Common.{◌↔◌, ℕ, ◌<◌, ◌≤◌, Option, Some, None, MatchOption, subst}
use Rattle.pac_graph.specs.Graph.{Graph, HasEdge}
use Rattle.pac_graph.specs.Matrix.{HasBit, graph_of}
use Rattle.pac_graph.proofs.MatrixLemmas.{edge_is_bit}
use Rattle.pac_graph.proofs.digraph.Digraph.next.Goals as goal

-- the first node from a position on, by one relation and by another that says the same
first_by : (p q : ℕ → Type 0) → ((b : ℕ) → p b ↔ q b) → (nodes at : ℕ) (found : Option ℕ)
    → MatchOption found ((b : ℕ) → at ≤ b → p b → ⊥) (λ to. (at ≤ to) × (to < nodes) × p to × ((b : ℕ) → at ≤ b → b < to → p b → ⊥))
    → MatchOption found ((b : ℕ) → at ≤ b → q b → ⊥) (λ to. (at ≤ to) × (to < nodes) × q to × ((b : ℕ) → at ≤ b → b < to → q b → ⊥))
first_by p q same nodes at None none = λ b ge h. none b ge ((same b).1 h)
first_by p q same nodes at (Some to) (ge, lt, has, first) = (ge, lt, (same to).0 has, λ b ge' lt' h. first b ge' lt' ((same b).1 h))

pub returns : goal.returns
returns c =
    let m = c.self.inside.matrix in
    let by_graph = first_by (HasBit m c.args.from) (HasEdge (graph_of m) c.args.from) (λ b. ((edge_is_bit m c.args.from b).1, (edge_is_bit m c.args.from b).0)) m.nodes c.args.at c.next.result c.next.ensures in
    subst (λ (g : Graph). MatchOption c.next.result ((b : ℕ) → c.args.at ≤ b → HasEdge g c.args.from b → ⊥) (λ to. (c.args.at ≤ to) × (to < g.nodes) × HasEdge g c.args.from to × ((b : ℕ) → c.args.at ≤ b → b < to → HasEdge g c.args.from b → ⊥))) c.self.view_is by_graph
