-- The edges to the nodes so far are there.
use Rattle.std.proofs.Common.{◌-◌, ◌≡◌, ◌⊎◌, ℕ, ◌<◌, slice_index}
use Rattle.pac_graph.specs.Graph.{HasEdge}
use Rattle.pac_graph.specs.Numbering.{IsClassEdge}
use Rattle.pac_graph.proofs.condensation.add_edges_from.Given as goal

abbrev pub invariant-loop-to : goal.invariant-loop-to
invariant-loop-to l = record {
  nodes : l.edges.nodes ≡ l.fn.edges.nodes;
  kept : (a b : ℕ) → HasEdge l.fn.edges a b → HasEdge l.edges a b;
  well_formed : (a b : ℕ) → HasEdge l.edges a b → HasEdge l.fn.edges a b ⊎ IsClassEdge l.graph l.numbers a b;
  complete : (v : ℕ) → v < l.at → HasEdge l.graph l.from v → (slice_index l.numbers l.from ≡ slice_index l.numbers v → ⊥) → HasEdge l.edges (slice_index l.numbers l.from) (slice_index l.numbers v);
}

abbrev pub decreases-loop-to : goal.decreases-loop-to
decreases-loop-to l = l.graph.nodes - l.at
