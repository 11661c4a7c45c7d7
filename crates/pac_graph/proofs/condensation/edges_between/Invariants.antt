-- The edges of the nodes so far are there.
use Rattle.std.proofs.Common.{◌≡◌, ℕ, ◌<◌, slice_index}
use Rattle.pac_graph.specs.Graph.{HasEdge}
use Rattle.pac_graph.specs.Numbering.{IsClassEdge}
use Rattle.pac_graph.proofs.condensation.edges_between.Given as goal

abbrev pub invariant-loop-from : goal.invariant-loop-from
invariant-loop-from l = record {
  nodes : l.edges.nodes ≡ l.count;
  well_formed : (a b : ℕ) → HasEdge l.edges a b → IsClassEdge l.graph l.numbers a b;
  complete : (u v : ℕ) → u < l.from → HasEdge l.graph u v → (slice_index l.numbers u ≡ slice_index l.numbers v → ⊥) → HasEdge l.edges (slice_index l.numbers u) (slice_index l.numbers v);
}
