-- The nodes so far are done, and nothing is on the stack.
use Rattle.std.proofs.Common.{◌≡◌, ℕ, ◌<◌, length}
use Rattle.pac_graph.specs.declared.search.Mark.TheVariants.{Done}
use Rattle.pac_graph.specs.Graph.{HasEdge}
use Rattle.pac_graph.specs.Search.{mark_of, IsSearch}
use Rattle.pac_graph.proofs.search.Search.run.Given as goal

abbrev pub invariant-loop-node : goal.invariant-loop-node
invariant-loop-node l = record {
  search : IsSearch (HasEdge l.graph) l.graph.nodes l.search.marks.items l.search.stack.items l.search.count;
  empty : length l.search.stack.items ≡ 0;
  done : (u : ℕ) → u < l.node → (c : ℕ) × (mark_of l.search.marks.items u ≡ Done c);
}
