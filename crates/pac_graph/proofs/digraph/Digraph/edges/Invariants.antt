-- The edges from the nodes so far are listed.
use Rattle.pac_graph.specs.Listing.{AreEdgesBelow}
use Rattle.pac_graph.proofs.digraph.Digraph.edges.Given as goal

abbrev pub invariant-loop-from : goal.invariant-loop-from
invariant-loop-from l = AreEdgesBelow l.self l.pairs.items l.from 0
