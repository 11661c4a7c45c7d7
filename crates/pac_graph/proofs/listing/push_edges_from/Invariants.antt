-- The edges to the nodes so far are listed.
use Rattle.std.proofs.Common.{◌-◌}
use Rattle.pac_graph.specs.Listing.{AreEdgesBelow}
use Rattle.pac_graph.proofs.listing.push_edges_from.Given as goal

abbrev pub invariant-loop-to : goal.invariant-loop-to
invariant-loop-to l = AreEdgesBelow l.graph l.pairs.items l.from l.at

abbrev pub decreases-loop-to : goal.decreases-loop-to
decreases-loop-to l = l.graph.nodes - l.at
