-- The edges to nodes below the next one are dealt with. Each visit leaves fewer changes of marks.
use Rattle.std.proofs.Common.{◌-◌}
use Rattle.pac_graph.specs.Graph.{HasEdge}
use Rattle.pac_graph.specs.Search.{changes_left}
use Rattle.pac_graph.proofs.VisitLemmas.{IsVisit}
use Rattle.pac_graph.proofs.search.Search.+visit.Given as goal

abbrev pub decreases-visit : goal.decreases-visit
decreases-visit l = changes_left l.self.now.marks.items

abbrev pub invariant-loop-to : goal.invariant-loop-to
invariant-loop-to l = IsVisit (HasEdge l.graph) l.graph.nodes l.fn.self.marks.items l.fn.self.stack.items l.self.marks.items l.self.stack.items l.self.count l.node l.low l.at

abbrev pub decreases-loop-to : goal.decreases-loop-to
decreases-loop-to l = l.graph.nodes - l.at
