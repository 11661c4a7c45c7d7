-- The operations so far are linked.
use Rattle.pac_graph.specs.Adding.{Adds, IsUpTo}
use Rattle.pac_global.specs.Drawing.{IsHomeEdge}
use Rattle.pac_global.proofs.draw.add_homes.Given as goal

abbrev pub invariant-loop-i : goal.invariant-loop-i
invariant-loop-i l = Adds l.fn.graph (IsUpTo (IsHomeEdge l.ops l.first l.total) l.i) l.graph
