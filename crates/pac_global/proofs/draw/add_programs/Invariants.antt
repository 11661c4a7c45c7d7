-- The edges of the programs so far are there.
use Rattle.std.proofs.Common.{◌≡◌}
use Rattle.pac_graph.specs.Adding.{Adds, IsUpTo}
use Rattle.pac_global.specs.Drawing.{first_of, HasEdgeOf}
use Rattle.pac_global.proofs.draw.add_programs.Given as goal

abbrev pub invariant-loop-program : goal.invariant-loop-program
invariant-loop-program l = record {
  first : l.first ≡ first_of l.programs l.program-index;
  adds : Adds l.fn.graph (IsUpTo (HasEdgeOf l.programs) l.program-index) l.graph;
}
