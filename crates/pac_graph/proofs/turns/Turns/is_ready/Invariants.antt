-- The turns are as before, but for how far the classes with an edge into this one are passed.
use Rattle.std.proofs.Common.{◌-◌, ◌≡◌, slice_index}
use Rattle.pac_graph.specs.Turns.{AreTurnsOf}
use Rattle.pac_graph.proofs.turns.Turns.is_ready.Given as goal

abbrev pub invariant-loop-other : goal.invariant-loop-other
invariant-loop-other l = record {
  turns : AreTurnsOf l.graph l.self;
  numbers : l.self.numbers ≡ l.fn.self.numbers;
  turn : l.self.turn ≡ l.fn.self.turn;
}

abbrev pub decreases-loop-other : goal.decreases-loop-other
decreases-loop-other l = l.graph.edges.nodes - slice_index l.self.passed.items l.class
