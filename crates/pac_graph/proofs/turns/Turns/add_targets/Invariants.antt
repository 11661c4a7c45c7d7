-- Of the ready classes only targets from the next one on may be missing.
use Rattle.std.proofs.Common.{◌-◌, ◌≡◌, ◌≤◌}
use Rattle.pac_graph.specs.Graph.{HasEdge}
use Rattle.pac_graph.specs.Turns.{AreTurnsOf, IsQueueOf}
use Rattle.pac_graph.proofs.turns.Turns.add_targets.Given as goal

abbrev pub invariant-loop-to : goal.invariant-loop-to
invariant-loop-to l = record {
  turns : AreTurnsOf l.graph l.self;
  numbers : l.self.numbers ≡ l.fn.self.numbers;
  queue : IsQueueOf l.graph l.self l.queue (λ c. (l.at ≤ c) × HasEdge l.graph.edges l.class c);
}

abbrev pub decreases-loop-to : goal.decreases-loop-to
decreases-loop-to l = l.graph.edges.nodes - l.at
