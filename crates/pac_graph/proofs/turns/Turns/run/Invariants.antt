-- All classes that are ready wait. Each turn leaves fewer classes without a number.
use Rattle.pac_graph.specs.Turns.{AreTurnsOf, IsQueueOf, unnumbered}
use Rattle.pac_graph.proofs.turns.Turns.run.Given as goal

abbrev pub invariant-loop-class : goal.invariant-loop-class
invariant-loop-class l = record {
  turns : AreTurnsOf l.graph l.turns;
  queue : IsQueueOf l.graph l.turns l.queue (λ _. ⊥);
}

abbrev pub decreases-loop-class : goal.decreases-loop-class
decreases-loop-class l = unnumbered l.graph.edges.nodes l.turns.numbers.items
