-- Of the ready classes only those from the next one on may be missing.
use Rattle.std.proofs.Common.{◌≤◌}
use Rattle.pac_graph.specs.Turns.{AreTurnsOf, IsQueueOf}
use Rattle.pac_graph.proofs.turns.Turns.add_all.Given as goal

abbrev pub invariant-loop-class : goal.invariant-loop-class
invariant-loop-class l = record {
  turns : AreTurnsOf l.graph l.self;
  queue : IsQueueOf l.graph l.self l.queue (λ c. l.class ≤ c);
}
