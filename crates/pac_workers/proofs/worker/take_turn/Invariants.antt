use Rattle.std.specs.Prelude.{All}
use Rattle.pac_workers.proofs.worker.take_turn.Given as goal

abbrev pub invariant-loop : goal.invariant-loop
invariant-loop g l = All g.M.Machine.can_run l.hand.works.items
