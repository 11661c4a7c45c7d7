use Rattle.std.specs.Prelude.{All}
use Rattle.pac_workers.proofs.guarded.Guarded.hand_out_more.Given as goal

abbrev pub invariant-loop : goal.invariant-loop
invariant-loop g l = All g.M.Machine.can_run l.hand.works.items
