use Rattle.std.specs.Prelude.{All}
use Rattle.std.specs.VecDeque.{deque_len}
use Rattle.pac_workers.proofs.hand.Hand.run_all.Given as goal

abbrev pub invariant-loop-work : goal.invariant-loop-work
invariant-loop-work g l = All g.M.Machine.can_run l.self.works.items

abbrev pub decreases-loop-work : goal.decreases-loop-work
decreases-loop-work g l = deque_len l.self.works
