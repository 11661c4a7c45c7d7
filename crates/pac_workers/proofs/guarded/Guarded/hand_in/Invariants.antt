use Rattle.std.specs.VecDeque.{deque_len}
use Rattle.pac_workers.proofs.guarded.Guarded.hand_in.Given as goal

abbrev pub decreases-loop-done : goal.decreases-loop-done
decreases-loop-done g l = deque_len l.hand.dones

abbrev pub decreases-loop-work : goal.decreases-loop-work
decreases-loop-work g l = deque_len l.hand.works
