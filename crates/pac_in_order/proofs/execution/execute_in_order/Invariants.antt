-- The batches so far ran.
use Rattle.std.specs.VecDeque.{deque_len}
use Rattle.pac_in_order.proofs.Executing.{RanSoFar}
use Rattle.pac_in_order.proofs.execution.execute_in_order.Given as goal

abbrev pub invariant-loop-batch : goal.invariant-loop-batch
invariant-loop-batch g l = RanSoFar (record { parts = l.fn.plan; first = l.fn.first; tables = g.R.Rows.held l.fn.tables }) l.fn.batches l.rest.items l.replay l.counts.pieces l.counts.drained

abbrev pub decreases-loop-batch : goal.decreases-loop-batch
decreases-loop-batch g l = deque_len l.rest
