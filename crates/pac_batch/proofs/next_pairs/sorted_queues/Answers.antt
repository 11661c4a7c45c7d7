-- Sorted entries are in order.
use Rattle.pac_batch.proofs.QueueOrder.{in_order}
use Rattle.pac_batch.proofs.next_pairs.sorted_queues.Goals as goal

pub returns-clause-order : goal.returns-clause-order
returns-clause-order c = in_order _ c.sort_unstable.ensures.sorted
