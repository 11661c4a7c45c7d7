-- What the feed gave so far ran.
use Rattle.pac_workers.specs.Fed.{HasFed}
use Rattle.pac_in_order.proofs.Executing.{FedSoFar}
use Rattle.pac_in_order.proofs.execution.execute_feed_in_order.Given as goal

abbrev pub invariant-loop-batch : goal.invariant-loop-batch
invariant-loop-batch g l = FedSoFar (HasFed g.F.Feed.so_far g.F.Feed.gives) g.F.Feed.next_txn g.F.Feed.params g.F.Feed.tables (record { parts = l.fn.plan; first = l.fn.first; tables = g.R.Rows.held l.fn.tables }) l.fn.feed l.feed l.replay l.counts.pieces l.counts.drained

abbrev pub decreases-loop-batch : goal.decreases-loop-batch
decreases-loop-batch g l = g.F.Feed.room l.feed
