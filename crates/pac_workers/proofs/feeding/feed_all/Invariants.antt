-- The batches so far are loaded, and the types stay.
use Rattle.std.specs.Prelude.{◌≡◌}
use Rattle.pac_workers.specs.Fed.{AreAlikeIn, HasFed, IsLoadedSoFar}
use Rattle.pac_workers.proofs.feeding.feed_all.Given as goal

abbrev pub invariant-loop-batch : goal.invariant-loop-batch
invariant-loop-batch g l =
    IsLoadedSoFar (HasFed g.F.Feed.so_far g.F.Feed.gives) (AreAlikeIn g.F.Feed.next_txn g.F.Feed.params g.F.Feed.tables g.M.Loads.next_txn g.M.Loads.params g.M.Loads.tables) g.M.Machine.job g.M.Machine.is_closed g.M.Loads.with_batch g.L.Lent.pair l.fn.feed l.feed l.fn.mine l.mine
    × (g.F.Feed.params l.feed ≡ g.F.Feed.params l.fn.feed) × (g.F.Feed.tables l.feed ≡ g.F.Feed.tables l.fn.feed)

abbrev pub decreases-loop-batch : goal.decreases-loop-batch
decreases-loop-batch g l = g.F.Feed.room l.feed
