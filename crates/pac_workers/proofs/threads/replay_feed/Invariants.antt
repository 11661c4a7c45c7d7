use Rattle.pac_workers.proofs.threads.replay_feed.Given as goal

abbrev pub ghosts-feed_as-L-Lent : goal.ghosts-feed_as-L-Lent
ghosts-feed_as-L-Lent g a = record { pair = a.twin.table_id; size = g.M.Machine.size (g.M.Machine.job a.machine); left = g.M.Machine.left a.machine }

abbrev pub ghosts-feed_as-L-Ledger : goal.ghosts-feed_as-L-Ledger
ghosts-feed_as-L-Ledger g a = record { name = a.blank.name; parts = a.blank.parts }
