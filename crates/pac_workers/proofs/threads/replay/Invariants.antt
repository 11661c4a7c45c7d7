use Rattle.pac_workers.proofs.threads.replay.Given as goal

abbrev pub ghosts-replay_as-L-Lent : goal.ghosts-replay_as-L-Lent
ghosts-replay_as-L-Lent g a = record { pair = a.twin.table_id; size = g.M.Machine.size (g.M.Machine.job a.machine); left = g.M.Machine.left a.machine }

abbrev pub ghosts-replay_as-L-Ledger : goal.ghosts-replay_as-L-Ledger
ghosts-replay_as-L-Ledger g a = record { name = a.blank.name; parts = a.blank.parts }
