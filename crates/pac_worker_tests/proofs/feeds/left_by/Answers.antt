-- A core, its work and its results can be sent.
use denote.Param.Send.{sendable}
use Rattle.pac_core.proofs.Sent.{core_send, done_send, work_send}
use Rattle.pac_worker_tests.proofs.feeds.left_by.Goals as goal

pub replay_feed-requires-send-M : goal.replay_feed-requires-send-M
replay_feed-requires-send-M g c κs within = let sent = c.type_bounds.send-R in search (sendable, core_send)

pub replay_feed-requires-send-M-Work : goal.replay_feed-requires-send-M-Work
replay_feed-requires-send-M-Work g c κs within = search (sendable, work_send)

pub replay_feed-requires-send-M-Done : goal.replay_feed-requires-send-M-Done
replay_feed-requires-send-M-Done g c κs within = search (sendable, done_send)
