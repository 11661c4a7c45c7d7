-- A core, its work and its results can be sent.
use denote.Param.Send.{sendable}
use Rattle.pac_core.proofs.Sent.{core_send, done_send, work_send}
use Rattle.pac_bench.proofs.locked.finished.Goals as goal

pub replay-requires-send-M : goal.replay-requires-send-M
replay-requires-send-M g c κs within = let sent = c.type_bounds.send-R in search (sendable, core_send)

pub replay-requires-send-M-Work : goal.replay-requires-send-M-Work
replay-requires-send-M-Work g c κs within = search (sendable, work_send)

pub replay-requires-send-M-Done : goal.replay-requires-send-M-Done
replay-requires-send-M-Done g c κs within = search (sendable, done_send)
