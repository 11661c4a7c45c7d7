-- The touches so far were added.
use Rattle.std.proofs.Common.{◌≡◌, ◌++◌, map, take}
use Rattle.pac_batch.specs.Queues.{queued_touch}
use Rattle.pac_batch.proofs.queues.add_touches.Given as goal

abbrev pub invariant-loop-touch : goal.invariant-loop-touch
invariant-loop-touch l = l.queued.items ≡ l.fn.queued.items ++ map (queued_touch l.index) (take l.touch-index l.touches)
