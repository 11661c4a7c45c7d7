-- The pairs so far are moved.
use Rattle.std.proofs.Common.{◌≡◌, ◌++◌, take}
use Rattle.pac_sched.specs.Schedules.{moved_by}
use Rattle.pac_sched.proofs.opening.moved.Given as goal

abbrev pub invariant-loop-k : goal.invariant-loop-k
invariant-loop-k l = l.pairs.items ≡ l.old ++ moved_by l.len (take l.k l.new)
