-- The pairs before the next one are left; what waits is not ready.
use Rattle.pac_sched.specs.Counts.{pairs_up_to}
use Rattle.pac_sched.proofs.FollowerLemmas.{IsReleasing}
use Rattle.pac_sched.proofs.followers.Followers.release.Given as goal

abbrev pub invariant-loop-next : goal.invariant-loop-next
invariant-loop-next l = IsReleasing l.self l.finished l.fn.waits l.fn.ready l.waits l.ready l.next

abbrev pub decreases-loop-next : goal.decreases-loop-next
decreases-loop-next l = pairs_up_to l.next
