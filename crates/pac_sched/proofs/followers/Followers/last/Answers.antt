-- A position past the end begins no pair.
use Rattle.std.proofs.Common.{◌≤◌, length, arith, sym}
use Rattle.pac_sched.proofs.FollowerLemmas.{none_begins}
use Rattle.pac_sched.proofs.followers.Followers.last.Goals as goal

pub returns-else-earlier-len : goal.returns-else-earlier-len
returns-else-earlier-len c = let past : length c.self.inside.last.items ≤ c.args.earlier = omega arith in
    rw (← c.self.view_is) (sym (none_begins c.self.inside.pairs.items (length c.self.inside.last.items) c.args.earlier c.self.invariant.inside past (length c.self.inside.pairs.items)))
