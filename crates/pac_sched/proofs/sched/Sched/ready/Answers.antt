-- As many flags are raised as pieces are ready.
use Rattle.std.proofs.Common.{◌∙◌}
use Rattle.pac_sched.proofs.ReadyLemmas.{ready_counted}
use Rattle.pac_sched.proofs.sched.Sched.ready.Goals as goal

pub returns : goal.returns
returns c = rw (← c.self.view_is) (c.raised.ensures ∙ ready_counted _ _ _ _ _ _ _ c.self.invariant)
