-- What is out or finished waits for none.
use Rattle.pac_sched.proofs.ReadyLemmas.{in_order}
use Rattle.pac_sched.proofs.sched.Sched.keeps_order.Goals as goal

pub returns : goal.returns
returns c = rw (← c.self.view_is) (in_order _ _ _ _ _ _ _ c.self.invariant)
