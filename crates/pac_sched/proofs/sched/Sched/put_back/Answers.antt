-- A piece that is out waits for none, so it is ready once it is back.
use Rattle.pac_sched.proofs.KeptLemmas.{back_kept, out_counted, out_inside, out_lowered}
use Rattle.pac_sched.proofs.sched.Sched.put_back.Goals as goal

pub overflow_sub-self : goal.overflow_sub-self
overflow_sub-self c = out_counted _ _ _ _ _ _ _ c.self.invariant c.args.i (rw (← c.self.view_is) at c.requires)

pub raise-requires-clause-inside : goal.raise-requires-clause-inside
raise-requires-clause-inside c = out_inside _ _ _ _ _ _ _ c.self.invariant c.args.i (rw (← c.self.view_is) at c.requires)

pub raise-requires-clause-lowered : goal.raise-requires-clause-lowered
raise-requires-clause-lowered c = out_lowered _ _ _ _ _ _ _ c.self.invariant c.args.i _ (rw (← c.self.view_is) at c.requires)

pub invariant_of-self : goal.invariant_of-self
invariant_of-self c = rw c.raise.ensures (back_kept _ _ _ _ _ _ _ c.self.invariant c.args.i (rw (← c.self.view_is) at c.requires))
