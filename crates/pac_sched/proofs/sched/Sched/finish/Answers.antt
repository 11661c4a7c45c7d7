-- What waited for the piece waits for one less.
use Rattle.std.proofs.Common.{sym, ◌∙◌, ap, length}
use Rattle.pac_sched.proofs.KeptLemmas.{out_there, out_counted, out_unfinished, enough, finished_after}
use Rattle.pac_sched.proofs.sched.Sched.finish.Goals as goal

pub overflow_sub-self : goal.overflow_sub-self
overflow_sub-self c = out_counted _ _ _ _ _ _ _ c.self.invariant c.in-Some.i (out_there c.self.inside.states.items _ c.in-Some.i (sym c.find.ensures ∙ c.in-Some.is) (rw (← c.self.view_is) at c.requires))

pub overflow_sub-self-2 : goal.overflow_sub-self-2
overflow_sub-self-2 c = out_unfinished _ _ _ _ _ _ _ c.self.invariant c.in-Some.i (out_there c.self.inside.states.items _ c.in-Some.i (sym c.find.ensures ∙ c.in-Some.is) (rw (← c.self.view_is) at c.requires))

pub release-requires-clause-enough : goal.release-requires-clause-enough
release-requires-clause-enough c = rw c.deref_mut.ensures.value (enough _ _ _ _ _ _ _ c.self.invariant c.in-Some.i (out_there c.self.inside.states.items _ c.in-Some.i (sym c.find.ensures ∙ c.in-Some.is) (rw (← c.self.view_is) at c.requires)))

pub invariant_of-self : goal.invariant_of-self
invariant_of-self c = finished_after _ _ _ _ _ _ _ c.self.invariant c.in-Some.i (out_there c.self.inside.states.items _ c.in-Some.i (sym c.find.ensures ∙ c.in-Some.is) (rw (← c.self.view_is) at c.requires))
    c.release.new.waits c.release.new.ready _ c.self.inside.waits.len (sym (ap length c.deref_mut.ensures.value) ∙ c.deref_mut.ensures.len) (rw c.deref_mut.ensures.value at c.release.ensures.waits_len) c.release.ensures.ready_len (rw c.deref_mut.ensures.value at c.release.ensures.waits) c.release.ensures.ready
