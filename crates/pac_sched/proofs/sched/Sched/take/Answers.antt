-- The first raised flag is that of the first ready piece.
use Rattle.std.proofs.Common.{sym, ◌∙◌}
use Rattle.pac_sched.proofs.KeptLemmas.{taken_kept, flag_raised}
use Rattle.pac_sched.proofs.ReadyLemmas.{when_zero, when_more, picked_piece, picked_none, unmoved, handed}
use Rattle.pac_sched.proofs.sched.Sched.take.Goals as goal
use Rattle.pac_sched.proofs.sched.Sched.take.Goals.{then-self-eq0, else-self-eq0}

pub returns-in_default-clause-picked : goal.returns-in_default-clause-picked
returns-in_default-clause-picked c = rw (← c.self.view_is) (elim c.if-self-eq0.branch [ then-self-eq0 w ↦ w.result-is ∙ when_zero _ w.if-self-eq0.true | else-self-eq0 w ↦ w.result-is ∙ when_more _ w.if-self-eq0.false ] ∙ picked_none _ _ _ _ _ _ _ c.self.invariant (sym c.first.ensures ∙ c.in_default.is))

pub returns-in_default-clause-after : goal.returns-in_default-clause-after
returns-in_default-clause-after c = rw (← c.self.view_is) (unmoved _ _ _ _ _ _ _ c.self.invariant (sym c.first.ensures ∙ c.in_default.is))

pub lower-requires-clause-raised : goal.lower-requires-clause-raised
lower-requires-clause-raised c = flag_raised _ _ _ _ _ _ _ c.self.invariant c.in-Some.i (sym c.first.ensures ∙ c.in-Some.is)

pub invariant_of-self : goal.invariant_of-self
invariant_of-self c = rw c.lower.ensures (taken_kept _ _ _ _ _ _ _ c.self.invariant c.in-Some.i (sym c.first.ensures ∙ c.in-Some.is))

pub returns-clause-picked : goal.returns-clause-picked
returns-clause-picked c = rw (← c.self.view_is, c.pieces.ensures) (picked_piece _ _ _ _ _ _ _ c.self.invariant c.in-Some.i _ (sym c.first.ensures ∙ c.in-Some.is))

pub returns-clause-after : goal.returns-clause-after
returns-clause-after c = rw (← c.self.view_is) (handed _ _ _ _ _ _ _ c.self.invariant c.in-Some.i (sym c.first.ensures ∙ c.in-Some.is))
