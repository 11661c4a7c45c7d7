-- The first raised flag is that of the first ready piece.
use Rattle.std.proofs.Common.{sym, ◌∙◌}
use Rattle.pac_sched.proofs.ReadyLemmas.{when_zero, when_more, picked_piece, picked_none}
use Rattle.pac_sched.proofs.sched.Sched.peek.Goals as goal

pub returns-in-Some : goal.returns-in-Some
returns-in-Some c = rw (← c.self.view_is, c.pieces.ensures) (picked_piece _ _ _ _ _ _ _ c.self.invariant c.in-Some.i _ (sym c.first.ensures ∙ c.in-Some.is))

pub returns-in-None : goal.returns-in-None
returns-in-None c = rw (← c.self.view_is) (when_zero _ c.if-self-eq0.true ∙ picked_none _ _ _ _ _ _ _ c.self.invariant (sym c.first.ensures ∙ c.in-None.is))

pub returns-in-None-2 : goal.returns-in-None-2
returns-in-None-2 c = rw (← c.self.view_is) (when_more _ c.if-self-eq0.false ∙ picked_none _ _ _ _ _ _ _ c.self.invariant (sym c.first.ensures ∙ c.in-None-2.is))
