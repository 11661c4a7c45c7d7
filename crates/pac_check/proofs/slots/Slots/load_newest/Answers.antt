-- Tables without rows fit, and those that were loaded are the newest slot's.
use Rattle.std.proofs.Common.{◌∙◌, sym, subst}
use Rattle.std.proofs.lemmas.Result.{on_ok_weaker}
use Rattle.pac_outside.specs.Disk.{IfKnown}
use Rattle.pac_check.specs.SlotStates.{by_slot}
use Rattle.pac_check.proofs.FrontLemmas.{loaded_a, loaded_b, not_other_a, not_other_b}
use Rattle.pac_check.proofs.LoadingLemmas.{empty-fits}
use Rattle.pac_check.proofs.slots.Slots.load_newest.Goals as goal

pub returns-in-None-clause-fits : goal.returns-in-None-clause-fits
returns-in-None-clause-fits g c = record { count = c.requires.count; rows = empty-fits _ _ c.requires.empty }

pub returns-in-A-clause-loaded : goal.returns-in-A-clause-loaded
returns-in-A-clause-loaded g c = λ info newest. on_ok_weaker c.load_slot.result (λ loaded. loaded_a c.args.cat.now.tables c.args.self.now info c.in-Some.info _ newest (sym c.newest.ensures ∙ c.in-Some.is) c.in-A.is _ _ c.requires.holds_a loaded) c.load_slot.ensures.loaded

pub returns-in-B-clause-loaded : goal.returns-in-B-clause-loaded
returns-in-B-clause-loaded g c = λ info newest. on_ok_weaker c.load_slot-in-B.result (λ loaded. loaded_b c.args.cat.now.tables c.args.self.now info c.in-Some.info _ newest (sym c.newest.ensures ∙ c.in-Some.is) c.in-B.is _ _ c.requires.holds_b loaded) c.load_slot-in-B.ensures.loaded

pub returns-in-A-clause-whole : goal.returns-in-A-clause-whole
returns-in-A-clause-whole g c = λ slot at kind is.
    let found = c.load_slot.ensures.damaged slot at kind is in
    let a = g.D.Disk.known c.args.a.now in
    let b = g.D.Disk.known c.args.b.now in
    subst (λ s. IfKnown (λ old. ⊥) (by_slot s a b)) (sym (found.0 ∙ c.in-A.is)) (not_other_a c.args.cat.now.tables c.args.self.now c.in-Some.info (sym c.newest.ensures ∙ c.in-Some.is) c.in-A.is a c.requires.holds_a found.1)

pub returns-in-B-clause-whole : goal.returns-in-B-clause-whole
returns-in-B-clause-whole g c = λ slot at kind is.
    let found = c.load_slot-in-B.ensures.damaged slot at kind is in
    let a = g.D.Disk.known c.args.a.now in
    let b = g.D.Disk.known c.args.b.now in
    subst (λ s. IfKnown (λ old. ⊥) (by_slot s a b)) (sym (found.0 ∙ c.in-B.is)) (not_other_b c.args.cat.now.tables c.args.self.now c.in-Some.info (sym c.newest.ensures ∙ c.in-Some.is) c.in-B.is b c.requires.holds_b found.1)
