-- A text after a shut gate is there whole, or isn't found.
use Rattle.std.proofs.Common.{◌≡◌, ◌∙◌, sym, subst}
use Rattle.pac_check.specs.declared.info.SlotName.TheVariants.{A, B}
use Rattle.pac_check.specs.declared.state.SlotState.TheVariants.{Closed}
use Rattle.pac_check.specs.SlotStates.{by_slot, spare_of}
use Rattle.pac_check.proofs.ReplacingLemmas.{opening_known, taken_text}
use Rattle.pac_check.proofs.slots.Slots.publish.Goals as goal

pub returns-in-A-clause-any_moment : goal.returns-in-A-clause-any_moment
returns-in-A-clause-any_moment g c = λ head text is.
    let spare : spare_of c.args.self.now ≡ A = sym c.spare-spare.ensures ∙ c.in-A.is in
    let closed : c.args.self.now.a ≡ Closed = subst (λ s. by_slot s c.args.self.now.a c.args.self.now.b ≡ Closed) spare c.requires.closed in
    rw spare (opening_known c.args.self.now.a _ text closed (c.as_slice.ensures ∙ taken_text _ _ _ head text c.take.ensures.value c.in-Some.is is) _ _ c.requires.begins_a c.open.ensures.any_moment)

pub returns-clause-any_moment : goal.returns-clause-any_moment
returns-clause-any_moment g c = λ head text is.
    let spare : spare_of c.args.self.now ≡ B = sym c.spare-spare.ensures ∙ c.in-B.is in
    let closed : c.args.self.now.b ≡ Closed = subst (λ s. by_slot s c.args.self.now.a c.args.self.now.b ≡ Closed) spare c.requires.closed in
    rw spare (opening_known c.args.self.now.b _ text closed (c.as_slice-in-B.ensures ∙ taken_text _ _ _ head text c.take.ensures.value c.in-Some.is is) _ _ c.requires.begins_b c.open-in-B.ensures.any_moment)
