-- The body is after an open gate at no moment but whole.
use Rattle.std.proofs.Common.{◌∙◌, ℕ, ◌∷◌, ◌++◌, [], List, length, sym, ap, subst, arith, length-append}
use Rattle.pac_outside.specs.Disk.{BothKnown, IsDurable}
use Rattle.pac_log.specs.declared.log.LogParts.{LogParts}
use Rattle.pac_log.specs.declared.position.NextGate.{NextGate}
use Rattle.pac_log.specs.Bodies.{body_bytes}
use Rattle.pac_log.specs.Logs.{log_prefix}
use Rattle.pac_log.specs.Places.{IsAfter}
use Rattle.pac_log.proofs.LogLemmas.{keeps_or_adds, adds_batch, ready_parts, after_so, gate_so, ends_again, ends_torn, up_to}
use Rattle.pac_log.proofs.log.Log.commit.Goals as goal

pub returns-in-Ok-clause-any_moment : goal.returns-in-Ok-clause-any_moment
returns-in-Ok-clause-any_moment g c = λ text batches txns after prepared.
    let parts = ready_parts _ _ _ _ _ _ c.in-Ready.is (ap (λ (p : LogParts). p.stage) c.self.view_is) prepared.ready in
    keeps_or_adds text _ batches txns _ (c.as_slice-2.ensures ∙ parts.0) prepared.body _ _ (c.open_after.ensures.any_moment (log_prefix text batches) (c.place.ensures ∙ ap (λ (p : LogParts). p.gate.place) c.self.view_is ∙ after.place))

pub returns-in-Err-clause-any_moment : goal.returns-in-Err-clause-any_moment
returns-in-Err-clause-any_moment g c = λ text batches txns after prepared.
    let parts = ready_parts _ _ _ _ _ _ c.in-Ready.is (ap (λ (p : LogParts). p.stage) c.self.view_is) prepared.ready in
    keeps_or_adds text _ batches txns _ (c.as_slice-2.ensures ∙ parts.0) prepared.body _ _ (c.open_after.ensures.any_moment (log_prefix text batches) (c.place.ensures ∙ ap (λ (p : LogParts). p.gate.place) c.self.view_is ∙ after.place))

pub returns-in-Ok-clause-committed : goal.returns-in-Ok-clause-committed
returns-in-Ok-clause-committed g c = λ text batches txns after prepared.
    let parts = ready_parts _ _ _ _ _ _ c.in-Ready.is (ap (λ (p : LogParts). p.stage) c.self.view_is) prepared.ready in
    adds_batch text _ batches txns _ (c.as_slice-2.ensures ∙ parts.0) prepared.body _ _ (c.in-Ok.ensures.opened (log_prefix text batches) (c.place.ensures ∙ ap (λ (p : LogParts). p.gate.place) c.self.view_is ∙ after.place))

pub returns-in-Ok-clause-after : goal.returns-in-Ok-clause-after
returns-in-Ok-clause-after g c = λ text batches txns after prepared.
    let parts = ready_parts _ _ _ _ _ _ c.in-Ready.is (ap (λ (p : LogParts). p.stage) c.self.view_is) prepared.ready in
    let long = ap (λ (l : List ℕ). length l) (c.as_slice.ensures ∙ parts.0) in
    after_so text batches txns c.self.inside.parts.gate _ _ _ parts.1 (omega (arith, long, length-append (body_bytes txns) (0 ∷ []))) c.advance.ensures (subst (λ (p : LogParts). IsAfter text batches p.gate) (sym c.self.view_is) after)

pub returns-in-Ok-clause-gate : goal.returns-in-Ok-clause-gate
returns-in-Ok-clause-gate g c = λ txns prepared.
    let parts = ready_parts _ _ _ _ _ _ c.in-Ready.is (ap (λ (p : LogParts). p.stage) c.self.view_is) prepared.ready in
    let long = ap (λ (l : List ℕ). length l) (c.as_slice.ensures ∙ parts.0) in
    gate_so txns c.self.inside.parts.gate _ _ _ _ parts.1 (omega (arith, long, length-append (body_bytes txns) (0 ∷ []))) c.advance.ensures (ap (λ (p : LogParts). p.gate) c.self.view_is)

pub returns-in-Ok-clause-still_ends : goal.returns-in-Ok-clause-still_ends
returns-in-Ok-clause-still_ends g c = λ txns prepared.
    ends_again (IsDurable c.place.result (1 ∷ c.as_slice-2.result.now)) _ _ _ _ txns c.in-Ok.ensures.durable c.requires.ends (λ text batches after. returns-in-Ok-clause-committed g c text batches txns after prepared) (λ text batches after. returns-in-Ok-clause-after g c text batches txns after prepared)
    (ap (λ (gate : NextGate). gate.catalogue) c.advance.ensures ∙ ap (λ (p : LogParts). p.gate.catalogue) c.self.view_is)

pub returns-in-Err-clause-torn : goal.returns-in-Err-clause-torn
returns-in-Err-clause-torn g c = λ txns prepared.
    let some = up_to c.place.result in
    ends_torn _ _ _ _ txns (c.open_after.ensures.any_moment some.0 some.1) c.requires.ends (λ text batches after. returns-in-Err-clause-any_moment g c text batches txns after prepared)

pub returns-in-Ok-clause-durable : goal.returns-in-Ok-clause-durable
returns-in-Ok-clause-durable g c = λ txns prepared.
    let parts = ready_parts _ _ _ _ _ _ c.in-Ready.is (ap (λ (p : LogParts). p.stage) c.self.view_is) prepared.ready in
    let old = g.D.Disk.known c.args.disk.now in
    let new = g.D.Disk.known c.open_after.new.disk in
    let piece = subst (λ (l : List ℕ). BothKnown (IsDurable c.place.result (1 ∷ l)) old new) (c.as_slice-2.ensures ∙ parts.0) c.in-Ok.ensures.durable in
    subst (λ (at : ℕ). BothKnown (IsDurable at (1 ∷ (body_bytes txns ++ 0 ∷ []))) old new) (c.place.ensures ∙ ap (λ (p : LogParts). p.gate.place) c.self.view_is) piece
