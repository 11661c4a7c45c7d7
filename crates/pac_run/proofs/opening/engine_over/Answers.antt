-- An engine over what is stored.
use Rattle.std.proofs.Common.{◌≡◌, ◌∙◌, None, length, sym, ap, subst}
use Rattle.pac_outside.specs.Devices.{each}
use Rattle.pac_log.specs.declared.log.LogParts.{LogParts}
use Rattle.pac_check.specs.declared.slots.Slots.{Slots}
use Rattle.pac_types.specs.Execution.{first_over}
use Rattle.pac_session.specs.Open.{Open}
use Rattle.pac_run.proofs.CauseLemmas.{active-known, opened-known, state-known}
use Rattle.pac_run.proofs.opening.engine_over.Goals as goal

pub returns-clause-opened : goal.returns-clause-opened
returns-clause-opened g c =
    let restored = c.in_ok-catalogue.field-0 in
    opened-known c.new.result restored.catalogue restored.tables.rows restored.reader.gate restored.slots (ap (λ (o : Open). o.catalogue) c.new.ensures.session) (ap (λ (o : Open). o.tables) c.new.ensures.session) (ap (λ (l : LogParts). l.gate) (c.new.ensures.log ∙ c.resume-log.ensures)) c.new.ensures.slots c.in_ok-catalogue.ensures.well_formed.same
    (each g.D.Disk.known c.args.devices.now) c.in_ok-catalogue.ensures.log c.in_ok-catalogue.ensures.slot_a c.in_ok-catalogue.ensures.slot_b c.in_ok-catalogue.ensures.restored

pub returns-clause-log : goal.returns-clause-log
returns-clause-log g c = active-known c.in_ok-catalogue.field-0.reader.gate c.new.result.log.gate c.in_ok-catalogue.field-0.slots c.new.result.slots _ (ap (λ (l : LogParts). l.gate) (c.new.ensures.log ∙ c.resume-log.ensures)) c.new.ensures.slots c.in_ok-catalogue.ensures.log

pub returns-clause-slot_a : goal.returns-clause-slot_a
returns-clause-slot_a g c = state-known c.in_ok-catalogue.field-0.catalogue c.new.result.session.catalogue c.in_ok-catalogue.field-0.slots.a c.new.result.slots.a _ (ap (λ (o : Open). o.catalogue) c.new.ensures.session) (ap (λ (s : Slots). s.a) c.new.ensures.slots) c.in_ok-catalogue.ensures.slot_a

pub returns-clause-slot_b : goal.returns-clause-slot_b
returns-clause-slot_b g c = state-known c.in_ok-catalogue.field-0.catalogue c.new.result.session.catalogue c.in_ok-catalogue.field-0.slots.b c.new.result.slots.b _ (ap (λ (o : Open). o.catalogue) c.new.ensures.session) (ap (λ (s : Slots). s.b) c.new.ensures.slots) c.in_ok-catalogue.ensures.slot_b

pub returns-clause-within : goal.returns-clause-within
returns-clause-within g c = subst (λ (o : Open). first_over c.args.limit (length o.catalogue.tables) o.tables ≡ None) (sym c.new.ensures.session) c.in_ok-catalogue.ensures.within
