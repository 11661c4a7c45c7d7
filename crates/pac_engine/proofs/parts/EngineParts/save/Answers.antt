-- A slot and the log device that isn't active are called, where a checkpoint is written.
use Rattle.std.proofs.Common.{rules, ◌≡◌, ◌∙◌, ap, refl, subst, sym}
use Rattle.pac_outside.specs.Devices.{each}
use Rattle.pac_types.specs.Accepted.{IsAccepted}
use Rattle.pac_log.specs.declared.position.NextGate.{NextGate}
use Rattle.pac_check.specs.declared.slots.Slots.{Slots}
use Rattle.pac_check.specs.SlotStates.{newest_of}
use Rattle.pac_store.specs.Stands.{reach_of}
use Rattle.pac_engine.specs.declared.parts.EngineParts.{EngineParts}
use Rattle.pac_engine.specs.Moves.{saved_bytes, saved_head}
use Rattle.pac_engine.specs.Standing.{durable_of, saved_of}
use Rattle.pac_engine.proofs.KnownLemmas.{refused-keeps}
use Rattle.pac_engine.proofs.SaveLemmas.{anew-above, anew-parts, written-is, written-ready}
use Rattle.pac_engine.proofs.SavingLemmas.{write-fails, written-keeps-known, written-stands-known}
use Rattle.pac_engine.proofs.parts.EngineParts.save.Goals as goal

pub returns-then-not-saves_anew-clause-keeps : goal.returns-then-not-saves_anew-clause-keeps
returns-then-not-saves_anew-clause-keeps g c = λ text history. refused-keeps text history c.args.self.now _ _ refl refl

pub returns-in_err-segment-clause-keeps : goal.returns-in_err-segment-clause-keeps
returns-in_err-segment-clause-keeps g c = λ text history. refused-keeps text history c.args.self.now _ _ refl refl

pub returns-in_err-prepare-clause-keeps : goal.returns-in_err-prepare-clause-keeps
returns-in_err-prepare-clause-keeps g c = λ text history. refused-keeps text history c.args.self.now _ _ (ap durable_of c.in_err-prepare.ensures.refused) (ap saved_of c.in_err-prepare.ensures.refused)

pub returns-in_err-prepare-clause-large : goal.returns-in_err-prepare-clause-large
returns-in_err-prepare-clause-large g c = λ bytes is. let anew = sym c.saves_anew.ensures ∙ c.if-not-saves_anew.false in search rules

pub returns-in_err-self-clause-keeps : goal.returns-in_err-self-clause-keeps
returns-in_err-self-clause-keeps g c = λ text history.
    let e = c.args.self.now in
    let slots = ap (λ (p : EngineParts). p.slots) c.in_ok-prepare.ensures.ready in
    let anew = sym c.saves_anew.ensures ∙ c.if-not-saves_anew.false in
    write-fails text history e (anew-above (newest_of e.slots) (durable_of e) c.requires.working.saved anew) c.requires.working.same c.requires.none c.prepare.ensures.fit c.in_ok-prepare.ensures.form c.prepare.new.self.slots c.in_ok-segment.segment.gate slots c.in_ok-segment.ensures (each g.D.Disk.known c.args.devices.now) (each g.D.Disk.known c.write_checkpoint.new.devices)
    (record { session = c.prepare.new.self.session; log = c.prepare.new.self.log; slots = c.write_checkpoint.new.slots; ended = c.prepare.new.self.ended }) (ap (λ (p : EngineParts). p.log.gate.txns) c.in_ok-prepare.ensures.ready) (ap reach_of (c.in_err-self.ensures.newest ∙ ap newest_of slots))
    (λ form batches. c.write_checkpoint.ensures.keeps text e.session.catalogue history form batches e.session.tables)

pub returns-clause-saved : goal.returns-clause-saved
returns-clause-saved g c =
    let anew = sym c.saves_anew.ensures ∙ c.if-not-saves_anew.false in
    written-is c.args.self.now c.prepare.new.self c.in_ok-self.field-0 c.write_checkpoint.new.slots c.in_ok-segment.segment.gate c.in_ok-prepare.ensures.ready c.in_ok-segment.ensures c.in_ok-self.ensures.log c.in_ok-self.ensures.slots
    ∙ sym (anew-parts c.args.self.now anew)

pub returns-clause-ready : goal.returns-clause-ready
returns-clause-ready g c =
    let e = c.args.self.now in
    let slots = ap (λ (p : EngineParts). p.slots) c.in_ok-prepare.ensures.ready in
    let anew = sym c.saves_anew.ensures ∙ c.if-not-saves_anew.false in
    let accepted = subst (λ (gate : NextGate). IsAccepted gate.header.text gate.catalogue) c.gate-2.ensures c.header-header.ensures.accepted in
    written-ready g.D.Disk.known e c.args.devices.now c.write_checkpoint.new.devices (anew-above (newest_of e.slots) (durable_of e) c.requires.working.saved anew) accepted c.requires.working.same c.in_ok-prepare.ensures.form c.requires.ready
    c.prepare.new.self.slots c.in_ok-segment.segment.gate slots c.in_ok-segment.ensures c.in_ok-self.ensures.log_ends (c.in_ok-self.ensures.published (saved_head e) (saved_bytes e) (ap (λ (s : Slots). s.ready) slots)) c.write_checkpoint.ensures.other
    _ (written-is e c.prepare.new.self c.in_ok-self.field-0 c.write_checkpoint.new.slots c.in_ok-segment.segment.gate c.in_ok-prepare.ensures.ready c.in_ok-segment.ensures c.in_ok-self.ensures.log c.in_ok-self.ensures.slots)

pub returns-clause-keeps : goal.returns-clause-keeps
returns-clause-keeps g c = λ text history.
    let e = c.args.self.now in
    let slots = ap (λ (p : EngineParts). p.slots) c.in_ok-prepare.ensures.ready in
    let anew = sym c.saves_anew.ensures ∙ c.if-not-saves_anew.false in
    written-keeps-known text history e (anew-above (newest_of e.slots) (durable_of e) c.requires.working.saved anew) c.requires.working.same c.requires.none c.prepare.ensures.fit c.in_ok-prepare.ensures.form c.prepare.new.self.slots c.in_ok-segment.segment.gate slots c.in_ok-segment.ensures (each g.D.Disk.known c.args.devices.now) (each g.D.Disk.known c.write_checkpoint.new.devices)
    _ (written-is e c.prepare.new.self c.in_ok-self.field-0 c.write_checkpoint.new.slots c.in_ok-segment.segment.gate c.in_ok-prepare.ensures.ready c.in_ok-segment.ensures c.in_ok-self.ensures.log c.in_ok-self.ensures.slots)
    (λ form batches. c.in_ok-self.ensures.stands text e.session.catalogue history form batches e.session.tables) (λ form batches. c.write_checkpoint.ensures.keeps text e.session.catalogue history form batches e.session.tables)

pub returns-clause-stands : goal.returns-clause-stands
returns-clause-stands g c = λ text history.
    let e = c.args.self.now in
    let slots = ap (λ (p : EngineParts). p.slots) c.in_ok-prepare.ensures.ready in
    let anew = sym c.saves_anew.ensures ∙ c.if-not-saves_anew.false in
    written-stands-known text history e (anew-above (newest_of e.slots) (durable_of e) c.requires.working.saved anew) c.requires.working.same c.requires.none c.prepare.ensures.fit c.in_ok-prepare.ensures.form c.prepare.new.self.slots c.in_ok-segment.segment.gate slots c.in_ok-segment.ensures (each g.D.Disk.known c.args.devices.now) (each g.D.Disk.known c.write_checkpoint.new.devices)
    _ (written-is e c.prepare.new.self c.in_ok-self.field-0 c.write_checkpoint.new.slots c.in_ok-segment.segment.gate c.in_ok-prepare.ensures.ready c.in_ok-segment.ensures c.in_ok-self.ensures.log c.in_ok-self.ensures.slots)
    (λ form batches. c.in_ok-self.ensures.stands text e.session.catalogue history form batches e.session.tables)
