-- What is scanned is what is stored.
use Rattle.std.proofs.Common.{◌∙◌, ℕ, List, Option, ap, sym, subst}
use Rattle.pac_ops.specs.declared.batch.Batch.{Batch}
use Rattle.pac_log.specs.declared.position.NextGate.{NextGate}
use Rattle.std.proofs.lemmas.Result.{err_from_is_err_and}
use Rattle.pac_outside.specs.Devices.{OneFaulted, each, log_at}
use Rattle.pac_outside.specs.Disk.{DiskHistory}
use Rattle.pac_outside.specs.declared.devices.Devices.{Devices}
use Rattle.pac_outside.specs.declared.devices.LogName.{LogName}
use Rattle.pac_log.specs.declared.reader.ReaderParts.{ReaderParts}
use Rattle.pac_check.specs.declared.info.SlotInfo.{SlotInfo}
use Rattle.pac_check.specs.SlotStates.{active_of, newest_of, saved_txns}
use Rattle.pac_restore.specs.declared.errors.LoadError.TheVariants.{DiskFault}
use Rattle.pac_restore.specs.Opening.{IsRefusedOn}
use Rattle.pac_restore.specs.Reads.{IsReadFrom}
use Rattle.pac_restore.specs.Refusals.{AreRefusedAs}
use Rattle.pac_restore.proofs.CauseLemmas.{as-error, no-error, the-cause}
use Rattle.pac_restore.proofs.KnownLemmas.{as-refused}
use Rattle.pac_restore.proofs.LoadedLemmas.{scanned-known}
use Rattle.pac_restore.proofs.OpenLemmas.{refused-reading}
use Rattle.pac_restore.proofs.scanning.scan.Goals as goal

pub returns-in_err-_forgotten-clause-refused : goal.returns-in_err-_forgotten-clause-refused
returns-in_err-_forgotten-clause-refused g c =
    let r = c.from_residual-in_err-_forgotten in
    let p = err_from_is_err_and r.result r.ensures.1 in
    let devices = each g.D.Disk.known c.args.devices.now in
    let opened = c.in_ok-catalogue.field-0 in
    let says = c.in_ok-catalogue.ensures in
    let cause = c.in_err-_forgotten.field-0.0 in
    as-refused (AreRefusedAs devices) r.result p.0 p.1 (subst (λ e. AreRefusedAs devices e) (sym p.2) (refused-reading opened.slots opened.reader.gate devices says.found opened.catalogue says.catalogue says.a says.b cause
    (subst (λ (t : LogName × Option SlotInfo × Devices (Option DiskHistory)). IsRefusedOn t.0 t.1 opened.reader.gate (log_at t.0 t.2) cause) (λ i. (c.active.ensures i, c.newest-newest.ensures i, says.same i)) c.in_err-_forgotten.ensures.refused)))

pub returns-in_err-_forgotten-clause-disk_fault : goal.returns-in_err-_forgotten-clause-disk_fault
returns-in_err-_forgotten-clause-disk_fault g c = λ fault.
    let r = c.from_residual-in_err-_forgotten in
    let p = err_from_is_err_and r.result r.ensures.1 in
    subst (λ (f : Devices ℕ). OneFaulted f (each g.D.Disk.faults c.read_active.new.devices)) (c.in_ok-catalogue.ensures.quiet (no-error _ _)) (c.in_err-_forgotten.ensures.disk_fault (as-error _ _ (the-cause r.result p.0 c.in_err-_forgotten.field-0.0 DiskFault p.1 p.2 fault)))

pub returns-clause-scanned : goal.returns-clause-scanned
returns-clause-scanned g c =
    let devices = each g.D.Disk.known c.args.devices.now in
    let opened = c.in_ok-catalogue.field-0 in
    let says = c.in_ok-catalogue.ensures in
    let took : List Batch → Type 0 = λ _. Unit {0} in
    let read : IsReadFrom (log_at (active_of opened.slots) devices) (newest_of opened.slots) opened.reader.gate c.read_active.new.reader.gate took = subst (λ (t : LogName × Option SlotInfo × Devices (Option DiskHistory)). IsReadFrom (log_at t.0 t.2) t.1 opened.reader.gate c.read_active.new.reader.gate took) (λ i. (c.active.ensures i, c.newest-newest.ensures i, says.same i)) c.in_ok-_forgotten.ensures.read in
    scanned-known _ opened.reader c.read_active.new.reader.gate devices took says.found says.first says.catalogue read (c.txns_in.ensures ∙ ap saved_txns c.newest-newest.ensures)
    (ap (λ (r : ReaderParts). r.gate) c.rewind.ensures) (c.txns-total.ensures.value ∙ ap (λ (n : NextGate). n.txns) c.gate.ensures) says.a says.b says.newest
