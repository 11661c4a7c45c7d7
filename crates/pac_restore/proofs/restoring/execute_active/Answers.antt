-- What was executed of the batches that were read.
use Rattle.std.proofs.Common.{◌≡◌, ◌+◌, ℕ, List, Option, Ok, subst}
use Rattle.pac_ops.specs.declared.batch.Batch.{Batch}
use Rattle.pac_outside.specs.Devices.{each, log_at}
use Rattle.pac_outside.specs.declared.devices.LogName.{LogName}
use Rattle.pac_types.specs.Typing.{CatalogueState}
use Rattle.pac_check.specs.declared.info.SlotInfo.{SlotInfo}
use Rattle.pac_check.specs.SlotStates.{active_of, newest_of}
use Rattle.pac_restore.specs.Batches.{txns_in, RunOn}
use Rattle.pac_restore.specs.Outcomes.{outcome_of, then_serial, FitsReplayed}
use Rattle.pac_restore.specs.Reads.{IsReadFrom}
use Rattle.pac_restore.proofs.SinkLemmas.{read-as}
use Rattle.pac_restore.proofs.restoring.execute_active.Goals as goal

pub returns-clause-fits : goal.returns-clause-fits
returns-clause-fits g c = subst (λ (cat : CatalogueState). FitsReplayed cat c.in_ok-executed.field-0.executed) c.requires.same c.in_ok-executed.ensures.takes.2

pub returns-clause-executed : goal.returns-clause-executed
returns-clause-executed g c =
    let devices = each g.D.Disk.known c.args.devices.now in
    let old = c.args.reader.now.gate in
    let new = c.read_active.new.reader.gate in
    let sink = c.in_ok-executed.field-0 in
    let took : List Batch → Type 0 = λ batches. (sink.catalogue.now ≡ c.args.cat.now) × ((before : ℕ) → RunOn before batches → outcome_of sink.executed ≡ then_serial c.args.cat.now.procs (before + 1) (txns_in batches) (Ok c.args.tables.rows)) in
    read-as (log_at (active_of c.args.slots.now) devices) (newest_of c.args.slots.now) old new took _ (λ batches is. is.1)
    (subst (λ (t : LogName × Option SlotInfo). IsReadFrom (log_at t.0 devices) t.1 old new took) (λ i. (c.active.ensures i, c.newest-newest.ensures i)) c.in_ok-executed.ensures.read)
