-- What is restored is what serial execution of what is stored gives.
use Rattle.std.proofs.Common.{◌∙◌, ℕ, Option, ap, refl, sym, subst}
use Rattle.std.proofs.lemmas.Result.{err_from_is_err_and}
use Rattle.pac_outside.specs.Devices.{OneFaulted, each, log_at}
use Rattle.pac_outside.specs.Disk.{DiskHistory}
use Rattle.pac_outside.specs.declared.devices.Devices.{Devices}
use Rattle.pac_check.specs.SlotStates.{active_of, newest_of}
use Rattle.pac_restore.specs.declared.errors.LoadError.TheVariants.{DiskFault}
use Rattle.pac_restore.specs.declared.errors.RecoverError.TheVariants.{Load}
use Rattle.pac_restore.specs.Opening.{IsRefusedReading}
use Rattle.pac_restore.specs.Outcomes.{outcome_of, FitsReplayed, HasExecuted}
use Rattle.pac_restore.specs.Reads.{IsReadFrom}
use Rattle.pac_restore.proofs.CauseLemmas.{as-error, no-error, the-cause}
use Rattle.pac_restore.proofs.EndLemmas.{ended-recovered, load-refused, one-cause, over-refused, stopped-refused}
use Rattle.pac_restore.proofs.LoadedLemmas.{log-known}
use Rattle.pac_restore.proofs.LoadLemmas.{catalogue-stays}
use Rattle.pac_restore.proofs.OpenLemmas.{refused-reading}
use Rattle.pac_restore.proofs.RestoreLemmas.{restored-ends, restored-number}
use Rattle.pac_restore.proofs.WholeLemmas.{first-number}
use Rattle.pac_restore.proofs.restoring.restore.Goals as goal

pub returns-in_err-catalogue-clause-refused : goal.returns-in_err-catalogue-clause-refused
returns-in_err-catalogue-clause-refused g c =
    let r = c.from_residual in
    let p = err_from_is_err_and r.result r.ensures.1 in
    load-refused c.args.limit (each g.D.Disk.known c.args.devices.now) r.result p.0 c.in_err-catalogue.field-0.0 p.1 p.2 c.in_err-catalogue.ensures.refused

pub returns-in_err-executed-clause-refused : goal.returns-in_err-executed-clause-refused
returns-in_err-executed-clause-refused g c =
    let r = c.from_residual-in_err-executed in
    let p = err_from_is_err_and r.result r.ensures.1 in
    let devices = each g.D.Disk.known c.args.devices.now in
    let opened = c.in_ok-catalogue.field-0 in
    let says = c.in_ok-catalogue.ensures in
    let cause = c.in_err-executed.field-0.0 in
    load-refused c.args.limit devices r.result p.0 cause p.1 p.2 (refused-reading opened.slots opened.reader.gate devices says.found opened.catalogue says.catalogue says.a says.b cause
    (subst (λ (d : Devices (Option DiskHistory)). IsRefusedReading opened.slots opened.reader.gate d cause) says.same c.in_err-executed.ensures.refused))

pub returns-in_err-tables-clause-refused : goal.returns-in_err-tables-clause-refused
returns-in_err-tables-clause-refused g c =
    let devices = each g.D.Disk.known c.args.devices.now in
    let opened = c.in_ok-catalogue.field-0 in
    let says = c.in_ok-catalogue.ensures in
    let executed = c.in_ok-executed.executed in
    let new = c.execute_active.new.reader.gate in
    let r = c.from_residual-in_err-tables in
    let p = err_from_is_err_and r.result r.ensures.1 in
    let found = c.in_err-tables.ensures.aborted c.in_err-tables.field-0.0 refl in
    stopped-refused opened.catalogue (outcome_of executed) new.txns devices
    (restored-ends opened.slots opened.catalogue opened.tables.rows opened.reader new executed devices says.found says.first says.catalogue
    (subst (λ (d : Devices (Option DiskHistory)). IsReadFrom (log_at (active_of opened.slots) d) (newest_of opened.slots) opened.reader.gate new (HasExecuted opened.catalogue opened.tables.rows executed)) says.same c.in_ok-executed.ensures.executed)
    says.a says.b says.newest)
    c.args.limit r.result p.0 p.1 found.0 (p.2 ∙ found.1) (ap outcome_of found.2)

pub returns-in_err-test_rows-clause-refused : goal.returns-in_err-test_rows-clause-refused
returns-in_err-test_rows-clause-refused g c =
    let devices = each g.D.Disk.known c.args.devices.now in
    let opened = c.in_ok-catalogue.field-0 in
    let says = c.in_ok-catalogue.ensures in
    let executed = c.in_ok-executed.executed in
    let new = c.execute_active.new.reader.gate in
    let r = c.from_residual-in_err-test_rows in
    let p = err_from_is_err_and r.result r.ensures.1 in
    let excess = c.in_err-test_rows.field-0.0 in
    let found = c.in_err-test_rows.ensures.over excess refl in
    over-refused opened.catalogue (outcome_of executed) new.txns devices
    (restored-ends opened.slots opened.catalogue opened.tables.rows opened.reader new executed devices says.found says.first says.catalogue
    (subst (λ (d : Devices (Option DiskHistory)). IsReadFrom (log_at (active_of opened.slots) d) (newest_of opened.slots) opened.reader.gate new (HasExecuted opened.catalogue opened.tables.rows executed)) says.same c.in_ok-executed.ensures.executed)
    says.a says.b says.newest)
    c.args.limit r.result p.0 p.1 excess.table excess.rows excess.limit p.2 found.1 c.in_ok-tables.tables.rows (ap outcome_of c.in_ok-tables.ensures.ok) found.0

pub returns-clause-restored : goal.returns-clause-restored
returns-clause-restored g c =
    let devices = each g.D.Disk.known c.args.devices.now in
    let opened = c.in_ok-catalogue.field-0 in
    let says = c.in_ok-catalogue.ensures in
    let executed = c.in_ok-executed.executed in
    let new = c.execute_active.new.reader.gate in
    ended-recovered opened.catalogue (outcome_of executed) new.txns devices
    (restored-ends opened.slots opened.catalogue opened.tables.rows opened.reader new executed devices says.found says.first says.catalogue
    (subst (λ (d : Devices (Option DiskHistory)). IsReadFrom (log_at (active_of opened.slots) d) (newest_of opened.slots) opened.reader.gate new (HasExecuted opened.catalogue opened.tables.rows executed)) says.same c.in_ok-executed.ensures.executed)
    says.a says.b says.newest)
    c.in_ok-tables.tables.rows (ap outcome_of c.in_ok-tables.ensures.ok)

pub returns-in_err-executed-clause-disk_fault : goal.returns-in_err-executed-clause-disk_fault
returns-in_err-executed-clause-disk_fault g c = λ fault.
    let r = c.from_residual-in_err-executed in
    let p = err_from_is_err_and r.result r.ensures.1 in
    let cause = c.in_err-executed.field-0.0 in
    subst (λ (f : Devices ℕ). OneFaulted f (each g.D.Disk.faults c.execute_active.new.devices)) (c.in_ok-catalogue.ensures.quiet (no-error _ _))
    (c.in_err-executed.ensures.disk_fault (as-error _ _ (one-cause cause DiskFault (the-cause r.result p.0 (Load cause) (Load DiskFault) p.1 p.2 fault))))

pub returns-clause-well_formed : goal.returns-clause-well_formed
returns-clause-well_formed g c =
    let devices = each g.D.Disk.known c.args.devices.now in
    let opened = c.in_ok-catalogue.field-0 in
    let says = c.in_ok-catalogue.ensures in
    let executed = c.in_ok-executed.executed in
    let new = c.execute_active.new.reader.gate in
    let read = (subst (λ (d : Devices (Option DiskHistory)). IsReadFrom (log_at (active_of opened.slots) d) (newest_of opened.slots) opened.reader.gate new (HasExecuted opened.catalogue opened.tables.rows executed)) says.same c.in_ok-executed.ensures.executed) in
    let known = log_at (active_of opened.slots) devices in
    record {
      fits = subst (λ e. FitsReplayed opened.catalogue e) c.in_ok-tables.ensures.ok c.in_ok-executed.ensures.fits;
      end = c.in_ok-executed.ensures.end;
      same = catalogue-stays known (newest_of opened.slots) opened.reader.gate new _ read says.found.begins (first-number opened.reader says.first) ∙ sym says.catalogue;
      works = says.works;
      number = restored-number opened.slots opened.catalogue opened.tables.rows opened.reader new executed devices says.found says.first says.catalogue read;
    }

pub returns-clause-log : goal.returns-clause-log
returns-clause-log g c =
    let devices = each g.D.Disk.known c.args.devices.now in
    let opened = c.in_ok-catalogue.field-0 in
    let says = c.in_ok-catalogue.ensures in
    let executed = c.in_ok-executed.executed in
    let new = c.execute_active.new.reader.gate in
    log-known opened.slots opened.reader.gate new devices (HasExecuted opened.catalogue opened.tables.rows executed) says.found
    (subst (λ (d : Devices (Option DiskHistory)). IsReadFrom (log_at (active_of opened.slots) d) (newest_of opened.slots) opened.reader.gate new (HasExecuted opened.catalogue opened.tables.rows executed)) says.same c.in_ok-executed.ensures.executed)
