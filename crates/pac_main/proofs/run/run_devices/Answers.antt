-- The command ends by the stop that is reported.
use Rattle.std.proofs.Common.{ℕ, Err, Ok, ap, subst}
use Rattle.pac_outside.specs.Causes.{Faulted}
use Rattle.pac_outside.specs.Devices.{each}
use Rattle.pac_restore.specs.Restoring.{AreRefused}
use Rattle.pac_run.specs.Run.{IsRun}
use Rattle.pac_main.specs.Streams.{observed}
use Rattle.pac_main.specs.declared.stop.Stop.{Stop}
use Rattle.pac_main.proofs.IdleLemmas.{run-taken}
use Rattle.pac_main.proofs.RunLemmas.{run-cause, run-done, run-ends}
use Rattle.pac_main.proofs.StopLemmas.{Reported}
use Rattle.pac_main.proofs.run.run_devices.Goals as goal

pub returns-in-Ok-clause-ends : goal.returns-in-Ok-clause-ends
returns-in-Ok-clause-ends g c =
    let old = c.args.devices.now in
    let new = c.run.new.devices in
    let source = observed g.I.Source.left g.I.Source.faults c.args.input.now c.run.new.input in
    let sink = observed g.O.Sink.held g.O.Sink.faults c.args.output.now c.run.new.output in
    let errors = observed g.E.Sink.held g.E.Sink.faults c.args.errors.now c.args.errors.now in
    run-done c.args.group_size c.args.limit source sink errors (each g.D.Disk.known old) (each g.D.Disk.known new) (each g.D.Disk.faults old) (each g.D.Disk.faults new)
    (subst (λ (n : ℕ). IsRun c.args.group_size n source.before source.after sink.before sink.after (each g.D.Disk.known old) (each g.D.Disk.known new) (Faulted sink.faults_before sink.faults_after) (Ok tt)) c.from.ensures c.in-Ok.ensures.run)
    (c.in-Ok.ensures.quiet (λ e. e))

pub returns-in-Err-clause-ends : goal.returns-in-Err-clause-ends
returns-in-Err-clause-ends g c =
    let old = c.args.devices.now in
    let new = c.run.new.devices in
    let source = observed g.I.Source.left g.I.Source.faults c.args.input.now c.run.new.input in
    let sink = observed g.O.Sink.held g.O.Sink.faults c.args.output.now c.run.new.output in
    let errors = observed g.E.Sink.held g.E.Sink.faults c.args.errors.now c.report.new.errors in
    let why = c.in-Err.why in
    let h = c.in-Err.ensures in
    let same = c.from.ensures in
    run-ends c.args.group_size c.args.limit source sink errors (each g.D.Disk.known old) (each g.D.Disk.known new) (each g.D.Disk.faults old) (each g.D.Disk.faults new)
    why c.report.result c.status.result c.status.ensures (subst (λ (s : Stop). Reported s c.report.result) c.from-in-Err.ensures c.report.ensures.which)
    (subst (λ (n : ℕ). IsRun c.args.group_size n source.before source.after sink.before sink.after (each g.D.Disk.known old) (each g.D.Disk.known new) (Faulted sink.faults_before sink.faults_after) (Err why)) same h.run)
    (run-cause c.args.limit source sink (each g.D.Disk.known old) (each g.D.Disk.faults old) (each g.D.Disk.faults new) (each g.D.Disk.known new) why (record {
      refused = λ error is. subst (λ (n : ℕ). AreRefused n (each g.D.Disk.known old) error) same (h.refused error is);
      input_fault = h.input_fault;
      output_fault = h.output_fault;
      disk_fault = h.disk_fault;
    }))
    c.report.ensures.line
    (λ refuses. record { settled = h.settled refuses; unread = ap g.I.Source.left (h.unread refuses); unwritten = ap g.O.Sink.held (h.silent refuses) })
    h.quiet

pub returns-in-Ok-clause-taken : goal.returns-in-Ok-clause-taken
returns-in-Ok-clause-taken g c = run-taken _ _ _ _ _ _ _ _ _ _ c.in-Ok.ensures.run

pub returns-in-Err-clause-taken : goal.returns-in-Err-clause-taken
returns-in-Err-clause-taken g c = run-taken _ _ _ _ _ _ _ _ _ _ c.in-Err.ensures.run
