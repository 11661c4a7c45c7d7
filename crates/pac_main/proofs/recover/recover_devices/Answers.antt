-- What is reported is the stop that came, unless there was no memory for its line.
use Rattle.pac_main.specs.Streams.{observed, observed_devices}
use Rattle.pac_main.proofs.RecoverLemmas.{recover-done, recover-ends}
use Rattle.pac_main.proofs.recover.recover_devices.Goals as goal

pub returns-in-Ok-clause-ends : goal.returns-in-Ok-clause-ends
returns-in-Ok-clause-ends g c = recover-done c.args.limit
    (observed_devices g.D.Disk.known g.D.Disk.faults c.args.devices.now c.write_recovered.new.devices)
    (observed g.O.Sink.held g.O.Sink.faults c.args.output.now c.write_recovered.new.output)
    (observed g.E.Sink.held g.E.Sink.faults c.args.errors.now c.args.errors.now)
    c.in-Ok.ensures.done c.write_recovered.ensures.untouched

pub returns-in-Err-clause-ends : goal.returns-in-Err-clause-ends
returns-in-Err-clause-ends g c = recover-ends c.args.limit
    (observed_devices g.D.Disk.known g.D.Disk.faults c.args.devices.now c.write_recovered.new.devices)
    (observed g.O.Sink.held g.O.Sink.faults c.args.output.now c.write_recovered.new.output)
    (observed g.E.Sink.held g.E.Sink.faults c.args.errors.now c.report.new.errors)
    c.in-Err.stop c.report.result c.status.result c.status.ensures c.report.ensures.which c.in-Err.ensures.stops c.write_recovered.ensures.untouched c.report.ensures.line
