-- What is reported is the stop that came, unless there was no memory for its line.
use Rattle.std.proofs.Common.{refl, arith}
use Rattle.pac_main.specs.Streams.{observed, observed_devices}
use Rattle.pac_main.proofs.StopLemmas.{init-ends}
use Rattle.pac_main.proofs.init.init_input.Goals as goal

pub returns-in-Ok-clause-ends : goal.returns-in-Ok-clause-ends
returns-in-Ok-clause-ends g c = record {
  statuses = refl;
  accepted = λ early. (c.in-Ok.ensures.done.0, c.in-Ok.ensures.done.1);
  done = λ zero. c.in-Ok.ensures.done;
  refused = λ two. absurd (omega (arith, two));
  not_empty = λ three. absurd (omega (arith, three));
  input_fault = λ six. absurd (omega (arith, six));
  disk_fault = λ eight. absurd (omega (arith, eight));
  untouched = λ zero eight. absurd (zero refl);
  quiet = λ zero. c.in-Ok.ensures.quiet;
  complete = λ input unused none. refl;
}

pub returns-in-Err-clause-ends : goal.returns-in-Err-clause-ends
returns-in-Err-clause-ends g c = init-ends
    (observed g.I.Source.left g.I.Source.faults c.args.input.now c.init.new.input)
    (observed_devices g.D.Disk.known g.D.Disk.faults c.args.devices.now c.init.new.devices)
    (observed g.E.Sink.held g.E.Sink.faults c.args.errors.now c.report.new.errors)
    c.in-Err.stop c.report.result c.status.result c.status.ensures c.report.ensures.which c.in-Err.ensures.stops c.report.ensures.line
