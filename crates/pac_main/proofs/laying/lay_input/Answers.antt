-- What is reported is the stop that came, unless there was no memory for its line.
use Rattle.std.proofs.Common.{refl, arith}
use Rattle.pac_main.specs.Streams.{observed}
use Rattle.pac_main.proofs.LayEndLemmas.{lay-ends}
use Rattle.pac_main.proofs.laying.lay_input.Goals as goal

pub returns-in-Ok-clause-ends : goal.returns-in-Ok-clause-ends
returns-in-Ok-clause-ends g c = record {
  statuses = refl;
  done = λ zero. c.in-Ok.ensures.done;
  refused = λ two. absurd (omega (arith, two));
  over_limit = λ five. absurd (omega (arith, five));
  input_fault = λ six. absurd (omega (arith, six));
  output_fault = λ seven. absurd (omega (arith, seven));
  too_long = λ eleven. absurd (omega (arith, eleven));
  complete = λ input reads writes. refl;
}

pub returns-in-Err-clause-ends : goal.returns-in-Err-clause-ends
returns-in-Err-clause-ends g c = lay-ends c.args.limit
    (observed g.I.Source.left g.I.Source.faults c.args.input.now c.lay_log.new.input) (observed g.O.Sink.held g.O.Sink.faults c.args.output.now c.lay_log.new.output)
    (observed g.E.Sink.held g.E.Sink.faults c.args.errors.now c.report.new.errors)
    c.in-Err.stop c.report.result c.status.result c.status.ensures c.report.ensures.which c.in-Err.ensures.stops c.report.ensures.line
