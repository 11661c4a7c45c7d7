-- What is reported is the stop that came, unless there was no memory for its line.
use Rattle.std.proofs.Common.{refl, arith}
use Rattle.pac_main.specs.Streams.{observed}
use Rattle.pac_main.proofs.StressLemmas.{stress-ends}
use Rattle.pac_main.proofs.stress.stress_output.Goals as goal

pub returns-in-Ok-clause-ends : goal.returns-in-Ok-clause-ends
returns-in-Ok-clause-ends g c = record {
  statuses = refl;
  done = λ zero. c.in-Ok.ensures.done;
  output_fault = λ seven. absurd (omega (arith, seven));
  complete = λ none. refl;
}

pub returns-in-Err-clause-ends : goal.returns-in-Err-clause-ends
returns-in-Err-clause-ends g c = stress-ends c.args.count
    (observed g.O.Sink.held g.O.Sink.faults c.args.output.now c.write_summary.new.output)
    c.in-Err.stop c.report.result c.status.result c.status.ensures c.report.ensures.which c.in-Err.ensures.stops
