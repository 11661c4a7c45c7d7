-- Lines were served up to here, as by a reader that leaves nothing out.
use Rattle.std.proofs.Common.{◌≡◌, ◌≤◌, ◌+◌, ◌-◌, false, length}
use Rattle.pac_outside.specs.Devices.{each}
use Rattle.pac_lines.specs.Reading.{ReaderState}
use Rattle.pac_lines.specs.Short.{IsShortOf}
use Rattle.pac_request.specs.declared.limits.TheConstants.{MAX_LINE}
use Rattle.pac_engine.specs.Standing.{HasDevices}
use Rattle.pac_run.specs.Serving.{Serving}
use Rattle.pac_run.proofs.serving.serve_lines.Given as goal

abbrev pub invariant-loop-stop : goal.invariant-loop-stop
invariant-loop-stop g l = record {
  same : l.fn.engine.session.catalogue ≡ l.engine.session.catalogue;
  goes_on : l.engine.ended ≡ false;
  ready : HasDevices g.D.Disk.known l.engine l.devices;
  whole : ReaderState;
  short : IsShortOf whole l.reader;
  most : l.reader.most ≡ MAX_LINE;
  serving : Serving l.fn.engine l.engine (g.I.Source.left l.fn.input) (g.I.Source.left l.input) whole (g.O.Sink.held l.fn.output) (g.O.Sink.held l.output) (each g.D.Disk.known l.fn.devices) (each g.D.Disk.known l.devices);
  quiet : each g.D.Disk.faults l.devices ≡ each g.D.Disk.faults l.fn.devices;
  later_output : g.O.Sink.faults l.fn.output ≤ g.O.Sink.faults l.output;
  later_input : g.I.Source.faults l.fn.input ≤ g.I.Source.faults l.input;
}

abbrev pub decreases-loop-stop : goal.decreases-loop-stop
decreases-loop-stop g l = length l.reader.state.ahead + l.reader.state.limit - l.reader.state.taken
