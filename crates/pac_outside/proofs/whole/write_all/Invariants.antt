use Rattle.std.proofs.Common.{◌≤◌, ◌-◌, length, take}
use Rattle.pac_outside.specs.Content.{Took}
use Rattle.pac_outside.proofs.whole.write_all.Given as goal

abbrev pub invariant-loop-at : goal.invariant-loop-at
invariant-loop-at g l = record {
  in_range : l.at ≤ length l.text;
  taken : Took (g.K.Sink.held l.initial.sink) (take l.at l.text) (g.K.Sink.held l.sink);
  later : g.K.Sink.faults l.initial.sink ≤ g.K.Sink.faults l.sink;
}

abbrev pub decreases-loop-at : goal.decreases-loop-at
decreases-loop-at g l = length l.text - l.at
