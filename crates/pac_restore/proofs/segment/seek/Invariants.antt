-- No gate so far is the one that the newest slot names.
use Rattle.std.proofs.Common.{◌≡◌, ◌≤◌}
use Rattle.pac_restore.proofs.ReadLemmas.{Seeks}
use Rattle.pac_restore.proofs.segment.seek.Given as goal

abbrev pub invariant-loop : goal.invariant-loop
invariant-loop g l = record {
  seeks : Seeks (g.D.Disk.known l.fn.disk) l.fn.newest l.fn.reader.gate l.reader.gate;
  counted : l.counter ≤ l.reader.gate.txns;
  same : g.D.Disk.known l.disk ≡ g.D.Disk.known l.fn.disk;
  quiet : g.D.Disk.faults l.disk ≡ g.D.Disk.faults l.fn.disk;
}
