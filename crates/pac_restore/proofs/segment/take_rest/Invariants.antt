-- The batches so far were taken.
use Rattle.std.proofs.Common.{◌≡◌, ◌≤◌}
use Rattle.pac_restore.proofs.TakenLemmas.{Takes}
use Rattle.pac_restore.proofs.segment.take_rest.Given as goal

abbrev pub invariant-loop : goal.invariant-loop
invariant-loop g l = record {
  takes : Takes (g.D.Disk.known l.fn.disk) l.fn.reader.gate l.reader.gate (g.S.BatchSink.took l.fn.sink l.taking);
  may : g.S.BatchSink.takes l.taking l.fn.reader.gate.catalogue;
  counted : l.counter ≤ l.reader.gate.txns;
  same : g.D.Disk.known l.disk ≡ g.D.Disk.known l.fn.disk;
  quiet : g.D.Disk.faults l.disk ≡ g.D.Disk.faults l.fn.disk;
}
