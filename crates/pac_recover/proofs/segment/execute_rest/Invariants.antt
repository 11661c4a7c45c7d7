-- The windows so far were executed.
use Rattle.std.proofs.Common.{◌≡◌, ◌≤◌, ◌+◌, Ok}
use Rattle.pac_restore.specs.Batches.{txns_in}
use Rattle.pac_restore.proofs.TakenLemmas.{Takes}
use Rattle.pac_types.specs.Execution.{serial}
use Rattle.pac_types.specs.Fits.{FitsCatalogue}
use Rattle.pac_recover.proofs.segment.execute_rest.Given as goal

abbrev pub invariant-loop : goal.invariant-loop
invariant-loop g l = record {
  takes : Takes (g.D.Disk.known l.fn.disk) l.fn.reader.gate l.reader.gate (λ batches. Ok l.tables.rows ≡ serial l.cat.procs (l.fn.reader.gate.txns + 1) (txns_in batches) l.fn.tables.rows);
  catalogue : l.reader.gate.catalogue ≡ l.cat;
  counted : l.counter ≤ l.reader.gate.txns;
  fits : FitsCatalogue l.cat l.tables.tables l.tables.rows;
  same : g.D.Disk.known l.disk ≡ g.D.Disk.known l.fn.disk;
  quiet : g.D.Disk.faults l.disk ≡ g.D.Disk.faults l.fn.disk;
}
