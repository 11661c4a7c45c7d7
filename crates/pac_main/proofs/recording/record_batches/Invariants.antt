-- The first batches are recorded.
use Rattle.std.proofs.Common.{◌≡◌, length}
use Rattle.pac_types.specs.Fits.{FitsCatalogue}
use Rattle.pac_main.proofs.RecordingLemmas.{RecordedSoFar}
use Rattle.pac_main.proofs.recording.record_batches.Given as goal

abbrev pub invariant-loop-batch : goal.invariant-loop-batch
invariant-loop-batch l = record {
  recorded : RecordedSoFar l.catalogue.procs l.catalogue.tables l.batches l.batch-index l.rows.rows l.fn.out.items l.out.items;
  fits : FitsCatalogue l.catalogue l.rows.tables l.rows.rows;
  tables : l.rows.tables ≡ length l.catalogue.tables;
}
