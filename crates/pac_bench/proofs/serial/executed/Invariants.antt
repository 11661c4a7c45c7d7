-- The rows so far fit the catalogue, in as many tables.
use Rattle.std.proofs.Common.{◌≡◌, length}
use Rattle.pac_types.specs.Fits.{FitsCatalogue}
use Rattle.pac_bench.proofs.serial.executed.Given as goal

abbrev pub invariant-loop-batch : goal.invariant-loop-batch
invariant-loop-batch l = FitsCatalogue l.catalogue l.rows.tables l.rows.rows × (l.rows.tables ≡ length l.catalogue.tables)
