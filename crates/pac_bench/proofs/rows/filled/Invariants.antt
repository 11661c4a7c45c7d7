-- The rows so far fit the catalogue.
use Rattle.pac_types.specs.Fits.{FitsCatalogue}
use Rattle.pac_bench.proofs.rows.filled.Given as goal

abbrev pub invariant-loop-key : goal.invariant-loop-key
invariant-loop-key l = FitsCatalogue l.cat l.rows.tables l.rows.rows
