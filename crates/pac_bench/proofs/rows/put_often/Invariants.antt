-- The rows so far fit the catalogue.
use Rattle.pac_types.specs.Fits.{FitsCatalogue}
use Rattle.pac_bench.proofs.rows.put_often.Given as goal

abbrev pub invariant-loop : goal.invariant-loop
invariant-loop l = FitsCatalogue l.cat l.rows.tables l.rows.rows
