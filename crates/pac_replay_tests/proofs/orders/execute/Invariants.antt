-- The rows fit the catalogue.
use Rattle.pac_types.specs.Fits.{FitsCatalogue}
use Rattle.pac_replay_tests.proofs.orders.execute.Given as goal

abbrev pub invariant-loop-batch : goal.invariant-loop-batch
invariant-loop-batch g l = FitsCatalogue l.catalogue (g.R.Rows.tables l.rows) (g.R.Rows.held l.rows)
