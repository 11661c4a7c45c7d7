-- The batch still fits the log's catalogue.
use Rattle.std.specs.List.{All}
use Rattle.pac_types.specs.Fits.{TxnFits}
use Rattle.pac_bench.proofs.log.commit.Given as goal

abbrev pub invariant-loop : goal.invariant-loop
invariant-loop g l = All (TxnFits l.log.gate.catalogue) l.batch.txns
