-- There is a transaction, and those so far fit the catalogue.
use Rattle.std.proofs.Common.{◌≤◌, length}
use Rattle.std.specs.List.{All}
use Rattle.pac_types.specs.Fits.{TxnFits}
use Rattle.pac_bench.proofs.log.batch_of.Given as goal

abbrev pub invariant-loop : goal.invariant-loop
invariant-loop l = (1 ≤ length l.txns.items) × All (TxnFits l.cat) l.txns.items
