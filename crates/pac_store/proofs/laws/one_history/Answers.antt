-- The log says one segment.
use Rattle.pac_store.proofs.StandsLemmas.{one-end, one-segment}
use Rattle.pac_store.proofs.laws.one_history.Goals as goal

pub returns-clause-segment : goal.returns-clause-segment
returns-clause-segment k = one-segment

pub returns-clause-tables : goal.returns-clause-tables
returns-clause-tables k = one-end
