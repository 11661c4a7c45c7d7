-- A smaller number is reached too.
use Rattle.pac_store.proofs.StandsLemmas.{fewer, fewer-saved}
use Rattle.pac_store.proofs.laws.fewer_stand.Goals as goal

pub returns-clause-log : goal.returns-clause-log
returns-clause-log k = λ text c history least lesser images le is. fewer text c history least lesser images le is

pub returns-clause-slots : goal.returns-clause-slots
returns-clause-slots k = λ c saved lesser images le is. fewer-saved c saved lesser images le is
