-- The log's transactions are the first of the longer history too.
use Rattle.pac_store.proofs.StandsLemmas.{longer}
use Rattle.pac_store.proofs.laws.more_stand.Goals as goal

pub returns : goal.returns
returns k = λ text c history more least images executes is. longer text c history more least images executes is
