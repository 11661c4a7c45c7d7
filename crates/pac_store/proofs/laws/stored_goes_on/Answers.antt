-- What is stored goes on in the history.
use Rattle.pac_store.proofs.StandsLemmas.{goes-on}
use Rattle.pac_store.proofs.laws.stored_goes_on.Goals as goal

pub returns : goal.returns
returns k = λ text c history least images stored is there. goes-on text c history least images stored is there
