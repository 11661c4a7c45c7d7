-- The slots are read, and the tables of the newest are there.
use Rattle.pac_store.proofs.StandsLemmas.{is-stored}
use Rattle.pac_store.proofs.laws.what_stands_is_stored.Goals as goal

pub returns : goal.returns
returns k = λ text c history least images is. is-stored text c history least images is
