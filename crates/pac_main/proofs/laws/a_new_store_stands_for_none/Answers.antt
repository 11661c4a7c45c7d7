-- Each image of it is the one that was made.
use Rattle.pac_main.proofs.HeadlineLemmas.{new-store}
use Rattle.pac_main.proofs.laws.a_new_store_stands_for_none.Goals as goal

pub returns : goal.returns
returns k = new-store
