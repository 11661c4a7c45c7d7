-- Its number is above the other one's.
use Rattle.pac_store.proofs.SegmentLemmas.{differ, newest-published, other-active}
use Rattle.pac_store.proofs.laws.the_published_is_the_newest.Goals as goal

pub returns-clause-newest : goal.returns-clause-newest
returns-clause-newest k = newest-published

pub returns-clause-active : goal.returns-clause-active
returns-clause-active k = other-active

pub returns-clause-differ : goal.returns-clause-differ
returns-clause-differ k = λ text known g h above is_a is_b. differ text known g h above is_a is_b
