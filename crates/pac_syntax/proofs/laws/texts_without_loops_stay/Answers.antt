use Rattle.pac_syntax.proofs.NoLoopsNeeded.{stays}
use Rattle.pac_syntax.proofs.NoLoopsRead.{plain, was_read}
use Rattle.pac_syntax.proofs.laws.texts_without_loops_stay.Goals as goal

pub returns-clause-stay : goal.returns-clause-stay
returns-clause-stay c = stays

pub returns-clause-plain : goal.returns-clause-plain
returns-clause-plain c = plain

pub returns-clause-only : goal.returns-clause-only
returns-clause-only c = was_read
