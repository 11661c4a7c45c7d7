-- A closed slot isn't called.
use Rattle.pac_check.proofs.ReplacingLemmas.{resting_both}
use Rattle.pac_check.proofs.replacing.close.Goals as goal

pub returns-in-Closed-clause-any_moment : goal.returns-in-Closed-clause-any_moment
returns-in-Closed-clause-any_moment g c = rw c.in-Closed.is (λ some. resting_both _)
