-- Groups are a cut of the requests.
use Rattle.pac_session.proofs.CutLemmas.{whole-cut, described-replies}
use Rattle.pac_session.proofs.law.groups_are_a_cut.Goals as goal

pub returns-clause-whole : goal.returns-clause-whole
returns-clause-whole c = λ rules start requests. whole-cut rules start requests

pub returns-clause-known : goal.returns-clause-known
returns-clause-known c = λ rules spot start groups. described-replies rules spot start groups
