-- Up to 100,000 transactions end.
use Rattle.pac_stress.proofs.NoAborts.{never-aborts}
use Rattle.pac_stress.proofs.laws.none_aborts.Goals as goal

pub returns : goal.returns
returns c = never-aborts
