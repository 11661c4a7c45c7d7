-- The image of a cut, and the states of a kill.
use Rattle.pac_main.proofs.HeadlineLemmas.{found-cut, found-kill}
use Rattle.pac_main.proofs.laws.cuts_and_kills_are_found.Goals as goal

pub returns : goal.returns
returns k = record { cut = found-cut; kill = found-kill }
