-- What is left stands for the history that recovery is said of.
use Rattle.pac_main.proofs.HeadlineLemmas.{recovers-all}
use Rattle.pac_main.proofs.laws.recover_gives_what_is_acknowledged.Goals as goal

pub returns : goal.returns
returns k = recovers-all
