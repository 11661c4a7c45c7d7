-- The run that a clause of the command speaks of.
use Rattle.pac_main.proofs.LifeLemmas.{run-of}
use Rattle.pac_main.proofs.laws.a_run_is_of_a_life.Goals as goal

pub returns : goal.returns
returns k = λ group_size limit status input output errors devices entry exit ends known known'. run-of ends entry exit known known'
