-- A new store, then runs, then what is recovered.
use Rattle.pac_main.proofs.HeadlineLemmas.{exact}
use Rattle.pac_main.proofs.laws.recovery_is_exact.Goals as goal

pub returns : goal.returns
returns k = exact
