-- One run after another.
use Rattle.pac_main.proofs.HeadlineLemmas.{keeps-all}
use Rattle.pac_main.proofs.laws.runs_keep_what_is_acknowledged.Goals as goal

pub returns : goal.returns
returns k = λ text catalogue history least first left runs stands are. keeps-all text catalogue history least first left runs stands are
