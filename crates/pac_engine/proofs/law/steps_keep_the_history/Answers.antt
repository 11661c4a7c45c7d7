-- One step keeps the history, and the next one a longer one.
use Rattle.pac_engine.proofs.LawLemmas.{history-then, stands-then}
use Rattle.pac_engine.proofs.law.steps_keep_the_history.Goals as goal

pub returns-clause-keeps : goal.returns-clause-keeps
returns-clause-keeps c = λ text history more last first next end old middle new same grown keeps stands then. history-then text history more last first next end old middle new same grown keeps stands then

pub returns-clause-stands : goal.returns-clause-stands
returns-clause-stands c = λ text history more last first next end old middle new stands then. stands-then text history more last first next end old middle new stands then
