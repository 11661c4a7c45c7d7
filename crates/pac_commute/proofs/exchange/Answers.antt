use Rattle.pac_commute.proofs.PlanFacts.{exchange_plan}
use Rattle.pac_commute.proofs.exchange.Goals as goal

pub returns : goal.returns
returns c = exchange_plan
