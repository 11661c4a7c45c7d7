use Rattle.pac_commute.proofs.PlanFacts.{needs_plan, inputs_plan, turns_plan, undisturbed_plan}
use Rattle.pac_commute.proofs.exchange_by_needs.Goals as goal

pub returns : goal.returns
returns c = record { needs = needs_plan; inputs = inputs_plan; turns = turns_plan; undisturbed = undisturbed_plan }
