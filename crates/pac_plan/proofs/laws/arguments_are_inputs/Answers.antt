-- What is not defined keeps the value of its argument.
use Rattle.pac_plan.proofs.ArgumentLemmas.{arguments_are_inputs}
use Rattle.pac_plan.proofs.laws.arguments_are_inputs.Goals as goal

pub returns : goal.returns
returns c = arguments_are_inputs
