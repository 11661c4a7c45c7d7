-- It holds of all plans.
use Rattle.pac_keys.proofs.OutputLemmas.{inputs_are_outputs}
use Rattle.pac_keys.proofs.laws.inputs_are_outputs.Goals as goal

pub returns : goal.returns
returns c = inputs_are_outputs
