use Rattle.pac_ops.proofs.ProgramLemmas.{stays_fit}
use Rattle.pac_ops.proofs.TypedOver.{typed_over}
use Rattle.pac_ops.proofs.laws.stays_fit.Goals as goal

pub returns : goal.returns
returns c = record { program = stays_fit; expressions = typed_over }
