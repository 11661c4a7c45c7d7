use Rattle.pac_commute.specs.PlanLaws.{planned}
use Rattle.pac_commute.proofs.PlanFacts.{well_formed_plan}
use Rattle.pac_commute.proofs.TwoPieces.{two_pieces}
use Rattle.pac_commute.proofs.two_pieces.Goals as goal

pub returns : goal.returns
returns c = λ parts is first batches. two_pieces (planned parts first batches) (well_formed_plan parts is first batches)
