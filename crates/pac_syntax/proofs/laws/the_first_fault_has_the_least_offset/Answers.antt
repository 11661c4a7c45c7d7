use Rattle.pac_syntax.proofs.LeastOffset.{least_offset}
use Rattle.pac_syntax.proofs.laws.the_first_fault_has_the_least_offset.Goals as goal

pub returns : goal.returns
returns c = least_offset
