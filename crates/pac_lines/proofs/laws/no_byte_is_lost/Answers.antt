use Rattle.pac_lines.proofs.CallLemmas.{nothing_lost}
use Rattle.pac_lines.proofs.laws.no_byte_is_lost.Goals as goal

pub returns : goal.returns
returns c = nothing_lost
