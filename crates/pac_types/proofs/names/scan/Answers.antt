-- At the start it is that among all.
use Rattle.pac_types.proofs.NameLemmas.{number_is}
use Rattle.pac_types.proofs.names.scan.Goals as goal

pub loop-i-init : goal.loop-i-init
loop-i-init c = number_is _ _
