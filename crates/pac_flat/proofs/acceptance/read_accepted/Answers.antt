-- What is refused is the first procedure at which operations are too many.
use Rattle.std.proofs.Common.{refl}
use Rattle.pac_flat.proofs.acceptance.read_accepted.Goals as goal

pub excess_fault-requires : goal.excess_fault-requires
excess_fault-requires c = c.in-Err.ensures.fault c.in-Err.excess refl
