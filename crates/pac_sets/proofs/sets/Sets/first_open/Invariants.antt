-- It is the first open set of the blocks so far.
use Rattle.pac_sets.specs.Sets.{IsFirstBelow}
use Rattle.pac_sets.proofs.sets.Sets.first_open.Given as goal

abbrev pub invariant-loop-block : goal.invariant-loop-block
invariant-loop-block g l = IsFirstBelow l.block l.self.edges l.self.sets l.from l.first
