use Rattle.std.proofs.Common.{length}
use Rattle.pac_types.specs.WellFormed.{types}
use Rattle.pac_request.proofs.PlainLemmas.{SoFar}
use Rattle.pac_request.proofs.plain.arguments.Given as goal

-- the values so far are those of the arguments that are read
abbrev pub invariant-loop-wanted : goal.invariant-loop-wanted
invariant-loop-wanted l = SoFar l.fn.bytes l.rest l.is_first (types l.fn.params) (types l.params) l.values.items

abbrev pub decreases-loop-wanted : goal.decreases-loop-wanted
decreases-loop-wanted l = length l.params
