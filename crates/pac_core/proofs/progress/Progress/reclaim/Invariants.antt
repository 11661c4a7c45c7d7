-- The sets so far are reclaimed.
use Rattle.std.proofs.Common.{◌≡◌}
use Rattle.pac_core.proofs.ReclaimSteps.{upto}
use Rattle.pac_core.proofs.progress.Progress.reclaim.Given as goal

abbrev pub invariant-loop-at : goal.invariant-loop-at
invariant-loop-at l = l.self ≡ record l.fn.self { sets = record l.fn.self.sets { sets = upto l.at l.fn.self.sets.sets } }
