-- No set of the batch in the blocks so far is unfinished.
use Rattle.std.proofs.Common.{◌≡◌, ◌<◌}
use Rattle.pac_sets.specs.declared.set_id.SetId.{SetId}
use Rattle.pac_core.specs.Moves.{IsSetUnfinished}
use Rattle.pac_core.proofs.progress.Progress.is_left.Given as goal

abbrev pub invariant-loop-block : goal.invariant-loop-block
invariant-loop-block l = (set : SetId) → set.batch ≡ l.batch → set.block < l.block → IsSetUnfinished l.self.sets.sets set → ⊥
