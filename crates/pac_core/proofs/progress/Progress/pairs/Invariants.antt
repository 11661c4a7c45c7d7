-- So far no more were counted than the sets so far keep.
use Rattle.std.specs.Prelude.{◌≤◌, take}
use Rattle.pac_core.specs.Moves.{pairs_kept}
use Rattle.pac_core.proofs.progress.Progress.pairs.Given as goal

abbrev pub invariant-loop-i : goal.invariant-loop-i
invariant-loop-i l = l.pairs ≤ pairs_kept (take l.i l.fn.self.sets.sets)
