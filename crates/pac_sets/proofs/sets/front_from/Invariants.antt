-- No set that was seen is an unfinished one of the block.
use Rattle.std.proofs.Common.{◌≡◌, ◌<◌, ℕ, false, Some}
use Rattle.std.specs.Prelude.{slice_get}
use Rattle.pac_sets.specs.Sets.{Kept, is_unfinished_in}
use Rattle.pac_sets.proofs.sets.front_from.Given as goal

abbrev pub invariant-loop-at : goal.invariant-loop-at
invariant-loop-at g l = (k : ℕ) (set : Kept g.row.P.Denot) → k < l.at → slice_get l.sets k ≡ Some set → is_unfinished_in l.block set ≡ false
