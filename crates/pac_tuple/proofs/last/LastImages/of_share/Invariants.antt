-- What the lists so far leave.
use Rattle.std.proofs.Common.{◌≡◌, ◌≤◌, drop, length}
use Rattle.std.specs.FinMap.{get}
use Rattle.pac_value.specs.State.{Cell}
use Rattle.pac_tuple.specs.Shares.{last_in, in_share}
use Rattle.pac_tuple.proofs.last.LastImages.of_share.Given as goal

abbrev pub invariant-loop-at : goal.invariant-loop-at
invariant-loop-at l = record {
  found : (cell : Cell) → get l.last cell ≡ in_share l.share cell (last_in cell (drop l.at l.lists));
  within : l.at ≤ length l.lists;
}

abbrev pub decreases-loop-at : goal.decreases-loop-at
decreases-loop-at l = l.at
