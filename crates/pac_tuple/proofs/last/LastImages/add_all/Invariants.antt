-- What was found before, and else what the images so far leave.
use Rattle.std.proofs.Common.{◌≡◌, ◌≤◌, drop, length}
use Rattle.std.specs.Option.{option_or}
use Rattle.std.specs.FinMap.{get}
use Rattle.pac_value.specs.State.{Cell}
use Rattle.pac_tuple.specs.Shares.{last_at, in_share}
use Rattle.pac_tuple.proofs.last.LastImages.add_all.Given as goal

abbrev pub invariant-loop-at : goal.invariant-loop-at
invariant-loop-at l = record {
  found : (cell : Cell) → get l.self cell ≡ option_or (get l.fn.self cell) (in_share l.share cell (last_at cell (drop l.at l.images)));
  within : l.at ≤ length l.images;
}

abbrev pub decreases-loop-at : goal.decreases-loop-at
decreases-loop-at l = l.at
