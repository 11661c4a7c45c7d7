-- The fronts are those of the sets so far.
use Rattle.std.proofs.Common.{◌≡◌, ◌≤◌, length, take}
use Rattle.pac_sets.specs.Sets.{AreFronts}
use Rattle.pac_sets.proofs.sets.note_fronts.Given as goal

abbrev pub invariant-loop-at : goal.invariant-loop-at
invariant-loop-at g l = record {
  len : length l.fronts.items ≡ length l.fn.fronts.items;
  past : l.from ≤ l.at;
  seen : AreFronts (length l.fn.fronts.items) l.fronts.items (take l.at l.sets);
}
