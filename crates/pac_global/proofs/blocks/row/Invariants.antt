-- The numbers so far.
use Rattle.std.proofs.Common.{◌≡◌, ℕ, ◌+◌, ◌<◌, length, slice_index}
use Rattle.pac_global.proofs.blocks.row.Given as goal

abbrev pub invariant-loop-i : goal.invariant-loop-i
invariant-loop-i l = record {
  size : length l.row.items ≡ l.i;
  each : (i : ℕ) → i < l.i → slice_index l.row.items i ≡ slice_index l.numbers (l.first + i);
}
