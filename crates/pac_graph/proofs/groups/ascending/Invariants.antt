-- The numbers so far stand at their positions.
use Rattle.std.proofs.Common.{◌≡◌, ℕ, ◌<◌, length, slice_index}
use Rattle.pac_graph.proofs.groups.ascending.Given as goal

abbrev pub invariant-loop-number : goal.invariant-loop-number
invariant-loop-number l = record {
  size : length l.numbers.items ≡ l.number;
  each : (u : ℕ) → u < l.number → slice_index l.numbers.items u ≡ u;
}
