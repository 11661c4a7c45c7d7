-- The nodes so far have the numbers of their classes.
use Rattle.std.proofs.Common.{◌≡◌, ℕ, ◌<◌, length, slice_index}
use Rattle.pac_graph.proofs.groups.renumbered.Given as goal

abbrev pub invariant-loop-class : goal.invariant-loop-class
invariant-loop-class l = record {
  size : length l.numbers.items ≡ l.class-index;
  each : (u : ℕ) → u < l.class-index → slice_index l.numbers.items u ≡ slice_index l.turns (slice_index l.classes u);
}
