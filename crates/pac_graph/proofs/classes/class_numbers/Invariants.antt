-- The nodes so far have their numbers.
use Rattle.std.proofs.Common.{◌≡◌, ℕ, ◌<◌, length, slice_index}
use Rattle.pac_graph.specs.declared.search.Mark.TheVariants.{Done}
use Rattle.pac_graph.specs.Search.{mark_of}
use Rattle.pac_graph.proofs.classes.class_numbers.Given as goal

abbrev pub invariant-loop-mark : goal.invariant-loop-mark
invariant-loop-mark l = record {
  size : length l.numbers.items ≡ l.mark-index;
  number : (u c : ℕ) → u < l.mark-index → mark_of l.marks u ≡ Done c → slice_index l.numbers.items u ≡ c;
}
