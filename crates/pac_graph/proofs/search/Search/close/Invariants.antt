-- The nodes up to a position have the class, and those from it on are open.
use Rattle.std.proofs.Common.{◌≡◌, ℕ, ◌+◌, ◌<◌, ◌≤◌, length, slice_index}
use Rattle.pac_graph.specs.declared.search.Mark.TheVariants.{Open}
use Rattle.pac_graph.specs.Search.{mark_of, changes_left, GaveClass}
use Rattle.pac_graph.proofs.search.Search.close.Given as goal

abbrev pub invariant-loop-offset : goal.invariant-loop-offset
invariant-loop-offset l = record {
  range : (l.from ≤ l.offset) × (l.offset ≤ length l.self.stack.items);
  size : length l.self.marks.items ≡ length l.fn.self.marks.items;
  marks : GaveClass l.fn.self.marks.items l.self.marks.items l.self.stack.items l.from l.offset l.self.count;
  opened : (p : ℕ) → l.offset ≤ p → p < length l.self.stack.items → mark_of l.self.marks.items (slice_index l.self.stack.items p) ≡ Open p;
  changes : changes_left l.self.marks.items + l.offset ≤ changes_left l.fn.self.marks.items + l.from;
  same : l.self.stack.items ≡ l.fn.self.stack.items;
  count : l.self.count ≡ l.fn.self.count;
}
