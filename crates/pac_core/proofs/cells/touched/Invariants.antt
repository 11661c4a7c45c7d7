-- The cells so far, and those that are left, are all.
use Rattle.std.proofs.Common.{◌≡◌, ◌++◌, drop, map}
use Rattle.pac_plan.specs.Pieces.{named_cell}
use Rattle.pac_core.proofs.cells.touched.Given as goal

abbrev pub invariant-loop-touch : goal.invariant-loop-touch
invariant-loop-touch l = record {
  all : l.cells.items ++ map named_cell (drop l.touch-index l.touches) ≡ map named_cell l.touches;
}
