-- The slices of the programs so far.
use Rattle.std.proofs.Common.{◌≡◌, length, take}
use Rattle.pac_main.specs.Explained.{AreSlicesOf}
use Rattle.pac_main.proofs.explanation.graphs_of.Given as goal

abbrev pub invariant-loop-program : goal.invariant-loop-program
invariant-loop-program l = (length l.graphs.items ≡ l.program-index) × AreSlicesOf (take l.program-index l.programs) l.graphs.items
