-- No bit that was passed is set.
use Rattle.std.proofs.Common.{◌-◌, ℕ, ◌<◌, ◌≤◌}
use Rattle.pac_graph.specs.Matrix.{HasBit}
use Rattle.pac_graph.proofs.matrix.Matrix.next.Given as goal

abbrev pub invariant-loop-to : goal.invariant-loop-to
invariant-loop-to l = (l.at ≤ l.to) × ((b : ℕ) → l.at ≤ b → b < l.to → HasBit l.self l.from b → ⊥)

abbrev pub decreases-loop-to : goal.decreases-loop-to
decreases-loop-to l = l.self.nodes - l.to
