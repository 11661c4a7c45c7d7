-- None of the edges so far leads to the block.
use Rattle.std.proofs.Common.{◌≡◌, ◌<◌, ℕ, get_or}
use Rattle.pac_plan.proofs.plan.Plan.is_entry.Given as goal

abbrev pub invariant-loop-edge : goal.invariant-loop-edge
invariant-loop-edge l = (k : ℕ) (d : ℕ × ℕ) → k < l.edge-index → (get_or l.self.edges k d).1 ≡ l.block → ⊥
