-- No block so far has a piece.
use Rattle.std.proofs.Common.{◌≡◌, ℕ, ◌≤◌, ◌<◌, false}
use Rattle.pac_plan.specs.Pieces.{has_ops}
use Rattle.pac_plan.specs.Codes.{piece_ops}
use Rattle.pac_in_order.proofs.blocks.first_block.Given as goal

abbrev pub invariant-loop-block : goal.invariant-loop-block
invariant-loop-block l = (c : ℕ) → l.from ≤ c → c < l.block → has_ops (piece_ops l.plan c l.txn) ≡ false
