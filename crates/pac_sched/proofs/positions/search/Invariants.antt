-- The piece is in none of the places that were left out.
use Rattle.std.proofs.Common.{◌≡◌, ℕ, ◌-◌, ◌<◌, ◌≤◌, false, get_or, length}
use Rattle.pac_ops.specs.declared.piece.PieceId.{PieceId}
use Rattle.pac_plan.specs.Pieces.{is_piece}
use Rattle.pac_sched.proofs.positions.search.Given as goal

abbrev pub invariant-loop-low : goal.invariant-loop-low
invariant-loop-low l = record {
  inside : l.high ≤ length l.pieces;
  below : (k : ℕ) (d : PieceId) → k < l.low → is_piece l.id (get_or l.pieces k d) ≡ false;
  above : (k : ℕ) (d : PieceId) → l.high ≤ k → k < length l.pieces → is_piece l.id (get_or l.pieces k d) ≡ false;
}

abbrev pub decreases-loop-low : goal.decreases-loop-low
decreases-loop-low l = l.high - l.low
