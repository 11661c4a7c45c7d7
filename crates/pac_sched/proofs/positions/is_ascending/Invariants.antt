-- The pieces so far ascend.
use Rattle.std.proofs.Common.{◌≡◌, ℕ, ◌<◌, true, get_or}
use Rattle.pac_ops.specs.declared.piece.PieceId.{PieceId}
use Rattle.pac_sched.specs.Orders.{piece_before}
use Rattle.pac_sched.proofs.positions.is_ascending.Given as goal

abbrev pub invariant-loop-i : goal.invariant-loop-i
invariant-loop-i l = (j k : ℕ) (d : PieceId) → j < k → k < l.i → piece_before (get_or l.pieces j d) (get_or l.pieces k d) ≡ true
