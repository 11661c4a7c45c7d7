-- None of the pieces so far is the one.
use Rattle.std.proofs.Common.{◌≡◌, ℕ, ◌<◌, false, get_or}
use Rattle.pac_ops.specs.declared.piece.PieceId.{PieceId}
use Rattle.pac_plan.specs.Pieces.{is_piece}
use Rattle.pac_sched.proofs.positions.scan.Given as goal

abbrev pub invariant-loop-i : goal.invariant-loop-i
invariant-loop-i l = (k : ℕ) (d : PieceId) → k < l.i → is_piece l.id (get_or l.pieces k d) ≡ false
