-- The pieces so far are of the transactions from 1 on.
use Rattle.std.proofs.Common.{◌≡◌, ℕ, ◌+◌, ◌<◌, length, get_or}
use Rattle.pac_ops.specs.declared.piece.PieceId.{PieceId}
use Rattle.pac_replay_tests.proofs.schedules.pieces.Given as goal

abbrev pub invariant-loop-i : goal.invariant-loop-i
invariant-loop-i l = record {
  len : length l.pieces.items ≡ l.i;
  numbers : (k : ℕ) (d : PieceId) → k < l.i → (get_or l.pieces.items k d).txn ≡ k + 1;
}
