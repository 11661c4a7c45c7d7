-- The lists are equal exactly where what is left of them is.
use Rattle.std.proofs.Common.{◌≡◌, ◌↔◌, drop}
use Rattle.pac_piece.proofs.rows.same_rows.Given as goal

abbrev pub invariant-loop-i : goal.invariant-loop-i
invariant-loop-i l = (l.one ≡ l.other) ↔ (drop l.i l.one ≡ drop l.i l.other)
