-- The pairs so far are in the list of their earlier piece.
use Rattle.std.specs.Prelude.{◌≡◌, take, vec_len}
use Rattle.pac_countdown.specs.HandOut.{AreLaters}
use Rattle.pac_countdown.proofs.laters.laters_of.Given as goal

abbrev pub invariant-loop-pair : goal.invariant-loop-pair
invariant-loop-pair l = record {
  len : vec_len l.laters ≡ l.pieces;
  are : AreLaters (take l.pair-index l.pairs) l.pieces l.laters.items;
}
