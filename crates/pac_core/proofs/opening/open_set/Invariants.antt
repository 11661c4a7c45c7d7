-- The accesses, cells and pieces of the transactions so far.
use Rattle.std.proofs.Common.{◌≡◌, map, take}
use Rattle.pac_core.specs.Cells.{HasCellsOf}
use Rattle.pac_core.specs.Links.{piece_in}
use Rattle.pac_core.specs.Moves.{access_over}
use Rattle.pac_core.proofs.opening.open_set.Given as goal

abbrev pub invariant-loop-txn : goal.invariant-loop-txn
invariant-loop-txn l = record {
  accesses : l.accesses.items ≡ map (access_over l.plan l.loaded l.block) (take l.txn-index l.txns);
  pieces : l.pieces.items ≡ map (piece_in l.block) (take l.txn-index l.txns);
  cells : HasCellsOf l.accesses.items l.cells.items;
}
