-- The pieces of the sets so far are counted.
use Rattle.std.proofs.Common.{◌≡◌, length, sum_by, take}
use Rattle.pac_batch.specs.declared.piece_set.PieceSet.{PieceSet}
use Rattle.pac_core.proofs.loading.count.Given as goal

abbrev pub invariant-loop-set : goal.invariant-loop-set
invariant-loop-set l = l.pieces ≡ sum_by (λ (set : PieceSet). length set.txns) (take l.set-index l.sets)
