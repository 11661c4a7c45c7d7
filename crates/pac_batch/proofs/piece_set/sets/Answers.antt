-- A block with a piece is added, and any other left out.
use Rattle.std.proofs.Common.{◌≡◌, ◌<◌, ◌+◌, ◌-◌, ◌++◌, List, [], ◌∷◌, map, sym, ap, ◌∙◌}
use Rattle.std.specs.List.{filter, range_with_len}
use Rattle.pac_ops.specs.declared.transaction.Txn.{Txn}
use Rattle.pac_batch.specs.declared.piece_set.PieceSet.{PieceSet}
use Rattle.pac_batch.specs.Sets.{has_txns, set_of}
use Rattle.pac_batch.proofs.RangeLemmas.{item_in, item_out}
use Rattle.pac_batch.proofs.piece_set.sets.Goals as goal
use Rattle.pac_batch.proofs.piece_set.sets.Goals.{then-has_txns+in_ok-push, else-has_txns}

pub loop-block-preserved : goal.loop-block-preserved
loop-block-preserved c =
    let code = c.args.code.now in
    let first = c.args.batch.now.first in
    let txns = c.args.batch.now.txns in
    let block = c.loop-block.block in
    let end = c.blocks-block-end.result in
    let inside : block < end = c.loop-block-test.true in
    let is : c.in_ok-set.set ≡ set_of code first txns block = c.in_ok-set.ensures ∙ ap (λ (ts : List Txn). set_of code first ts block) c.items-txns.ensures.value in
    elim c.if-has_txns.branch [
      | then-has_txns+in_ok-push w ↦
          ap (λ (v : _). v.items ++ filter has_txns (map (set_of code first txns) (range_with_len (block + 1) (end - (block + 1))))) w.sets-is
          ∙ ap (λ (xs : List PieceSet). xs ++ filter has_txns (map (set_of code first txns) (range_with_len (block + 1) (end - (block + 1))))) (w.in_ok-push.ensures.items ∙ ap (λ (set : PieceSet). c.loop-block.sets.items ++ set ∷ []) is)
          ∙ item_in has_txns (set_of code first txns) block end inside c.loop-block.sets.items (ap has_txns (sym is) ∙ sym c.has_txns.ensures ∙ w.if-has_txns.true)
          ∙ c.loop-block.invariant
      | else-has_txns w ↦
          ap (λ (v : _). v.items ++ filter has_txns (map (set_of code first txns) (range_with_len (block + 1) (end - (block + 1))))) w.sets-is
          ∙ item_out has_txns (set_of code first txns) block end inside c.loop-block.sets.items (ap has_txns (sym is) ∙ sym c.has_txns.ensures ∙ w.if-has_txns.false)
          ∙ c.loop-block.invariant
    ]
