-- One pair more goes to the list of its earlier piece.
use Rattle.std.proofs.Common.{◌≡◌, ◌+◌, [], List, ℕ, length, get_or, set, take, subst, sym, ◌∙◌, arith}
use Rattle.pac_countdown.specs.HandOut.{AreLaters}
use Rattle.pac_countdown.proofs.Sums.{inside_default}
use Rattle.pac_countdown.proofs.PairedLists.{one_later}
use Rattle.pac_countdown.proofs.laters.laters_of.Goals as goal

pub loop-pair-preserved : goal.loop-pair-preserved
loop-pair-preserved c =
    let pairs = c.args.pairs.now in
    let n = c.args.pieces in
    let k = c.loop-pair.pair-index in
    let before = c.loop-pair.laters in
    let inv = c.loop-pair.invariant in
    let few = c.requires.within k (0, 0) c.loop-pair-test.true in
    let len : length before.items ≡ n = (let ok = before.ok in omega arith) in record {
      len = inv.len;
      are = subst (λ (l : List ℕ). AreLaters (take (k + 1) pairs) n (set before.items (get_or pairs k (0, 0)).0 l)) (sym c.in_ok-push.ensures.ok)
          (one_later pairs n k before.items c.index_mut.result.now c.loop-pair-test.true len few inv.are (c.index_mut.ensures.value ∙ inside_default before.items (get_or pairs k (0, 0)).0 c.index_mut.result.now [] (omega arith)));
    }
