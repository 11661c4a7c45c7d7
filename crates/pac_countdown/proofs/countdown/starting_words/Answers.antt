-- One more pair is one more in the word of its later piece.
use Rattle.std.proofs.Common.{◌≡◌, ◌∙◌, length-set, length-take-le, get_or, take, arith}
use Rattle.pac_countdown.proofs.Sums.{inside_default}
use Rattle.pac_countdown.proofs.Starts.{one_more, pairs_to_most}
use Rattle.pac_countdown.proofs.countdown.starting_words.Goals as goal

pub overflow_add-index_mut : goal.overflow_add-index_mut
overflow_add-index_mut c =
    let pairs = c.args.pairs.now in
    let k = c.loop-pair.pair-index in
    let inside = c.loop-pair-test.true in
    let few = c.requires.few in
    let len = c.loop-pair.invariant.len in
    let small = c.requires.within k (0, 0) inside in
    let counts = c.loop-pair.invariant.counts (get_or pairs k (0, 0)).1 small in
    let most = pairs_to_most (get_or pairs k (0, 0)).1 (take k pairs) in
    let short = length-take-le k pairs in
    let is : c.index_mut.result.now ≡ get_or c.loop-pair.words.items (get_or pairs k (0, 0)).1 0 =
    c.index_mut.ensures.value ∙ inside_default c.loop-pair.words.items (get_or pairs k (0, 0)).1 c.index_mut.result.now 0 (omega arith) in omega arith

pub loop-pair-preserved : goal.loop-pair-preserved
loop-pair-preserved c =
    let pairs = c.args.pairs.now in
    let k = c.loop-pair.pair-index in
    let inside = c.loop-pair-test.true in
    let len = c.loop-pair.invariant.len in
    let small = c.requires.within k (0, 0) inside in
    let value = c.index_mut.ensures.value in record {
      len = length-set _ _ _ ∙ len;
      counts = one_more pairs c.loop-pair.words.items c.args.pieces k c.index_mut.result.now inside len small c.loop-pair.invariant.counts
          (value ∙ inside_default c.loop-pair.words.items (get_or pairs k (0, 0)).1 c.index_mut.result.now 0 (omega arith));
    }
