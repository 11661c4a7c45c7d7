-- The pairs of one more access are added.
use Rattle.std.proofs.Common.{◌+◌, ◌++◌, ℕ, List, length, ap, ◌∙◌}
use Rattle.std.specs.List.{flat_map}
use Rattle.pac_batch.specs.Conflicts.{numbers_between, pairs_with}
use Rattle.pac_batch.proofs.RangeLemmas.{all_of_one}
use Rattle.pac_batch.proofs.pairs.preds.Goals as goal

pub loop-i-preserved : goal.loop-i-preserved
loop-i-preserved c =
    let xs = c.args.accesses.now in
    let i = c.loop-i.i in
    record {
      order = c.in_ok-add_later.ensures.order;
      all = ap (λ (ps : List (ℕ × ℕ)). ps ++ flat_map (λ k. pairs_with xs k (numbers_between (k + 1) (length xs))) (numbers_between (i + 1) (length xs))) c.in_ok-add_later.ensures.pairs
          ∙ all_of_one (λ k. pairs_with xs k (numbers_between (k + 1) (length xs))) i (length xs) c.loop-i-test.true c.loop-i.pairs.items
          ∙ c.loop-i.invariant.all;
    }
