-- At first no list is looked at.
use Rattle.std.proofs.Common.{◌∙◌, ap, length, drop, arith}
use Rattle.std.specs.FinMap.{get, get-empty}
use Rattle.pac_value.specs.State.{cell_cmp}
use Rattle.pac_tuple.specs.Shares.{LastRows}
use Rattle.pac_tuple.proofs.ShareLemmas.{drop-all, no_list_yet}
use Rattle.pac_tuple.proofs.last.LastImages.of_share.Goals as goal

pub loop-at-init : goal.loop-at-init
loop-at-init c =
    let lists = c.as_slice-lists.result.now in
    record {
      found = λ q. ap (λ (m : LastRows). get m q) c.new-last.ensures ∙ get-empty cell_cmp q ∙ no_list_yet c.args.share.now (drop (length lists) lists) q (drop-all lists);
      within = omega arith;
    }
