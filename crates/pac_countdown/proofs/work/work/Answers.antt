-- Each piece's pairs are counted in turn.
use Rattle.std.proofs.Common.{◌≡◌, ℕ, ◌<◌, List, [], ◌++◌, length, get_or, take, sym, ap, ◌∙◌, subst, arith}
use Rattle.pac_countdown.specs.Lists.{times_in, pair_times}
use Rattle.pac_countdown.specs.Counted.{agenda_pairs}
use Rattle.pac_countdown.specs.HandOut.{paired, pairs_from, pairs_of_all}
use Rattle.pac_countdown.proofs.Sums.{inside_default}
use Rattle.pac_countdown.proofs.Hands.{times_at, fresh_at, all_other, all_on, longer}
use Rattle.pac_countdown.proofs.work.work.Goals as goal

pub count_from-requires-clause-from : goal.count_from-requires-clause-from
count_from-requires-clause-from c =
    let items = c.loop-at.worker.pieces.items in
    let from = c.index-from.result.now in
    subst (λ (p : ℕ). 0 < times_in p items) (sym c.index-from.ensures) (times_at items c.loop-at.at from (omega arith))

pub count_from-requires-clause-new : goal.count_from-requires-clause-new
count_from-requires-clause-new c = λ t.
    let items = c.loop-at.worker.pieces.items in
    let from = c.index-from.result.now in
    ap (pair_times (from, t)) c.loop-at.invariant.counted
    ∙ all_other (agenda_pairs c.args.countdown.now.agenda) from t (take c.loop-at.at items)
    (subst (λ (p : ℕ). times_in p (take c.loop-at.at items) ≡ 0) (sym c.index-from.ensures) (fresh_at items c.loop-at.at from c.loop-at.invariant.held.distinct.differ (omega arith)))

-- the piece is one of those that there are
below_pieces : (n : ℕ) (items : List ℕ) (k d p : ℕ) → ((q : ℕ) → 0 < times_in q items → q < n) → k < length items → p ≡ get_or items k d → p < n
below_pieces n items k d p few h is = subst (λ (q : ℕ). q < n) (sym is) (few (get_or items k d) (times_at items k d h))

pub bounds-laters-from : goal.bounds-laters-from
bounds-laters-from c =
    let items = c.loop-at.worker.pieces.items in
    let below = below_pieces c.args.countdown.now.agenda.pieces items c.loop-at.at c.index-from.result.now c.index-from.result.now c.loop-at.invariant.held.distinct.few (omega arith) c.index-from.ensures in
    let len = c.requires.laters.0 in omega arith

pub count_from-requires-clause-laters : goal.count_from-requires-clause-laters
count_from-requires-clause-laters c =
    let items = c.loop-at.worker.pieces.items in
    let laters = c.args.laters.now in
    let from = c.index-from.result.now in
    let list = c.index-laters-from.result in
    let below = below_pieces c.args.countdown.now.agenda.pieces items c.loop-at.at from from c.loop-at.invariant.held.distinct.few (omega arith) c.index-from.ensures in
    let len = c.requires.laters.0 in
    ap (paired from) (c.as_slice-list.ensures ∙ c.index-laters-from.is ∙ inside_default laters from list [] (omega arith)) ∙ c.requires.laters.1 from below

pub loop-at-preserved : goal.loop-at-preserved
loop-at-preserved c =
    let items = c.loop-at.worker.pieces.items in
    let from = c.index-from.result.now in
    let pairs = agenda_pairs c.args.countdown.now.agenda in
    let done = c.in_ok-count_from.ensures in record {
      held = done.held;
      inside = longer items c.count_from.new.worker.pieces.items c.loop-at.at (omega arith) done.grows;
      counted = done.counted ∙ ap (λ (l : List (ℕ × ℕ)). l ++ pairs_from pairs from) c.loop-at.invariant.counted
          ∙ ap (λ (p : ℕ). pairs_of_all pairs (take c.loop-at.at items) ++ pairs_from pairs p) c.index-from.ensures
          ∙ sym (all_on pairs items c.count_from.new.worker.pieces.items c.loop-at.at from (omega arith) done.grows);
    }
