-- A later access that conflicts is added, and any other left out.
use Rattle.std.proofs.Common.{◌≡◌, ◌<◌, ◌+◌, ◌++◌, ℕ, List, length, sym, ap, ap₂, ◌∙◌, subst, arith}
use Rattle.std.proofs.lemmas.List.Elements.{All-push}
use Rattle.pac_plan.specs.Pairs.{AreEarlierLater}
use Rattle.pac_plan.specs.Pieces.{conflicts}
use Rattle.pac_batch.specs.Conflicts.{access_in, numbers_between, pairs_with}
use Rattle.pac_batch.proofs.RangeLemmas.{one_in, one_out, access_here}
use Rattle.pac_batch.proofs.pairs.add_later.Goals as goal
use Rattle.pac_batch.proofs.pairs.add_later.Goals.{then-conflict+in_ok-push, else-conflict}

pub loop-j-preserved : goal.loop-j-preserved
loop-j-preserved c =
    let xs = c.args.accesses.now in
    let i = c.args.i in
    let j = c.loop-j.j in
    let inside : j < length xs = c.loop-j-test.true in
    let same : conflicts c.index-accesses-i.result c.index-accesses-j.result ≡ conflicts (access_in xs i) (access_in xs j) =
    ap₂ conflicts (access_here xs i c.index-accesses-i.result c.requires.inside c.index-accesses-i.is) (access_here xs j c.index-accesses-j.result inside c.index-accesses-j.is) in
    elim c.if-conflict.branch [
      | then-conflict+in_ok-push w ↦
          let items = ap (λ (v : _). v.items) w.pairs-is ∙ w.in_ok-push.ensures.items in
          record {
            order = subst (λ (ps : List (ℕ × ℕ)). AreEarlierLater ps) (sym items) (All-push (λ (pair : ℕ × ℕ). pair.0 < pair.1) c.loop-j.pairs.items (i, j) c.loop-j.invariant.order (omega arith));
            all = ap (λ (ps : List (ℕ × ℕ)). ps ++ pairs_with xs i (numbers_between (j + 1) (length xs))) items
                ∙ one_in (λ k. conflicts (access_in xs i) (access_in xs k)) (λ k. (i, k)) j (length xs) inside c.loop-j.pairs.items (sym same ∙ sym c.conflict.ensures ∙ w.if-conflict.true)
                ∙ c.loop-j.invariant.all;
          }
      | else-conflict w ↦
          let items = ap (λ (v : _). v.items) w.pairs-is in
          record {
            order = subst (λ (ps : List (ℕ × ℕ)). AreEarlierLater ps) (sym items) c.loop-j.invariant.order;
            all = ap (λ (ps : List (ℕ × ℕ)). ps ++ pairs_with xs i (numbers_between (j + 1) (length xs))) items
                ∙ one_out (λ k. conflicts (access_in xs i) (access_in xs k)) (λ k. (i, k)) j (length xs) inside c.loop-j.pairs.items (sym same ∙ sym c.conflict.ensures ∙ w.if-conflict.false)
                ∙ c.loop-j.invariant.all;
          }
    ]
