-- The pairs that the queues join are the next pairs, each of an earlier and a later access.
use Rattle.std.proofs.Common.{◌≡◌, ◌<◌, ◌↔◌, ℕ, List, length, get_or, sym, ap, ◌∙◌, subst, arith}
use Rattle.std.specs.Prelude.{Contains}
use Rattle.std.proofs.lemmas.List.Elements.{Contains-get_or}
use Rattle.std.proofs.lemmas.List.Sorted.{length_permutation}
use Rattle.pac_batch.specs.declared.queues.Queued.{Queued}
use Rattle.pac_batch.specs.Queues.{AreJoinedBelow, queued_all}
use Rattle.pac_batch.specs.NextLists.{AreNextPairs}
use Rattle.pac_batch.proofs.NextQueued.{next_pairs}
use Rattle.pac_batch.proofs.QueueCounts.{count_entries}
use Rattle.pac_batch.proofs.next_pairs.queue_preds.Goals as goal

earlier : (i j : ℕ) → (queued : List Queued) (end : ℕ) → AreJoinedBelow queued end i j → i < j
earlier i j queued end (q, within, (p, next, e, f)) = let lt = next.earlier in omega (arith, lt, e, f)

pub new-requires : goal.new-requires
new-requires c = λ k d within.
    let pair = get_or c.order.new.pairs.items k d in
    earlier pair.0 pair.1 c.deref.result.now (length c.deref.result.now)
    ((c.in_ok-pairs.ensures.pairs pair.0 pair.1).0 ((c.order.ensures.same pair.0 pair.1).0 (Contains-get_or c.order.new.pairs.items k d within)))

pub returns-clause-next : goal.returns-clause-next
returns-clause-next c =
    let queued = c.in_ok-queued.queued.items in
    let accesses = c.args.accesses.now in
    let found = subst (λ (q : List Queued). (i j : ℕ) → Contains c.in_ok-pairs.pairs.items (i, j) ↔ AreJoinedBelow q (length q) i j) c.deref.ensures.value c.in_ok-pairs.ensures.pairs in
    let are = next_pairs accesses queued c.in_ok-queued.ensures.moved c.in_ok-queued.ensures.order in
    let listed : AreNextPairs accesses c.order.new.pairs.items = record {
      each = λ i j. (
        (λ h. (are i j).0 ((found i j).0 ((c.order.ensures.same i j).0 h))),
        (λ h. (c.order.ensures.same i j).1 ((found i j).1 ((are i j).1 h))),
      );
      ascending = c.order.ensures.ascending;
    } in
    subst (λ (ps : List (ℕ × ℕ)). AreNextPairs accesses ps) (sym c.new.ensures) listed

pub returns-clause-few : goal.returns-clause-few
returns-clause-few c =
    let entries : length c.deref.result.now ≡ length (queued_all c.args.accesses.now) = ap length c.deref.ensures.value ∙ length_permutation _ _ c.in_ok-queued.ensures.moved in
    let most = count_entries c.args.accesses.now in
    let joined = c.in_ok-pairs.ensures.few in
    let kept = c.order.ensures.few in
    let made : length c.new.result ≡ length c.order.new.pairs.items = ap (λ (ps : List (ℕ × ℕ)). length ps) c.new.ensures in
    omega (arith, entries, most, joined, kept, made)
