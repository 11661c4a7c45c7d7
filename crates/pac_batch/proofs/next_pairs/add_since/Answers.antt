-- The pair of one entry more was added.
use Rattle.std.proofs.Common.{◌≡◌, ◌<◌, sym, subst, arith}
use Rattle.pac_batch.specs.declared.queues.Queued.{Queued}
use Rattle.pac_batch.specs.Queues.{entry, IsPairOf, IsPairSince, ArePairsAdded}
use Rattle.pac_batch.proofs.QueueMembers.{entry_here}
use Rattle.pac_batch.proofs.AddedLemmas.{added_more}
use Rattle.pac_batch.proofs.next_pairs.add_since.Goals as goal

pub loop-p-preserved : goal.loop-p-preserved
loop-p-preserved c =
    let queued = c.args.queued.now in
    let end = c.args.end in
    let p = c.loop-p.p in
    let below : p < end = c.loop-p-test.true in
    let inside = c.requires.inside in
    let few = c.in_ok-add_pair.ensures.few in
    let start = c.requires.within in
    let so_far = c.loop-p.invariant.few in
    let from = c.loop-p.auto.p in
    let one : entry queued p ≡ c.index-queued-p.result = entry_here queued p c.index-queued-p.result (omega (arith, below, inside)) c.index-queued-p.is in
    let other : entry queued end ≡ c.index-queued-end.result = entry_here queued end c.index-queued-end.result inside c.index-queued-end.is in
    record {
      pairs = added_more queued c.args.start p end _ _ _ from
          c.loop-p.invariant.pairs
          (subst (λ (x : Queued). ArePairsAdded c.loop-p.pairs.items c.add_pair.new.pairs.items (IsPairOf x (entry queued end))) (sym one)
          (subst (λ (x : Queued). ArePairsAdded c.loop-p.pairs.items c.add_pair.new.pairs.items (IsPairOf c.index-queued-p.result x)) (sym other) c.in_ok-add_pair.ensures.pairs));
      few = omega (arith, few, so_far, from);
    }

pub returns-clause-pairs : goal.returns-clause-pairs
returns-clause-pairs c =
    let le = c.requires.within in
    let done = c.loop-p-test.false in
    let most = c.loop-p.auto.p-end le in
    let all : c.loop-p.p ≡ c.args.end = omega (arith, done, most) in
    subst (λ n. ArePairsAdded c.args.pairs.now.items c.loop-p.pairs.items (IsPairSince c.args.queued.now c.args.start n c.args.end)) all c.loop-p.invariant.pairs
