-- The pairs of one entry more are added, and at the end they are all.
use Rattle.std.proofs.Common.{◌≡◌, ℕ, ◌↔◌, length, subst, arith}
use Rattle.std.specs.Prelude.{Contains}
use Rattle.pac_batch.specs.Queues.{AreJoinedBelow}
use Rattle.pac_batch.proofs.AddedLemmas.{below_next}
use Rattle.pac_batch.proofs.next_pairs.joined.Goals as goal

pub loop-end-preserved : goal.loop-end-preserved
loop-end-preserved c =
    let few = c.in_ok-start.ensures.few in
    let so_far = c.loop-end.invariant.few in
    record {
      start = c.in_ok-start.ensures.start;
      pairs = below_next c.args.queued.now c.loop-end.end _ _ c.loop-end.invariant.pairs c.in_ok-start.ensures.pairs;
      few = omega (arith, few, so_far);
    }

pub returns-clause-pairs : goal.returns-clause-pairs
returns-clause-pairs c =
    let done = c.loop-end-test.false in
    let most = c.loop-end.auto.end-end in
    let all : c.loop-end.end ≡ length c.args.queued.now = omega (arith, done, most) in
    subst (λ n. (i j : ℕ) → Contains c.loop-end.pairs.items (i, j) ↔ AreJoinedBelow c.args.queued.now n i j) all c.loop-end.invariant.pairs
