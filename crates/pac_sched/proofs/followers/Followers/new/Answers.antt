-- One more pair is linked.
use Rattle.std.proofs.Common.{◌<◌, ℕ, length, ap, ◌∙◌, Some, arith}
use Rattle.std.proofs.lemmas.Grind.{common_steps}
use Rattle.std.proofs.lemmas.List.{length-set}
use Rattle.pac_sched.proofs.FollowerLemmas.{links_more, heads_kept}
use Rattle.pac_sched.proofs.followers.Followers.new.Goals as goal

pub loop-k-preserved : goal.loop-k-preserved
loop-k-preserved c = let inside : c.index.result.now.0 < length c.loop-k.last.items = omega (arith, c.requires c.loop-k.k c.index.result.now (omega arith), ap (λ (pair : ℕ × ℕ). pair.0) c.index.ensures, c.loop-k.invariant.all) in record {
  len = grind (arith, common_steps);
  all = length-set c.loop-k.last.items c.index.result.now.0 (Some c.loop-k.k) ∙ c.loop-k.invariant.all;
  links = links_more c.args.pairs.items c.loop-k.previous.items c.loop-k.last.items c.push.new.self.items c.loop-k.k c.index.result.now.0 c.index.result.now c.index-in-loop-k.result.now
      (omega arith) c.loop-k.invariant.len (ap (λ (pair : ℕ × ℕ). pair.0) c.index.ensures) inside c.index-in-loop-k.ensures c.in_ok-push.ensures.items c.loop-k.invariant.links (λ i d lt. c.loop-k.invariant.heads i d (omega arith));
  heads = heads_kept c.args.pairs.items c.loop-k.last.items c.args.len c.loop-k.k c.index.result.now.0 c.index.result.now c.loop-k.invariant.all
      (omega arith) (ap (λ (pair : ℕ × ℕ). pair.0) c.index.ensures) inside c.loop-k.invariant.heads;
}
