-- The leaf unsettles its parent, and each node that is settled its own.
use Rattle.std.proofs.Common.{◌+◌, ◌∙◌, arith}
use Rattle.std.proofs.lemmas.List.{length-set, get_or-set_same, get_or-set_other}
use Rattle.pac_sched.proofs.TreeLemmas.{settled_above, settled_but}
use Rattle.pac_sched.proofs.ready_set.settle.Goals as goal

pub loop-node-init : goal.loop-node-init
loop-node-init c = record {
  len = length-set c.args.firsts.now (c.args.len + c.args.i) c.args.now ∙ c.requires.len;
  inside = omega arith;
  leaf = get_or-set_same c.args.firsts.now (c.args.len + c.args.i) c.args.now 0 (omega arith);
  leaves = λ j lt ne. get_or-set_other c.args.firsts.now (c.args.len + c.args.i) (c.args.len + j) c.args.now 0 (λ h. absurd (ne (omega arith)));
  others = settled_but c.args.firsts.now c.args.len c.args.i c.args.now c.requires.inside c.requires.settled;
}

pub loop-node-preserved : goal.loop-node-preserved
loop-node-preserved c = record {
  len = length-set c.loop-node.firsts c.loop-node.node c.min-first.result ∙ c.loop-node.invariant.len;
  inside = omega arith;
  leaf = get_or-set_other c.loop-node.firsts c.loop-node.node (c.args.len + c.args.i) c.min-first.result 0 (λ h. absurd (omega arith)) ∙ c.loop-node.invariant.leaf;
  leaves = λ j lt ne. get_or-set_other c.loop-node.firsts c.loop-node.node (c.args.len + j) c.min-first.result 0 (λ h. absurd (omega arith)) ∙ c.loop-node.invariant.leaves j lt ne;
  others = settled_above c.loop-node.firsts c.args.len c.loop-node.node c.min-first.result (omega arith) (omega arith) c.loop-node.invariant.len c.min-first.ensures c.loop-node.invariant.others;
}
