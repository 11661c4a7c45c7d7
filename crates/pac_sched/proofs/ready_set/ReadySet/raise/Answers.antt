-- One flag more is raised, and the tree is settled anew.
use Rattle.std.proofs.Common.{true, arith}
use Rattle.std.proofs.lemmas.Grind.{common_steps}
use Rattle.pac_sched.proofs.TreeLemmas.{changed_tree, one_more}
use Rattle.pac_sched.proofs.ready_set.ReadySet.raise.Goals as goal

pub invariant_of-self : goal.invariant_of-self
invariant_of-self c = changed_tree c.self.inside.flags.items c.self.inside.firsts.items c.settle.new.firsts _ c.self.inside.firsts.len c.len-len.result c.args.i _ c.args.i true
    (grind (arith, common_steps)) (grind (arith, common_steps)) c.settle.ensures.len (grind (arith, common_steps)) (grind (arith, common_steps)) c.self.invariant.leaves c.settle.ensures.leaf
    (rw c.deref_mut.ensures.value at c.settle.ensures.leaves) c.settle.ensures.settled
    (one_more c.self.inside.flags.items c.args.i c.self.inside.raised (grind (arith, common_steps)) (rw c.self.view_is c.requires.lowered) c.self.invariant.counted)
