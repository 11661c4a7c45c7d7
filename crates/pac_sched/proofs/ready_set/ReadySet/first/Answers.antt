-- The root has the first raised flag.
use Rattle.std.proofs.Common.{◌∙◌, arith}
use Rattle.std.proofs.lemmas.List.{get_or_default}
use Rattle.std.proofs.lemmas.Grind.{common_steps}
use Rattle.pac_sched.proofs.TreeLemmas.{found, not_found}
use Rattle.pac_sched.proofs.ready_set.ReadySet.first.Goals as goal

pub returns-then-first-len : goal.returns-then-first-len
returns-then-first-len c = rw (← c.self.view_is) (found c.self.inside.flags.items c.self.inside.firsts.items c.self.invariant.leaves c.self.invariant.settled c.index-first.result.now (c.index-first.ensures ∙ get_or_default c.self.inside.firsts.items 1 c.index-first.result.now 0 (grind (arith, common_steps))) (grind (arith, common_steps)))

pub returns-else-first-len : goal.returns-else-first-len
returns-else-first-len c = rw (← c.self.view_is) (not_found c.self.inside.flags.items c.self.inside.firsts.items c.self.invariant.leaves c.self.invariant.settled c.index-first.result.now (c.index-first.ensures ∙ get_or_default c.self.inside.firsts.items 1 c.index-first.result.now 0 (grind (arith, common_steps))) (grind (arith, common_steps)) (grind (arith, common_steps)))
