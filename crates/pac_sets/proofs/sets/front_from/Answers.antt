-- The first that passes is found, and none where the loop ends.
use Rattle.std.proofs.Common.{sym, ◌∙◌}
use Rattle.pac_sets.specs.Sets.{is_unfinished_in}
use Rattle.pac_sets.proofs.FrontLemmas.{first_found, fails_next, none_found}
use Rattle.pac_sets.proofs.sets.front_from.Goals as goal

pub returns-then-is_unfinished_in : goal.returns-then-is_unfinished_in
returns-then-is_unfinished_in g c =
    first_found (is_unfinished_in c.args.block) c.args.sets.now c.loop-at.at c.index-sets-at.result c.loop-at.invariant c.index-sets-at.is c.loop-at-test.true (sym c.is_unfinished_in.ensures ∙ c.if-is_unfinished_in.true)

pub loop-at-preserved : goal.loop-at-preserved
loop-at-preserved g c =
    fails_next (is_unfinished_in c.args.block) c.args.sets.now c.loop-at.at c.index-sets-at.result c.loop-at.invariant c.index-sets-at.is (sym c.is_unfinished_in.ensures ∙ c.if-is_unfinished_in.false)

pub returns : goal.returns
returns g c = none_found (is_unfinished_in c.args.block) c.args.sets.now c.loop-at.at c.loop-at.invariant c.loop-at-test.false
