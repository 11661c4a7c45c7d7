-- Nothing is loaded.
use Rattle.std.proofs.Common.{subst, ◌∙◌}
use Rattle.pac_plan.specs.Analysis.{IsPlan}
use Rattle.pac_core.proofs.CoreLoads.{opening_core, opening_core_is}
use Rattle.pac_core.proofs.replay.Core.with_code.Goals as goal

pub invariant_of-result : goal.invariant_of-result
invariant_of-result g c =
    let is : IsPlan c.args.plan = subst IsPlan (c.plan.ensures ∙ c.get.ensures) c.is_plan.ensures in
    opening_core c.args.plan is c.args.first (g.R.Rows.held c.args.tables) c.requires.fit c.in_ok-progress.progress c.in_ok-progress.ensures c.new-rows.result _ c.new-rows.ensures c.requires.tables

pub returns : goal.returns
returns g c =
    let is : IsPlan c.args.plan = subst IsPlan (c.plan.ensures ∙ c.get.ensures) c.is_plan.ensures in
    opening_core_is c.args.plan is c.args.first (g.R.Rows.held c.args.tables) c.requires.fit c.in_ok-progress.progress c.in_ok-progress.ensures c.new-rows.result _ c.new-rows.ensures c.requires.tables
