-- The parts are a plan's, so edges lead to higher numbers and make no cycle.
use Rattle.std.proofs.Common.{sym, subst}
use Rattle.pac_plan.specs.Analysis.{IsAnalysis}
use Rattle.pac_global.proofs.PlanLemmas.{edges_rise, no_way_back}
use Rattle.pac_global.proofs.plan.global.Goals as goal

pub returns-clause-rises : goal.returns-clause-rises
returns-clause-rises c = edges_rise c.new.result (subst (λ parts. IsAnalysis parts) (sym c.new.ensures) c.in_ok-parts_of.ensures.plan.analysis)

pub returns-clause-acyclic : goal.returns-clause-acyclic
returns-clause-acyclic c = no_way_back c.new.result (subst (λ parts. IsAnalysis parts) (sym c.new.ensures) c.in_ok-parts_of.ensures.plan.analysis)
