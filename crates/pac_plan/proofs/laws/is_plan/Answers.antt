-- The type keeps it.
use Rattle.std.proofs.Common.{subst}
use Rattle.pac_plan.specs.Analysis.{IsPlan}
use Rattle.pac_plan.proofs.laws.is_plan.Goals as goal

pub returns : goal.returns
returns c = subst (λ parts. IsPlan parts) c.plan.view_is c.plan.invariant
