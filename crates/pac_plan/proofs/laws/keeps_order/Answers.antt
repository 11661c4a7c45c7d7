-- It follows from the analysis and from programs that are well-formed.
use Rattle.pac_plan.proofs.OrderLemmas.{order_kept}
use Rattle.pac_plan.proofs.laws.keeps_order.Goals as goal

pub returns : goal.returns
returns c = order_kept c.args.plan.now c.is_plan.ensures
