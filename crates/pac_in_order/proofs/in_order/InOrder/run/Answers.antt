-- One piece more, or the end.
use Rattle.pac_in_order.proofs.Executing.{ran_none}
use Rattle.pac_in_order.proofs.in_order.InOrder.run.Goals as goal

pub loop-pieces-init : goal.loop-pieces-init
loop-pieces-init g c = ran_none c.args.self.now
