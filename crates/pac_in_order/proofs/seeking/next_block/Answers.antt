-- It is looked for from that block on.
use Rattle.std.proofs.Common.{subst}
use Rattle.pac_in_order.specs.Lines.{IsFirstBlock}
use Rattle.pac_in_order.proofs.seeking.next_block.Goals as goal

pub returns-clause-first : goal.returns-clause-first
returns-clause-first g c = subst (λ n. IsFirstBlock c.args.plan.now c.args.txn.now n c.first_block.result) c.in_ok-from.ensures.from c.first_block.ensures
