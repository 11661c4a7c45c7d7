-- All pieces were put back.
use Rattle.std.proofs.Common.{arith}
use Rattle.pac_sched.proofs.OpeningLemmas.{all_back}
use Rattle.pac_sched.proofs.sched.Sched.reclaim.Goals as goal

pub returns : goal.returns
returns c = all_back c.loop-i.self c.args.self.now c.loop-i.invariant.pieces c.loop-i.invariant.pairs c.loop-i.invariant.len (λ k d kl. c.loop-i.invariant.done k d (omega arith) kl)
