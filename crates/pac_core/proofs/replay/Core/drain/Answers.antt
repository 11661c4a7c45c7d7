-- One step more, while any is left.
use Rattle.std.proofs.Common.{refl}
use Rattle.pac_core.proofs.DrainSteps.{drained_then}
use Rattle.pac_core.proofs.replay.Core.drain.Goals as goal

pub loop-self-init : goal.loop-self-init
loop-self-init g c = record { job = refl; batches = refl; closed = refl; none = c.requires.none; kept = λ p e. e }

pub loop-self-preserved : goal.loop-self-preserved
loop-self-preserved g c = drained_then c.args.self.now c.loop-self.self c.step.new.self c.loop-self.invariant c.in_ok-step.ensures.drained
