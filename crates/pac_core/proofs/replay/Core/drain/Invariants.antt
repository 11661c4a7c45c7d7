-- The same is loaded, and no piece is out.
use Rattle.pac_core.specs.Calls.{IsDrained}
use Rattle.pac_core.specs.Replay.{left}
use Rattle.pac_core.proofs.replay.Core.drain.Given as goal

abbrev pub invariant-loop-self : goal.invariant-loop-self
invariant-loop-self g l = IsDrained l.fn.self l.self

abbrev pub decreases-loop-self : goal.decreases-loop-self
decreases-loop-self g l = left l.self
