-- Only that no more come is changed.
use Rattle.pac_core.proofs.CoreLoads.{closed_core}
use Rattle.pac_core.proofs.replay.Core.close.Goals as goal

pub invariant_of-self : goal.invariant_of-self
invariant_of-self g c = closed_core c.self.inside.progress c.self.inside.rows c.self.invariant
