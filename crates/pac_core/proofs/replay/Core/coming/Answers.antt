-- It is that of what the parts stand for.
use Rattle.std.proofs.Common.{subst}
use Rattle.std.specs.Prelude.{IfOk}
use Rattle.pac_core.specs.Replay.{Replay}
use Rattle.pac_core.specs.Takes.{IsNextPiece}
use Rattle.pac_core.proofs.replay.Core.coming.Goals as goal

pub returns-clause-next : goal.returns-clause-next
returns-clause-next g c = subst (λ (r : Replay). IfOk c.coming.result (IsNextPiece r)) c.self.view_is c.coming.ensures.next
