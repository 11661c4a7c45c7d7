-- One less is left where a piece was run on the spot.
use Rattle.std.proofs.Common.{◌≡◌, ◌+◌, subst}
use Rattle.std.specs.Prelude.{IfOk}
use Rattle.pac_core.specs.Calls.{run_by}
use Rattle.pac_core.specs.Links.{core_of}
use Rattle.pac_core.specs.Replay.{Replay, left}
use Rattle.pac_core.proofs.LeftPieces.{left_taken}
use Rattle.pac_core.proofs.replay.Core.take.Goals as goal

pub returns-clause-left : goal.returns-clause-left
returns-clause-left g c =
    let old : Replay = core_of c.self.inside.progress c.self.inside.rows in
    let new : Replay = core_of c.take_next.new.progress c.take_next.new.rows in
    subst (λ (r : Replay). IfOk c.take_next.result (λ take. left r ≡ left new + run_by take)) c.self.view_is (left_taken old new c.take_next.result c.take_next.ensures.ok)
