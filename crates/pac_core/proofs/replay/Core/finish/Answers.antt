-- One less is left where the result is kept.
use Rattle.std.proofs.Common.{◌≡◌, ◌+◌, subst}
use Rattle.pac_core.specs.Calls.{handed_in_by}
use Rattle.pac_core.specs.Links.{core_of}
use Rattle.pac_core.specs.Replay.{Replay, left}
use Rattle.pac_core.proofs.LeftPieces.{left_handed_in}
use Rattle.pac_core.proofs.replay.Core.finish.Goals as goal

pub returns-clause-left : goal.returns-clause-left
returns-clause-left g c =
    let new : Replay = core_of c.hand_in.new.progress c.hand_in.new.rows in
    subst (λ (r : Replay). left r ≡ left new + handed_in_by c.hand_in.result) c.self.view_is
    (left_handed_in c.self.inside.progress c.self.inside.rows c.self.invariant c.args.done new c.hand_in.result c.hand_in.ensures.answer)
