-- None is out any more.
use Rattle.std.proofs.Common.{refl, ap, ◌∙◌}
use Rattle.pac_core.specs.Replay.{with_none_out}
use Rattle.pac_core.proofs.ReclaimedCore.{reclaimed_core, reclaimed_is}
use Rattle.pac_core.proofs.SeenSets.{seen_anew}
use Rattle.pac_core.proofs.replay.Core.take_back.Goals as goal

pub invariant_of-self : goal.invariant_of-self
invariant_of-self g c =
    let p = c.self.inside.progress in
    let u = c.self.inside.rows in
    reclaimed_core (record p { recent = 0 }) u (seen_anew p u c.self.invariant) refl c.reclaim.new.self c.reclaim.ensures

pub returns : goal.returns
returns g c =
    let p = c.self.inside.progress in
    let u = c.self.inside.rows in
    reclaimed_is (record p { recent = 0 }) u (seen_anew p u c.self.invariant) refl c.reclaim.new.self c.reclaim.ensures ∙ ap with_none_out c.self.view_is
