-- By what the type keeps.
use Rattle.std.proofs.Common.{subst}
use Rattle.pac_core.specs.Calls.{HasReadyPiece}
use Rattle.pac_core.specs.Events.{HasEvents, IsSound, OwnIsWork}
use Rattle.pac_core.specs.Links.{IsCore, core_of}
use Rattle.pac_core.specs.declared.progress.Progress.{Progress}
use Rattle.pac_undo.specs.Undo.{Undoable}
use Rattle.pac_core.proofs.DrainSteps.{has_ready}
use Rattle.pac_core.proofs.MachineEvents.{has_events}
use Rattle.pac_core.proofs.OwnWork.{own_is_work}
use Rattle.pac_core.proofs.replay.Core.keeps_invariant.Goals as goal

sound : (p : Progress) (u : Undoable) → IsCore p u → IsSound (core_of p u)
sound p u core = record { is_plan = core.progress.is_plan; fit = core.progress.fit; machine = core.progress.machine; order = core.progress.order }

pub returns : goal.returns
returns g c =
    let p = c.self.inside.progress in
    let u = c.self.inside.rows in
    let is = sound p u c.self.invariant in
    record {
      sound = subst IsSound c.self.view_is is;
      ready = subst HasReadyPiece c.self.view_is (has_ready p u c.self.invariant);
      events = subst HasEvents c.self.view_is (has_events (core_of p u) is);
      work = subst OwnIsWork c.self.view_is (own_is_work (core_of p u) is);
    }
