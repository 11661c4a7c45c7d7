-- The engine's parts do what the request asks, and its flag is set after them.
use Rattle.std.proofs.Common.{◌≡◌, List, refl, subst}
use Rattle.pac_outside.specs.Devices.{each}
use Rattle.pac_check.specs.SlotStates.{active_of}
use Rattle.pac_request.specs.declared.request.Request.{Request}
use Rattle.pac_session.specs.Session.{SessionState}
use Rattle.pac_session.specs.Groups.{cut_one}
use Rattle.pac_session.specs.Open.{IsInGroup, rules_of}
use Rattle.pac_engine.specs.declared.fault.EngineCause.TheVariants.{DiskFault}
use Rattle.pac_engine.specs.declared.parts.EngineParts.{EngineParts}
use Rattle.pac_engine.specs.Closing.{MayEndAfter}
use Rattle.pac_engine.specs.Handled.{GivesBefore}
use Rattle.pac_engine.specs.Standing.{spot_of}
use Rattle.pac_engine.proofs.StepLemmas.{flag-keeps, flag-stands}
use Rattle.pac_engine.proofs.RoomLemmas.{room-flagged}
use Rattle.pac_engine.proofs.engine.Engine.step.Goals as goal

pub returns-in-Ok-clause-keeps : goal.returns-in-Ok-clause-keeps
returns-in-Ok-clause-keeps g c = λ works. flag-keeps g.D.Disk.known c.args.request c.self.inside.parts c.args.self.now c.handle.new.self c.self.view_is c.args.devices.now c.handle.new.devices _ refl refl c.handle.ensures.handled.keeps

pub returns-in-Ok-clause-stands : goal.returns-in-Ok-clause-stands
returns-in-Ok-clause-stands g c = flag-stands g.D.Disk.known c.args.request c.self.inside.parts c.args.self.now c.handle.new.self c.self.view_is c.args.devices.now c.handle.new.devices c.is_stop-stops.result c.in-Ok.ensures.handled.stands

pub returns-in-Err-clause-keeps : goal.returns-in-Err-clause-keeps
returns-in-Err-clause-keeps g c = λ works. flag-keeps g.D.Disk.known c.args.request c.self.inside.parts c.args.self.now c.handle.new.self c.self.view_is c.args.devices.now c.handle.new.devices _ refl refl c.handle.ensures.handled.keeps

pub returns-in-Err-clause-room : goal.returns-in-Err-clause-room
returns-in-Err-clause-room g c = room-flagged g.D.Disk.known c.args.request c.args.self.now c.handle.new.self c.args.devices.now c.handle.new.devices c.self.inside.parts c.self.view_is _ refl c.in-Err.fault.cause c.in-Err.ensures.handled.room

pub returns-in-Err-clause-torn : goal.returns-in-Err-clause-torn
returns-in-Err-clause-torn g c = subst (λ (e : EngineParts). c.in-Err.fault.cause ≡ DiskFault → (start : SessionState) (group : List Request) → IsInGroup start group e.session
    → MayEndAfter (active_of e.slots) (rules_of e.session) (spot_of e) start (cut_one (rules_of e.session) start group c.args.request).closed e.log.gate (each g.D.Disk.known c.handle.new.devices)) c.self.view_is c.in-Err.ensures.handled.torn

pub returns-in-Err-clause-given : goal.returns-in-Err-clause-given
returns-in-Err-clause-given g c = subst (λ (e : EngineParts). c.in-Err.fault.cause ≡ DiskFault → GivesBefore c.args.request e.session c.in-Err.fault.replies) c.self.view_is c.in-Err.ensures.handled.given
