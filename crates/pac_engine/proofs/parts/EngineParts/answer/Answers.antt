-- Where the reply isn't held, no device was called.
use Rattle.std.proofs.Common.{inl, ◌∙◌, refl, subst, sym, arith, rules}
use Rattle.std.proofs.lemmas.Grind.{common_steps}
use Rattle.pac_outside.specs.Devices.{each}
use Rattle.pac_engine.specs.declared.fault.EngineCause.{EngineCause}
use Rattle.pac_engine.specs.Closing.{CountsFault}
use Rattle.pac_engine.proofs.StepLemmas.{asked-keeps-known, none-fits, other-no-save}
use Rattle.pac_engine.proofs.RoomLemmas.{memory-no-disk, room-none}
use Rattle.pac_engine.proofs.parts.EngineParts.answer.Goals as goal

pub returns-in-Ok : goal.returns-in-Ok
returns-in-Ok g c = let unsaved = other-no-save c.args.request c.requires.unsaved in c.close_after.ensures c.args.self.now c.args.request (search rules)

pub returns-in-Err : goal.returns-in-Err
returns-in-Err g c = record {
  closes = λ start group within. tt;
  stops = grind (arith, common_steps);
  kept = tt;
  kept_before = grind (arith, common_steps);
  live = tt;
  grows = grind (arith, common_steps);
  same = tt;
  ready = tt;
  keeps = λ text history. asked-keeps-known text history c.args.self.now c.args.request (none-fits c.args.self.now c.args.request c.requires.none) c.requires.live.working.counted _ refl refl _;
  stands = tt;
  goes_on = grind (arith, common_steps);
  given = λ is. inl c.fault.ensures.replies;
  slots = λ other. (refl, refl);
  newest = refl;
  room = room-none g.D.Disk.known c.args.request c.args.self.now _ c.args.devices.now c.args.devices.now c.fault.result.cause c.fault.ensures.cause;
  torn = λ is. absurd (memory-no-disk (sym c.fault.ensures.cause ∙ is));
  counted = subst (λ (cause : EngineCause). CountsFault cause (each g.D.Disk.faults c.args.devices.now) (each g.D.Disk.faults c.args.devices.now)) (sym c.fault.ensures.cause) refl;
}
