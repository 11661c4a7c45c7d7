-- A transaction for which there is room, or for which there is no memory.
use Rattle.std.proofs.Common.{inl, ◌∙◌, refl, subst, sym, arith, rules}
use Rattle.std.proofs.lemmas.Grind.{common_steps}
use Rattle.pac_outside.specs.Devices.{each}
use Rattle.pac_session.specs.Open.{Open}
use Rattle.pac_engine.specs.declared.fault.EngineCause.{EngineCause}
use Rattle.pac_engine.specs.Closing.{CountsFault}
use Rattle.pac_engine.specs.Moves.{IsWorking}
use Rattle.pac_engine.proofs.MoveLemmas.{with_session, working-run}
use Rattle.pac_engine.proofs.StepLemmas.{asked-keeps-known, same-fits, txn-no-save}
use Rattle.pac_engine.proofs.RoomLemmas.{memory-no-disk, room-none}
use Rattle.pac_engine.proofs.parts.EngineParts.execute.Goals as goal

pub close_after-requires-clause-working : goal.close_after-requires-clause-working
close_after-requires-clause-working g c = subst (λ (now : Open). IsWorking (with_session now c.args.self.now)) (sym c.in-Ok.ensures) (working-run c.args.self.now c.args.txn c.requires.live.working)

pub returns-in-Ok : goal.returns-in-Ok
returns-in-Ok g c = λ asked asks. let unsaved = txn-no-save asked c.args.txn asks in c.close_after.ensures c.args.self.now asked (search rules)

pub returns-in-Err : goal.returns-in-Err
returns-in-Err g c = λ asked asks. record {
  closes = λ start group within. tt;
  stops = grind (arith, common_steps);
  kept = tt;
  kept_before = grind (arith, common_steps);
  live = tt;
  grows = grind (arith, common_steps);
  same = tt;
  ready = tt;
  keeps = λ text history.
      asked-keeps-known text history c.args.self.now asked (same-fits c.args.self.now asked c.args.txn asks c.requires.fits) c.requires.live.working.counted _ refl refl _;
  stands = tt;
  goes_on = grind (arith, common_steps);
  given = λ is. inl c.fault.ensures.replies;
  slots = λ other. (refl, refl);
  newest = refl;
  room = room-none g.D.Disk.known asked c.args.self.now _ c.args.devices.now c.args.devices.now c.fault.result.cause c.fault.ensures.cause;
  torn = λ is. absurd (memory-no-disk (sym c.fault.ensures.cause ∙ is));
  counted = subst (λ (cause : EngineCause). CountsFault cause (each g.D.Disk.faults c.args.devices.now) (each g.D.Disk.faults c.args.devices.now)) (sym c.fault.ensures.cause) refl;
}
