-- The open group is closed, and the transaction is the first of the next one.
use Rattle.std.proofs.Common.{inl, ◌∙◌, List, Err, ap, refl, subst, sym, arith}
use Rattle.std.proofs.lemmas.Grind.{common_steps}
use Rattle.std.specs.List.{AllByRecursion}
use Rattle.pac_outside.specs.Devices.{each}
use Rattle.pac_check.specs.SlotStates.{active_of}
use Rattle.pac_request.specs.declared.request.Reply.{Reply}
use Rattle.pac_session.specs.Groups.{cut_one}
use Rattle.pac_session.specs.Open.{rules_of}
use Rattle.pac_engine.specs.declared.fault.EngineCause.{EngineCause}
use Rattle.pac_engine.specs.Closing.{CountsFault, IsKept}
use Rattle.pac_engine.specs.Committing.{gate_past}
use Rattle.pac_engine.specs.Standing.{durable_of, spot_of}
use Rattle.pac_engine.proofs.StepLemmas.{anew-closes, anew-gate, anew-keeps, anew-stands, anew-stops, anew-unrun, closed-kept, ran-parts, same-fits}
use Rattle.pac_engine.proofs.MoveLemmas.{run-asked, with_session}
use Rattle.pac_engine.proofs.RoomLemmas.{memory-no-disk, room-closed, same-cause}
use Rattle.pac_engine.proofs.TornLemmas.{may-end, newest-same}
use Rattle.pac_engine.proofs.parts.EngineParts.execute_anew.Goals as goal

pub returns-in-Err : goal.returns-in-Err
returns-in-Err g c = λ asked asks. record {
  closes = λ start group within. tt;
  stops = λ start group within.
      anew-stops c.args.self.now c.requires.live asked c.args.txn asks c.requires.full c.requires.alone start group within c.fault.result.cause c.fault.result.replies c.fault.ensures.replies
      (λ bytes e. c.in-Err.ensures.known bytes (ap (λ x. Err x) (sym c.fault.ensures.cause ∙ e))) (λ e. c.in-Err.ensures.goes_on (ap (λ x. Err x) (sym c.fault.ensures.cause ∙ e)))
      (λ need e. c.in-Err.ensures.full need (ap (λ x. Err x) (sym c.fault.ensures.cause ∙ e))) (λ e. c.in-Err.ensures.called (ap (λ x. Err x) (sym c.fault.ensures.cause ∙ e)));
  kept = tt;
  kept_before = subst (λ (given : List Reply). AllByRecursion (IsKept c.close.new.self) given) (sym c.fault.ensures.replies) tt;
  live = tt;
  grows = grind (arith, common_steps);
  same = tt;
  ready = tt;
  keeps = λ text history.
      anew-keeps text history c.args.self.now asked (same-fits c.args.self.now asked c.args.txn asks c.requires.fits) c.requires.live.working.counted c.close.new.self _ _ (c.close.ensures.keeps text history) _ refl refl;
  stands = tt;
  goes_on = λ e. c.in-Err.ensures.goes_on (ap (λ x. Err x) (sym c.fault.ensures.cause ∙ e));
  given = λ is. inl c.fault.ensures.replies;
  slots = λ other. (c.close.ensures.slot_a, c.close.ensures.slot_b);
  newest = newest-same g.D.Disk.known c.args.self.now c.args.devices.now c.close.new.devices c.close.ensures.slot_a c.close.ensures.slot_b;
  room = room-closed g.D.Disk.known asked c.args.self.now c.close.new.self c.args.devices.now c.close.new.devices c.fault.result.cause (λ not. c.in-Err.ensures.uncalled (λ e. not (c.fault.ensures.cause ∙ same-cause e))) c.in-Err.ensures.unmoved.gate (λ bytes e. c.in-Err.ensures.known bytes (ap (λ x. Err x) (sym c.fault.ensures.cause ∙ e)));
  torn = λ fault start group within. may-end g.D.Disk.known (active_of c.args.self.now.slots) (rules_of c.args.self.now.session) (spot_of c.args.self.now) start (cut_one (rules_of c.args.self.now.session) start group asked).closed c.args.self.now.log.gate (gate_past c.args.self.now.session.txns c.args.self.now.log.gate) c.close.new.devices
      (anew-gate c.args.self.now c.requires.live asked c.args.txn asks c.requires.full c.requires.alone start group within) c.in-Err.ensures.torn;
  counted = subst (λ (cause : EngineCause). CountsFault cause (each g.D.Disk.faults c.args.devices.now) (each g.D.Disk.faults c.close.new.devices)) (sym c.fault.ensures.cause) c.in-Err.ensures.faults;
}

pub returns-in-Ok-run : goal.returns-in-Ok-run
returns-in-Ok-run g c = λ asked asks. record {
  closes = λ start group within.
      anew-closes c.args.self.now c.requires.live asked c.args.txn asks c.requires.full c.requires.alone start group within c.in-Ok.replies _ c.in-Ok.ensures.given (ran-parts c.args.self.now c.close.new.self c.run.new.self asked c.args.txn asks c.in-Ok.ensures.closed c.in-Ok-run.ensures) c.in-Ok.ensures.room;
  stops = λ start group within. tt;
  kept = closed-kept c.args.self.now (with_session c.run.new.self c.close.new.self) c.in-Ok.replies c.requires.live.working (ap durable_of c.in-Ok.ensures.closed) c.in-Ok.ensures.given;
  kept_before = tt;
  live = grind (arith, common_steps);
  grows = grind (arith, common_steps);
  same = grind (arith, common_steps);
  ready = grind (arith, common_steps);
  keeps = λ text history.
      anew-keeps text history c.args.self.now asked (same-fits c.args.self.now asked c.args.txn asks c.requires.fits) c.requires.live.working.counted c.close.new.self _ _ (c.close.ensures.keeps text history) _ refl refl;
  stands = λ text history.
      anew-stands text history c.args.self.now asked (same-fits c.args.self.now asked c.args.txn asks c.requires.fits) c.requires.live.working.counted c.close.new.self _ _ (c.close.ensures.keeps text history) c.in-Ok.ensures.closed (c.in-Ok.ensures.stands text history) _
      (ap (λ now. with_session now c.close.new.self) (c.in-Ok-run.ensures ∙ run-asked asked c.close.new.self.session c.args.txn asks));
  goes_on = tt;
  given = tt;
  slots = λ other. (c.close.ensures.slot_a, c.close.ensures.slot_b);
  newest = newest-same g.D.Disk.known c.args.self.now c.args.devices.now c.close.new.devices c.close.ensures.slot_a c.close.ensures.slot_b;
  room = tt;
  torn = tt;
  counted = c.in-Ok.ensures.faults;
}

pub returns-in-Err-run : goal.returns-in-Err-run
returns-in-Err-run g c = λ asked asks. record {
  closes = λ start group within. tt;
  stops = λ start group within. anew-unrun c.args.self.now c.requires.live asked c.args.txn asks c.requires.full c.requires.alone start group within c.in-Ok.replies c.in-Ok.ensures.given c.in-Ok.ensures.room;
  kept = tt;
  kept_before = closed-kept c.args.self.now (with_session c.run.new.self c.close.new.self) c.in-Ok.replies c.requires.live.working (ap durable_of c.in-Ok.ensures.closed) c.in-Ok.ensures.given;
  live = tt;
  grows = grind (arith, common_steps);
  same = tt;
  ready = tt;
  keeps = λ text history.
      anew-keeps text history c.args.self.now asked (same-fits c.args.self.now asked c.args.txn asks c.requires.fits) c.requires.live.working.counted c.close.new.self _ _ (c.close.ensures.keeps text history) _ refl refl;
  stands = tt;
  goes_on = λ e. absurd (cc e);
  given = λ is. absurd (memory-no-disk is);
  slots = λ other. (c.close.ensures.slot_a, c.close.ensures.slot_b);
  newest = newest-same g.D.Disk.known c.args.self.now c.args.devices.now c.close.new.devices c.close.ensures.slot_a c.close.ensures.slot_b;
  room = tt;
  torn = λ is. absurd (memory-no-disk is);
  counted = c.in-Ok.ensures.faults;
}
