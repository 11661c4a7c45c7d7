-- The group is closed after the request, or stays open.
use Rattle.std.proofs.Common.{inl, ◌∙◌, List, Err, ap, refl, subst, sym, arith, rules}
use Rattle.std.proofs.lemmas.Grind.{common_steps}
use Rattle.std.specs.List.{AllByRecursion}
use Rattle.pac_outside.specs.Devices.{each, log_at}
use Rattle.pac_check.specs.SlotStates.{active_of}
use Rattle.pac_outside.specs.Disk.{IfKnown}
use Rattle.pac_log.specs.Torn.{LogEndsAtEither}
use Rattle.pac_request.specs.declared.request.Reply.{Reply}
use Rattle.pac_session.specs.Groups.{cut_one}
use Rattle.pac_session.specs.Open.{rules_of}
use Rattle.pac_engine.specs.declared.fault.EngineCause.{EngineCause}
use Rattle.pac_engine.specs.Closing.{CountsFault, IsKept}
use Rattle.pac_engine.specs.Committing.{gate_past}
use Rattle.pac_engine.specs.Standing.{durable_of, saved_of, spot_of}
use Rattle.pac_engine.specs.declared.parts.EngineParts.{EngineParts}
use Rattle.pac_engine.proofs.StepLemmas.{asked-keeps-known, asked-stands-known, after-closed, after-gate, after-keeps, after-later, after-stands, after-stops, closed-kept}
use Rattle.pac_engine.proofs.RoomLemmas.{room-closed, same-cause}
use Rattle.pac_engine.proofs.TornLemmas.{may-end, newest-same}
use Rattle.pac_engine.proofs.parts.EngineParts.close_after.Goals as goal

pub returns-then-not-ends_group : goal.returns-then-not-ends_group
returns-then-not-ends_group g c = λ before asked is. record {
  closes = λ start group within. after-later before c.args.self.now asked c.args.closing is start group within c.ends_group.result c.ends_group.ensures c.if-not-ends_group.true c.of.result (c.of.ensures ∙ c.new.ensures.items);
  stops = λ start group within. tt;
  kept = subst (λ (given : List Reply). AllByRecursion (IsKept c.args.self.now) given) (sym (c.of.ensures ∙ c.new.ensures.items)) tt;
  kept_before = tt;
  live = grind (arith, common_steps);
  grows = grind (arith, common_steps);
  same = ap (λ (engine : EngineParts). rules_of engine.session) is.becomes;
  ready = c.requires.ready;
  keeps = λ text history. asked-keeps-known text history before asked is.fits is.live.working.counted c.args.self.now (ap durable_of is.becomes) (ap saved_of is.becomes) _;
  stands = λ text history. asked-stands-known text history before asked is.fits is.live.working.counted c.args.self.now is.becomes _;
  goes_on = tt;
  given = tt;
  slots = λ other. (refl, refl);
  newest = refl;
  room = tt;
  torn = tt;
  counted = refl;
}

pub returns-in-Ok : goal.returns-in-Ok
returns-in-Ok g c = λ before asked is. record {
  closes = λ start group within. after-closed before c.args.self.now asked c.args.closing is start group within c.ends_group.result c.ends_group.ensures c.if-not-ends_group.false c.in-Ok.replies c.close.new.self c.in-Ok.ensures.given c.in-Ok.ensures.closed c.in-Ok.ensures.room;
  stops = λ start group within. tt;
  kept = closed-kept c.args.self.now c.close.new.self c.in-Ok.replies c.requires.working (ap durable_of c.in-Ok.ensures.closed) c.in-Ok.ensures.given;
  kept_before = tt;
  live = search rules;
  grows = grind (arith, common_steps);
  same = grind (arith, common_steps);
  ready = c.in-Ok.ensures.ready;
  keeps = λ text history. after-keeps text history before asked is.fits is.live.working.counted c.args.self.now is.becomes c.close.new.self _ _ (c.close.ensures.keeps text _);
  stands = λ text history. after-stands text history before asked is.fits is.live.working.counted c.args.self.now is.becomes c.close.new.self _ _ (c.in-Ok.ensures.stands text _);
  goes_on = tt;
  given = tt;
  slots = λ other. (c.close.ensures.slot_a, c.close.ensures.slot_b);
  newest = newest-same g.D.Disk.known before c.args.devices.now c.close.new.devices c.close.ensures.slot_a c.close.ensures.slot_b;
  room = tt;
  torn = tt;
  counted = c.in-Ok.ensures.faults;
}

pub returns-in-Err : goal.returns-in-Err
returns-in-Err g c = λ before asked is. record {
  closes = λ start group within. tt;
  stops = λ start group within.
      after-stops before c.args.self.now asked c.args.closing is start group within c.ends_group.result c.ends_group.ensures c.if-not-ends_group.false c.fault.result.cause c.fault.result.replies c.fault.ensures.replies
      (λ bytes e. c.in-Err.ensures.known bytes (ap (λ x. Err x) (sym c.fault.ensures.cause ∙ e))) (λ e. c.in-Err.ensures.goes_on (ap (λ x. Err x) (sym c.fault.ensures.cause ∙ e)))
      (λ need e. c.in-Err.ensures.full need (ap (λ x. Err x) (sym c.fault.ensures.cause ∙ e))) (λ e. c.in-Err.ensures.called (ap (λ x. Err x) (sym c.fault.ensures.cause ∙ e)));
  kept = tt;
  kept_before = subst (λ (given : List Reply). AllByRecursion (IsKept c.close.new.self) given) (sym c.fault.ensures.replies) tt;
  live = tt;
  grows = grind (arith, common_steps);
  same = tt;
  ready = tt;
  keeps = λ text history. after-keeps text history before asked is.fits is.live.working.counted c.args.self.now is.becomes c.close.new.self _ _ (c.close.ensures.keeps text _);
  stands = tt;
  goes_on = λ e. c.in-Err.ensures.goes_on (ap (λ x. Err x) (sym c.fault.ensures.cause ∙ e));
  given = λ is. inl c.fault.ensures.replies;
  slots = λ other. (c.close.ensures.slot_a, c.close.ensures.slot_b);
  newest = newest-same g.D.Disk.known before c.args.devices.now c.close.new.devices c.close.ensures.slot_a c.close.ensures.slot_b;
  room = room-closed g.D.Disk.known asked before c.close.new.self c.args.devices.now c.close.new.devices c.fault.result.cause (λ not. c.in-Err.ensures.uncalled (λ e. not (c.fault.ensures.cause ∙ same-cause e))) (c.in-Err.ensures.unmoved.gate ∙ ap (λ (e : EngineParts). e.log.gate) is.becomes) (λ bytes e. c.in-Err.ensures.known bytes (ap (λ x. Err x) (sym c.fault.ensures.cause ∙ e)));
  torn = λ fault start group within. may-end g.D.Disk.known (active_of before.slots) (rules_of before.session) (spot_of before) start (cut_one (rules_of before.session) start group asked).closed before.log.gate (gate_past c.args.self.now.session.txns c.args.self.now.log.gate) c.close.new.devices
      (after-gate before c.args.self.now asked c.args.closing is start group within c.ends_group.result c.ends_group.ensures c.if-not-ends_group.false is.live.working.counted)
      (subst (λ (e : EngineParts). IfKnown (λ h. LogEndsAtEither e.log.gate (gate_past c.args.self.now.session.txns c.args.self.now.log.gate) h.now) (g.D.Disk.known (log_at (active_of e.slots) c.close.new.devices))) is.becomes c.in-Err.ensures.torn);
  counted = subst (λ (cause : EngineCause). CountsFault cause (each g.D.Disk.faults c.args.devices.now) (each g.D.Disk.faults c.close.new.devices)) (sym c.fault.ensures.cause) c.in-Err.ensures.faults;
}
