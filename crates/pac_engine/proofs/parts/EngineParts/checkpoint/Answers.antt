-- The group is closed, and then the checkpoint is saved.
use Rattle.std.proofs.Common.{inl, inr, ◌∙◌, List, Err, ap, refl, subst, sym, arith}
use Rattle.std.proofs.lemmas.Grind.{common_steps}
use Rattle.std.specs.List.{AllByRecursion}
use Rattle.pac_outside.specs.Devices.{each}
use Rattle.pac_check.specs.SlotStates.{active_of}
use Rattle.pac_request.specs.declared.request.Reply.{Reply}
use Rattle.pac_request.specs.declared.request.Request.TheVariants.{Save}
use Rattle.pac_session.specs.Groups.{cut_one}
use Rattle.pac_session.specs.Open.{rules_of}
use Rattle.pac_engine.specs.declared.fault.EngineCause.{EngineCause}
use Rattle.pac_engine.specs.Closing.{CountsFault, IsKept}
use Rattle.pac_engine.specs.Committing.{gate_past}
use Rattle.pac_engine.specs.Standing.{spot_of}
use Rattle.pac_engine.proofs.Results.{if-err, if-err-all, if-err-both, if-err-five, if-ok-both, on-ok}
use Rattle.pac_engine.specs.declared.parts.EngineParts.{EngineParts}
use Rattle.pac_engine.proofs.SaveLemmas.{grows-then, saved-live, saved-session}
use Rattle.pac_engine.proofs.StepLemmas.{checkpoint-closes, checkpoint-past, checkpoint-keeps, checkpoint-small, checkpoint-stands, checkpoint-stops, checkpoint-unsaved}
use Rattle.pac_engine.proofs.RoomLemmas.{room-closed, room-saved, same-cause}
use Rattle.pac_engine.proofs.TornLemmas.{may-end, newest-same, newest-then, torn-saved}
use Rattle.pac_engine.proofs.parts.EngineParts.checkpoint.Goals as goal

pub returns-in-Ok-clause-handled : goal.returns-in-Ok-clause-handled
returns-in-Ok-clause-handled g c =
    let known = c.save_and_report.ensures.known in
    let unknown = c.save_and_report.ensures.unknown in
    let saved = c.save_and_report.ensures.saved in
    let stands = c.save_and_report.ensures.stands in
    let on = c.save_and_report.ensures.goes_on in
    let full = c.save_and_report.ensures.full in
    let large = c.save_and_report.ensures.large in
    let uncalled = c.save_and_report.ensures.uncalled in
    let writes = c.save_and_report.ensures.writes in
    record {
      closes = λ start group within.
          if-ok-both c.save_and_report.result known saved (λ given knows becomes. checkpoint-closes c.args.self.now c.requires.live.working start group within c.in-Ok.ensures.room c.close.new.self c.save_and_report.new.self c.in-Ok.replies given c.in-Ok.ensures.closed becomes c.in-Ok.ensures.given knows);
      stops = λ start group within.
          if-err-five c.save_and_report.result unknown on full writes large (λ fault same not_ended not_full anew sizes. checkpoint-unsaved c.args.self.now c.requires.live.working start group within c.in-Ok.ensures.room c.close.new.self c.in-Ok.replies fault.replies c.in-Ok.ensures.closed c.in-Ok.ensures.given same fault.cause not_ended not_full anew sizes);
      kept = c.save_and_report.ensures.kept;
      kept_before = c.save_and_report.ensures.kept_before;
      live = on-ok c.save_and_report.result saved (λ becomes. saved-live c.args.self.now c.close.new.self c.save_and_report.new.self c.requires.live.working c.in-Ok.ensures.closed becomes);
      grows = grows-then c.args.self.now c.close.new.self c.save_and_report.new.self c.in-Ok.ensures.closed c.save_and_report.ensures.grows;
      same = on-ok c.save_and_report.result saved (λ becomes. ap (λ (p : EngineParts). rules_of p.session) becomes ∙ ap rules_of (saved-session c.close.new.self) ∙ ap (λ (p : EngineParts). rules_of p.session) c.in-Ok.ensures.closed);
      ready = c.save_and_report.ensures.ready;
      keeps = λ text history.
          checkpoint-keeps text history c.args.self.now c.close.new.self c.save_and_report.new.self c.in-Ok.ensures.closed _ _ _ (c.in-Ok.ensures.stands text history) (c.close.ensures.keeps text history) (c.save_and_report.ensures.keeps text _);
      stands = on-ok c.save_and_report.result stands (λ after text history.
          checkpoint-stands text history c.args.self.now c.close.new.self c.save_and_report.new.self c.in-Ok.ensures.closed _ _ _ (c.in-Ok.ensures.stands text history) (after text _));
      goes_on = on;
      given = if-err c.save_and_report.result unknown (λ fault same is. inr (refl, same ∙ c.in-Ok.ensures.given));
      slots = λ other. absurd (other refl);
      newest = newest-then g.D.Disk.known c.args.self.now c.close.new.self c.in-Ok.ensures.closed c.args.devices.now c.close.new.devices c.save_and_report.new.devices c.close.ensures.slot_a c.close.ensures.slot_b c.save_and_report.ensures.newest;
      room = if-err-both c.save_and_report.result full uncalled (λ fault none same. room-saved g.D.Disk.known Save c.args.self.now c.save_and_report.new.self c.args.devices.now c.save_and_report.new.devices refl c.close.new.self c.close.new.devices c.in-Ok.ensures.closed c.close.ensures.slot_a c.close.ensures.slot_b c.in-Ok.ensures.ready fault.cause none same);
      torn = if-err-all c.save_and_report.result (λ fault is start group within. may-end g.D.Disk.known (active_of c.args.self.now.slots) (rules_of c.args.self.now.session) (spot_of c.args.self.now) start (cut_one (rules_of c.args.self.now.session) start group Save).closed c.args.self.now.log.gate (gate_past c.args.self.now.session.txns c.args.self.now.log.gate) c.save_and_report.new.devices
          (checkpoint-past c.args.self.now c.requires.live.working.counted start group within) (torn-saved g.D.Disk.known c.args.self.now c.close.new.self c.close.new.devices c.save_and_report.new.devices c.in-Ok.ensures.closed c.in-Ok.ensures.ready c.save_and_report.ensures.active));
      counted = grind (arith, common_steps);
    }

pub returns-in-Err-clause-handled : goal.returns-in-Err-clause-handled
returns-in-Err-clause-handled g c = record {
  closes = λ start group within. tt;
  stops = λ start group within.
      checkpoint-stops c.args.self.now c.requires.live.working start group within c.fault.result.cause c.fault.result.replies c.fault.ensures.replies
      (λ bytes e. c.in-Err.ensures.known bytes (ap (λ x. Err x) (sym c.fault.ensures.cause ∙ e))) (λ e. c.in-Err.ensures.goes_on (ap (λ x. Err x) (sym c.fault.ensures.cause ∙ e)))
      (λ need e. c.in-Err.ensures.full need (ap (λ x. Err x) (sym c.fault.ensures.cause ∙ e))) (λ e. c.in-Err.ensures.called (ap (λ x. Err x) (sym c.fault.ensures.cause ∙ e)));
  kept = tt;
  kept_before = subst (λ (given : List Reply). AllByRecursion (IsKept c.close.new.self) given) (sym c.fault.ensures.replies) tt;
  live = tt;
  grows = grind (arith, common_steps);
  same = tt;
  ready = tt;
  keeps = c.close.ensures.keeps;
  stands = tt;
  goes_on = λ e. c.in-Err.ensures.goes_on (ap (λ x. Err x) (sym c.fault.ensures.cause ∙ e));
  given = λ is. inl c.fault.ensures.replies;
  slots = λ other. absurd (other refl);
  newest = newest-same g.D.Disk.known c.args.self.now c.args.devices.now c.close.new.devices c.close.ensures.slot_a c.close.ensures.slot_b;
  room = room-closed g.D.Disk.known Save c.args.self.now c.close.new.self c.args.devices.now c.close.new.devices c.fault.result.cause (λ not. c.in-Err.ensures.uncalled (λ e. not (c.fault.ensures.cause ∙ same-cause e))) c.in-Err.ensures.unmoved.gate (λ bytes e. c.in-Err.ensures.known bytes (ap (λ x. Err x) (sym c.fault.ensures.cause ∙ e)));
  torn = λ is start group within. may-end g.D.Disk.known (active_of c.args.self.now.slots) (rules_of c.args.self.now.session) (spot_of c.args.self.now) start (cut_one (rules_of c.args.self.now.session) start group Save).closed c.args.self.now.log.gate (gate_past c.args.self.now.session.txns c.args.self.now.log.gate) c.close.new.devices
      (checkpoint-past c.args.self.now c.requires.live.working.counted start group within) c.in-Err.ensures.torn;
  counted = subst (λ (cause : EngineCause). CountsFault cause (each g.D.Disk.faults c.args.devices.now) (each g.D.Disk.faults c.close.new.devices)) (sym c.fault.ensures.cause) c.in-Err.ensures.faults;
}

pub returns-in-Ok-clause-small : goal.returns-in-Ok-clause-small
returns-in-Ok-clause-small g c = λ anew. checkpoint-small c.save_and_report.result c.args.self.now c.close.new.self c.in-Ok.ensures.closed c.requires.live.working.counted c.save_and_report.ensures.small anew
