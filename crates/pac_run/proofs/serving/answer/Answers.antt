-- A request is answered, and its replies are written, or not.
use Rattle.std.proofs.Common.{◌≡◌, ◌∙◌, ℕ, List, Err, length, sym, ap, subst, arith}
use Rattle.std.proofs.lemmas.Grind.{common_steps}
use Rattle.std.proofs.lemmas.List.{nil_from_length}
use Rattle.std.proofs.lemmas.Result.{err_from_is_err_and}
use Rattle.std.specs.List.{AllByRecursion}
use Rattle.pac_outside.specs.Content.{Took}
use Rattle.pac_request.specs.declared.request.Reply.{Reply}
use Rattle.pac_session.specs.Groups.{cut_one}
use Rattle.pac_session.specs.Open.{rules_of}
use Rattle.pac_engine.specs.Standing.{spot_of}
use Rattle.pac_restore.proofs.CauseLemmas.{same-error, the-error}
use Rattle.pac_engine.proofs.Results.{on-ok}
use Rattle.pac_run.specs.declared.stop.RunStop.{RunStop}
use Rattle.pac_run.specs.Serving.{KeepsGate}
use Rattle.pac_run.specs.Stopping.{HasWorked, StepStops}
use Rattle.pac_run.specs.Texts.{IsPlain, texts}
use Rattle.pac_run.proofs.ServeLemmas.{took-nothing}
use Rattle.pac_run.proofs.AnswerLemmas.{answered-one, broke-of, disk-cause, no-text, only-err, output-no-disk, newest-stays, room-full, room-large, room-stays, room-worked, slots-same, was-handled}
use Rattle.pac_run.proofs.StopLemmas.{no-output, step-stops}
use Rattle.pac_run.proofs.serving.answer.Goals as goal

pub returns-in_err-text-in-Ok-clause-err : goal.returns-in_err-text-in-Ok-clause-err
returns-in_err-text-in-Ok-clause-err g c = λ stop is.
    let r = c.from_residual in
    let p = err_from_is_err_and r.result r.ensures.1 in
    no-text c.args.asked c.args.engine.now c.step.new.self _ _ c.args.catalogue.now _ _ stop (sym (the-error r.result p.0 stop p.1 is) ∙ p.2) (c.step.ensures.keeps c.requires.goes_on) c.step.ensures.grows
    (λ other. slots-same g.D.Disk.known c.args.devices.now c.step.new.devices (c.step.ensures.slots other)) (newest-stays g.D.Disk.known c.args.engine.now c.args.devices.now c.step.new.devices c.requires.ready c.step.ensures.newest)

pub returns-in_err-text-in-Err-clause-err : goal.returns-in_err-text-in-Err-clause-err
returns-in_err-text-in-Err-clause-err g c = λ stop is.
    let r = c.from_residual-in_err-text-in-Err in
    let p = err_from_is_err_and r.result r.ensures.1 in
    no-text c.args.asked c.args.engine.now c.step.new.self _ _ c.args.catalogue.now _ _ stop (sym (the-error r.result p.0 stop p.1 is) ∙ p.2) (c.step.ensures.keeps c.requires.goes_on) c.step.ensures.grows
    (λ other. slots-same g.D.Disk.known c.args.devices.now c.step.new.devices (c.step.ensures.slots other)) (newest-stays g.D.Disk.known c.args.engine.now c.args.devices.now c.step.new.devices c.requires.ready c.step.ensures.newest)

pub returns-then-is_empty-clause-ok : goal.returns-then-is_empty-clause-ok
returns-then-is_empty-clause-ok g c =
    let e = c.in-Ok.ensures in
    let held = g.O.Sink.held c.args.output.now in
    let h : length c.items-given.result.now ≡ 0 = grind (arith, common_steps, c.is_empty.ensures, c.if-is_empty.true) in
    let none = sym c.items-given.ensures.value ∙ nil_from_length c.items-given.result.now h in
    let plain = subst (λ (l : List Reply). AllByRecursion IsPlain l) (sym none) tt in
    record {
      more = c.in-Ok.replies;
      took = subst (λ (l : List Reply). Took held (texts c.args.catalogue.now l) held) (sym none) (took-nothing held);
      answered = answered-one c.args.asked c.args.engine.now c.step.new.self _ _ c.in-Ok.replies e.closes (e.keeps c.requires.goes_on) e.stands e.same e.grows e.kept plain e.small e.durable (λ other. slots-same g.D.Disk.known c.args.devices.now c.step.new.devices (e.slots other));
    }

pub returns-in_ok-text-in-Ok-clause-ok : goal.returns-in_ok-text-in-Ok-clause-ok
returns-in_ok-text-in-Ok-clause-ok g c =
    let cat = c.args.catalogue.now in
    let e = c.in-Ok.ensures in
    let text = c.deref.ensures.value ∙ c.in_ok-text-in-Ok.ensures.text ∙ ap (texts cat) c.items-given.ensures.value in
    let plain = subst (λ (l : List Reply). AllByRecursion IsPlain l) c.items-given.ensures.value c.in_ok-text-in-Ok.ensures.plain in
    on-ok c.write.result c.write.ensures.ok (λ took. record {
      more = c.in-Ok.replies;
      took = subst (λ (l : List ℕ). Took (g.O.Sink.held c.args.output.now) l (g.O.Sink.held c.write.new.output)) text took;
      answered = answered-one c.args.asked c.args.engine.now c.step.new.self _ _ c.in-Ok.replies e.closes (e.keeps c.requires.goes_on) e.stands e.same e.grows e.kept plain e.small e.durable (λ other. slots-same g.D.Disk.known c.args.devices.now c.step.new.devices (e.slots other));
    })

pub returns-in_ok-text-in-Ok-clause-err : goal.returns-in_ok-text-in-Ok-clause-err
returns-in_ok-text-in-Ok-clause-err g c = λ stop is.
    let cat = c.args.catalogue.now in
    let old = c.args.engine.now in
    let e = c.in-Ok.ensures in
    let text = c.deref.ensures.value ∙ c.in_ok-text-in-Ok.ensures.text ∙ ap (texts cat) c.items-given.ensures.value in
    let plain = subst (λ (l : List Reply). AllByRecursion IsPlain l) c.items-given.ensures.value c.in_ok-text-in-Ok.ensures.plain in
    let same = only-err c.write.result _ stop c.write.ensures.only is in
    broke-of c.args.asked old c.step.new.self _ _ cat _ _ _ stop c.in-Ok.replies c.deref.result.now text c.write.ensures.says (e.keeps c.requires.goes_on) e.grows e.kept plain
    (λ start group within. subst (λ (s : RunStop). StepStops (rules_of old.session) (spot_of old) start (cut_one (rules_of old.session) start group c.args.asked).closed c.in-Ok.replies s) (sym same) (e.closes start group within).replied)
    (λ out. was-handled c.args.asked old c.step.new.self c.in-Ok.replies e.closes e.small e.durable)
    (subst (λ (s : RunStop). KeepsGate c.args.asked old c.step.new.self s) (sym same) tt)
    (λ other. slots-same g.D.Disk.known c.args.devices.now c.step.new.devices (e.slots other)) (newest-stays g.D.Disk.known c.args.engine.now c.args.devices.now c.step.new.devices c.requires.ready c.step.ensures.newest)
    (λ disk. absurd (output-no-disk (sym same ∙ disk)))

pub returns-in_ok-text-in-Err-clause-err : goal.returns-in_ok-text-in-Err-clause-err
returns-in_ok-text-in-Err-clause-err g c = λ stop is.
    let cat = c.args.catalogue.now in
    let old = c.args.engine.now in
    let e = c.in-Err.ensures in
    let text = c.deref-in-Err.ensures.value ∙ c.in_ok-text-in-Err.ensures.text in
    let same = sym (same-error _ _ is) ∙ c.stop_of_engine.ensures in
    broke-of c.args.asked old c.step.new.self _ _ cat _ _ _ stop c.in-Err.fault.replies c.deref-in-Err.result.now text c.write-in-Err.ensures.says (e.keeps c.requires.goes_on) e.grows e.kept_before c.in_ok-text-in-Err.ensures.plain
    (λ start group within. step-stops (rules_of old.session) (spot_of old) start (cut_one (rules_of old.session) start group c.args.asked).closed c.in-Err.fault.replies c.in-Err.fault.cause stop same (e.stops c.requires.goes_on start group within))
    (λ out. absurd (no-output c.in-Err.fault.cause (sym same ∙ out)))
    (subst (λ (s : RunStop). KeepsGate c.args.asked old c.step.new.self s) (sym same) (room-stays g.D.Disk.known c.args.asked old c.step.new.self c.args.devices.now c.step.new.devices c.in-Err.fault.cause e.room))
    (λ other. slots-same g.D.Disk.known c.args.devices.now c.step.new.devices (e.slots other)) (newest-stays g.D.Disk.known c.args.engine.now c.args.devices.now c.step.new.devices c.requires.ready c.step.ensures.newest)
    (λ disk. e.torn (disk-cause c.in-Err.fault.cause (sym same ∙ disk)))

pub returns-in_ok-text-in-Err-clause-worked : goal.returns-in_ok-text-in-Err-clause-worked
returns-in_ok-text-in-Err-clause-worked g c = λ worked.
    room-worked g.D.Disk.known c.args.asked c.args.engine.now c.step.new.self c.args.devices.now c.step.new.devices c.in-Err.fault.cause c.in-Err.ensures.room
    (subst (λ (s : RunStop). HasWorked {A = Unit {0}} (Err s)) c.stop_of_engine.ensures worked)

pub returns-in_ok-text-in-Err-clause-full : goal.returns-in_ok-text-in-Err-clause-full
returns-in_ok-text-in-Err-clause-full g c = λ need is.
    room-full g.D.Disk.known c.args.asked c.args.engine.now c.step.new.self c.args.devices.now c.step.new.devices c.in-Err.fault.cause c.in-Err.ensures.room need (sym c.stop_of_engine.ensures ∙ same-error _ _ is)

pub returns-in_ok-text-in-Err-clause-large : goal.returns-in_ok-text-in-Err-clause-large
returns-in_ok-text-in-Err-clause-large g c = λ bytes is.
    room-large g.D.Disk.known c.args.asked c.args.engine.now c.step.new.self c.args.devices.now c.step.new.devices c.in-Err.fault.cause c.in-Err.ensures.room bytes (sym c.stop_of_engine.ensures ∙ same-error _ _ is)
