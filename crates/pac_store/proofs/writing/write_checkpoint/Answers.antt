-- One call after another: each leaves what the next one needs.
use Rattle.std.proofs.Common.{◌∙◌, ℕ, sym, ap, subst}
use Rattle.pac_outside.specs.Devices.{RunLeaves, WhileAllKnown, each}
use Rattle.pac_outside.specs.declared.devices.LogName.{LogName}
use Rattle.pac_log.specs.declared.header.HeaderForm.TheVariants.{Later}
use Rattle.pac_log.specs.Logs.{header_with}
use Rattle.pac_check.specs.declared.slots.Slots.{Slots}
use Rattle.pac_check.specs.SlotStates.{published_slots}
use Rattle.pac_store.specs.Saving.{KeepsBy, KnownStore, StandsStill, SwitchesByGate, closed_by, published_by}
use Rattle.pac_store.specs.Writing.{StandsBegun, known_with}
use Rattle.pac_store.proofs.WriteLemmas.{active-closed, closed-number, for-closed, one-run, three-runs, three-stand, two-runs}
use Rattle.pac_store.proofs.writing.write_checkpoint.Goals as goal

pub returns-in_err-close_spare-clause-keeps : goal.returns-in_err-close_spare-clause-keeps
returns-in_err-close_spare-clause-keeps g c = λ text k h form batches held can is headed catalogue. one-run text k h (known_with c.args.slots.now form batches) (each g.D.Disk.known c.args.devices.now) (each g.D.Disk.known c.close_spare.new.devices) (c.close_spare.ensures.keeps text k h form batches)

pub returns-in_err-log-clause-keeps : goal.returns-in_err-log-clause-keeps
returns-in_err-log-clause-keeps g c = λ text k h form batches held can is headed catalogue.
    let before = known_with c.args.slots.now form batches in
    let same = c.in_ok-close_spare.ensures.slots in
    let active = c.active.ensures ∙ active-closed text k h c.args.slots.now _ form batches held same in
    let see = g.D.Disk.known in
    let mid = c.in_ok-close_spare.ensures.stands text k h form batches in
    let second = subst (λ (n : LogName). WhileAllKnown (StandsStill text k h (closed_by before)) (RunLeaves (KeepsBy n text k h (closed_by before))) (each see c.close_spare.new.devices) (each see c.begin_beside.new.devices)) active (c.begin_beside.ensures.keeps text k h (closed_by before) active) in
    two-runs text k h before (each g.D.Disk.known c.args.devices.now) (each g.D.Disk.known c.close_spare.new.devices) (each g.D.Disk.known c.begin_beside.new.devices) (c.close_spare.ensures.keeps text k h form batches) mid second

pub returns-in_err-publish_ready-clause-keeps : goal.returns-in_err-publish_ready-clause-keeps
returns-in_err-publish_ready-clause-keeps g c = λ text k h form batches held can is headed catalogue.
    let before = known_with c.args.slots.now form batches in
    let same = c.in_ok-close_spare.ensures.slots in
    let active = c.active.ensures ∙ active-closed text k h c.args.slots.now _ form batches held same in
    let see = g.D.Disk.known in
    let mid = c.in_ok-close_spare.ensures.stands text k h form batches in
    let second = subst (λ (n : LogName). WhileAllKnown (StandsStill text k h (closed_by before)) (RunLeaves (KeepsBy n text k h (closed_by before))) (each see c.close_spare.new.devices) (each see c.begin_beside.new.devices)) active (c.begin_beside.ensures.keeps text k h (closed_by before) active) in
    let begun = c.in_ok-log.ensures.stands text k h (closed_by before) active (headed ∙ ap (λ (n : ℕ). header_with (Later n) text) (sym (closed-number before text))) catalogue in
    let third = for-closed text k h c.args.slots.now _ form batches held same can is (λ (known : KnownStore). WhileAllKnown (StandsBegun text k h known) (RunLeaves (SwitchesByGate text k h held known)) (each see c.begin_beside.new.devices) (each see c.publish_ready.new.devices))
    (λ ready here. c.publish_ready.ensures.keeps text k h form batches held ready here) in
    three-runs text k h before held (each g.D.Disk.known c.args.devices.now) (each g.D.Disk.known c.close_spare.new.devices) (each g.D.Disk.known c.begin_beside.new.devices) (each g.D.Disk.known c.publish_ready.new.devices) (c.close_spare.ensures.keeps text k h form batches) mid second begun third

pub returns-clause-keeps : goal.returns-clause-keeps
returns-clause-keeps g c = λ text k h form batches held can is headed catalogue.
    let before = known_with c.args.slots.now form batches in
    let same = c.in_ok-close_spare.ensures.slots in
    let active = c.active.ensures ∙ active-closed text k h c.args.slots.now _ form batches held same in
    let see = g.D.Disk.known in
    let mid = c.in_ok-close_spare.ensures.stands text k h form batches in
    let second = subst (λ (n : LogName). WhileAllKnown (StandsStill text k h (closed_by before)) (RunLeaves (KeepsBy n text k h (closed_by before))) (each see c.close_spare.new.devices) (each see c.begin_beside.new.devices)) active (c.begin_beside.ensures.keeps text k h (closed_by before) active) in
    let begun = c.in_ok-log.ensures.stands text k h (closed_by before) active (headed ∙ ap (λ (n : ℕ). header_with (Later n) text) (sym (closed-number before text))) catalogue in
    let third = for-closed text k h c.args.slots.now _ form batches held same can is (λ (known : KnownStore). WhileAllKnown (StandsBegun text k h known) (RunLeaves (SwitchesByGate text k h held known)) (each see c.begin_beside.new.devices) (each see c.publish_ready.new.devices))
    (λ ready here. c.publish_ready.ensures.keeps text k h form batches held ready here) in
    three-runs text k h before held (each g.D.Disk.known c.args.devices.now) (each g.D.Disk.known c.close_spare.new.devices) (each g.D.Disk.known c.begin_beside.new.devices) (each g.D.Disk.known c.publish_ready.new.devices) (c.close_spare.ensures.keeps text k h form batches) mid second begun third

pub returns-clause-stands : goal.returns-clause-stands
returns-clause-stands g c = λ text k h form batches held can is headed catalogue.
    let before = known_with c.args.slots.now form batches in
    let same = c.in_ok-close_spare.ensures.slots in
    let active = c.active.ensures ∙ active-closed text k h c.args.slots.now _ form batches held same in
    let see = g.D.Disk.known in
    let mid = c.in_ok-close_spare.ensures.stands text k h form batches in
    let begun = c.in_ok-log.ensures.stands text k h (closed_by before) active (headed ∙ ap (λ (n : ℕ). header_with (Later n) text) (sym (closed-number before text))) catalogue in
    let third = for-closed text k h c.args.slots.now _ form batches held same can is (λ (known : KnownStore). WhileAllKnown (StandsBegun text k h known) (λ old new. StandsStill text k h (published_by text known) new) (each see c.begin_beside.new.devices) (each see c.publish_ready.new.devices))
    (λ ready here. c.in_ok-publish_ready.ensures.stands text k h form batches held ready here) in
    three-stand text k h before (λ new. StandsStill text k h (published_by text (closed_by before)) new) (each g.D.Disk.known c.args.devices.now) (each g.D.Disk.known c.close_spare.new.devices) (each g.D.Disk.known c.begin_beside.new.devices) (each g.D.Disk.known c.publish_ready.new.devices) mid begun third

pub returns-clause-slots : goal.returns-clause-slots
returns-clause-slots g c = λ head text is. c.in_ok-publish_ready.ensures.slots head text (c.close_spare.ensures.ready ∙ is) ∙ ap (λ (s : Slots). published_slots head s) c.in_ok-close_spare.ensures.slots
