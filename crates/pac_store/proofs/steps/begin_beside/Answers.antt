-- The other log device alone is called.
use Rattle.std.proofs.Common.{◌∙◌, sym, subst}
use Rattle.std.proofs.lemmas.Result.{on_ok_weaker}
use Rattle.pac_outside.proofs.Runs.{four}
use Rattle.pac_outside.specs.Devices.{RunLeaves, WhileAllKnown}
use Rattle.pac_outside.specs.declared.devices.LogName.{LogName}
use Rattle.pac_outside.specs.declared.devices.LogName.TheVariants.{Log, LogB}
use Rattle.pac_store.specs.Saving.{KeepsBy, StandsStill}
use Rattle.pac_store.proofs.StepLemmas.{begin-keeps, begin-stands}
use Rattle.pac_store.proofs.steps.begin_beside.Goals as goal

pub returns-in-Log-clause-keeps : goal.returns-in-Log-clause-keeps
returns-in-Log-clause-keeps g c = λ text k h known active.
    let d = c.args.devices.now in
    let see = g.D.Disk.known in
    subst (λ (n : LogName). WhileAllKnown (StandsStill text k h known) (RunLeaves (KeepsBy n text k h known)) (four (see d.log) (see d.log_b) (see d.slot_a) (see d.slot_b)) (four (see d.log) (see c.begin.new.disk) (see d.slot_a) (see d.slot_b))) (sym c.in-Log.is)
    (begin-keeps text k h known Log (sym active ∙ c.in-Log.is) _ (four (see d.log) (see d.log_b) (see d.slot_a) (see d.slot_b)) _ c.begin.ensures.moments)

pub returns-in-LogB-clause-keeps : goal.returns-in-LogB-clause-keeps
returns-in-LogB-clause-keeps g c = λ text k h known active.
    let d = c.args.devices.now in
    let see = g.D.Disk.known in
    subst (λ (n : LogName). WhileAllKnown (StandsStill text k h known) (RunLeaves (KeepsBy n text k h known)) (four (see d.log) (see d.log_b) (see d.slot_a) (see d.slot_b)) (four (see c.begin-in-LogB.new.disk) (see d.log_b) (see d.slot_a) (see d.slot_b))) (sym c.in-LogB.is)
    (begin-keeps text k h known LogB (sym active ∙ c.in-LogB.is) _ (four (see d.log) (see d.log_b) (see d.slot_a) (see d.slot_b)) _ c.begin-in-LogB.ensures.moments)

pub returns-in-Log-clause-stands : goal.returns-in-Log-clause-stands
returns-in-Log-clause-stands g c =
    let d = c.args.devices.now in
    let see = g.D.Disk.known in
    on_ok_weaker c.begin.result (λ made. λ text k h known active headed same. begin-stands text k h known _ _ headed same Log (sym active ∙ c.in-Log.is) (four (see d.log) (see d.log_b) (see d.slot_a) (see d.slot_b)) _ made) c.begin.ensures.begun

pub returns-in-LogB-clause-stands : goal.returns-in-LogB-clause-stands
returns-in-LogB-clause-stands g c =
    let d = c.args.devices.now in
    let see = g.D.Disk.known in
    on_ok_weaker c.begin-in-LogB.result (λ made. λ text k h known active headed same. begin-stands text k h known _ _ headed same LogB (sym active ∙ c.in-LogB.is) (four (see d.log) (see d.log_b) (see d.slot_a) (see d.slot_b)) _ made) c.begin-in-LogB.ensures.begun
