-- The first refusal of a store with a damaged slot.
use Rattle.std.proofs.Common.{rules, ◌≡◌, ◌∙◌, Option, ap, subst}
use Rattle.pac_outside.specs.Devices.{each}
use Rattle.pac_outside.specs.Disk.{DiskHistory, IfKnown}
use Rattle.pac_outside.specs.declared.devices.Devices.{Devices}
use Rattle.pac_outside.specs.declared.devices.LogName.{LogName}
use Rattle.pac_check.specs.Kinds.{slot_fault}
use Rattle.pac_restore.specs.declared.errors.Damage.{Damage}
use Rattle.pac_restore.specs.declared.errors.LoadError.TheVariants.{Damaged}
use Rattle.pac_restore.specs.Opening.{IsBrokenSlot}
use Rattle.pac_restore.proofs.CauseLemmas.{as-error}
use Rattle.pac_restore.proofs.OpenLemmas.{refused-opened, ComesOf}
use Rattle.pac_restore.proofs.store.open_store.Goals as goal

pub returns-in-Err-Damaged-clause-refused : goal.returns-in-Err-Damaged-clause-refused
returns-in-Err-Damaged-clause-refused g c =
    let devices = each g.D.Disk.known c.args.devices.now in
    let heads = c.in_ok-heads.field-0.heads in
    let gate = c.in_ok-heads.field-0.reader.gate in
    let catalogue = c.in_ok-catalogue.catalogue in
    let arm = c.in-Err-Damaged in
    let same : catalogue ≡ gate.catalogue = search rules in
    let found : each g.D.Disk.known c.find_segment.new.devices ≡ devices = c.in_ok-heads.ensures.same in
    let later : ◌≡◌ {A = Devices (Option DiskHistory)} (record {
      log = g.D.Disk.known c.find_segment.new.devices.log;
      log_b = g.D.Disk.known c.find_segment.new.devices.log_b;
      slot_a = g.D.Disk.known c.read_newest.new.a;
      slot_b = g.D.Disk.known c.read_newest.new.b;
    }) devices = λ i. record { log = (found i).log; log_b = (found i).log_b; slot_a = (c.read_newest.ensures.same_a ∙ ap (λ (d : Devices (Option DiskHistory)). d.slot_a) found) i; slot_b = (c.read_newest.ensures.same_b ∙ ap (λ (d : Devices (Option DiskHistory)). d.slot_b) found) i } in
    refused-opened heads.a heads.b gate devices c.in_ok-heads.ensures.found catalogue same arm.damage c.first_damage.result
    (λ name at kind is. arm.ensures.no_log name at kind (as-error _ _ (arm.field-0-is ∙ ap (λ (d : Damage). Damaged d) is)))
    (λ name at kind is. subst (λ (d : Devices (Option DiskHistory)). IfKnown (λ x. IfKnown (λ y. IsBrokenSlot catalogue.tables name (slot_fault kind at) x.now.seen y.now.seen) d.slot_b) d.slot_a) found
    (arm.ensures.damaged name at kind (as-error _ _ (arm.field-0-is ∙ ap (λ (d : Damage). Damaged d) is))))
    (subst (λ (t : LogName × Devices (Option DiskHistory)). ComesOf t.0 gate t.1 arm.damage c.first_damage.result) (λ i. (c.active-active.ensures i, later i)) c.first_damage.ensures.either)
