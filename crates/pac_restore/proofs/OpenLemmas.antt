-- What is refused of a store that is opened and read, and what is known of it.
use Rattle.std.proofs.Common.{◌≡◌, ◌⊎◌, inl, inr, ℕ, List, [], Option, Some, None, refl, sym, subst}
use Rattle.pac_ops.specs.declared.transaction.Txn.{Txn}
use Rattle.pac_outside.specs.Devices.{log_at}
use Rattle.pac_outside.specs.Disk.{DiskHistory, IfKnown}
use Rattle.pac_outside.specs.declared.devices.Devices.{Devices}
use Rattle.pac_outside.specs.declared.devices.LogName.{LogName}
use Rattle.pac_types.specs.Typing.{CatalogueState}
use Rattle.pac_log.specs.declared.damage.DamageKind.{DamageKind}
use Rattle.pac_log.specs.declared.header.Header.{Header}
use Rattle.pac_log.specs.declared.position.NextGate.{NextGate}
use Rattle.pac_log.specs.Logs.{HoldsLog}
use Rattle.pac_log.specs.Reading.{StandsAfter}
use Rattle.pac_check.specs.declared.damage.SlotDamageKind.{SlotDamageKind}
use Rattle.pac_check.specs.declared.info.SlotInfo.{SlotInfo}
use Rattle.pac_check.specs.declared.info.SlotName.{SlotName}
use Rattle.pac_check.specs.declared.slots.Slots.{Slots}
use Rattle.pac_check.specs.declared.state.SlotState.{SlotState}
use Rattle.pac_check.specs.Kinds.{slot_fault}
use Rattle.pac_check.specs.SlotStates.{IsSlot}
use Rattle.pac_store.specs.Stored.{active_among}
use Rattle.pac_restore.specs.declared.errors.Damage.{Damage}
use Rattle.pac_restore.specs.declared.errors.Damage.TheVariants.{Log, Slot}
use Rattle.pac_restore.specs.declared.errors.LoadError.{LoadError}
use Rattle.pac_restore.specs.declared.errors.LoadError.TheVariants.{NoStore, Damaged, DiskFault, NoMemory}
use Rattle.pac_restore.specs.Opening.{HasFound, IsBrokenSlot, IsInLog, IsRefusedOn, IsRefusedReading}
use Rattle.pac_restore.specs.Reads.{IsDamagedAfter}
use Rattle.pac_restore.specs.Refusals.{AreRefusedAs}
use Rattle.pac_restore.proofs.RefusalLemmas.{refused-log, refused-place, refused-slot}

-- the same error of other devices that are the same
pub refused-same : (devices others : Devices (Option DiskHistory)) (error : LoadError) → others ≡ devices → AreRefusedAs others error → AreRefusedAs devices error
refused-same devices others error same = subst (λ (d : Devices (Option DiskHistory)). AreRefusedAs d error) same

-- what holds of damage of the segment holds of a refusal of it
pub in-log-then : (name : LogName) (P Q : ℕ → DamageKind → Type 0) (error : LoadError) → ((at : ℕ) (kind : DamageKind) → P at kind → Q at kind) → IsInLog name P error → IsInLog name Q error
in-log-then name P Q NoStore step is = absurd is
in-log-then name P Q (Damaged (Log other at kind)) step is = (is.0, step at kind is.1)
in-log-then name P Q (Damaged (Slot slot at kind)) step is = absurd is
in-log-then name P Q DiskFault step is = tt
in-log-then name P Q NoMemory step is = tt

-- where no slot is open, only the segment is refused
pub only-log : (name : LogName) (gate : NextGate) (known : Option DiskHistory) (error : LoadError) → IsRefusedOn name None gate known error
    → IsInLog name (λ at kind. (header : Header) → IfKnown (λ h. StandsAfter header [] gate h.now.seen → IsDamagedAfter header gate.catalogue at kind h.now.seen) known) error
only-log name gate known error (inl log) = log
only-log name gate known error (inr missed) = absurd (no-info missed.0.0 missed.0.1)
  where
    no-info : (info : SlotInfo) → None ≡ Some info → ⊥
    no-info info e = cc

-- what comes of a damaged slot once the segment is read: that damage where the segment is whole, or what the segment is refused for
abbrev pub ComesOf : LogName → NextGate → Devices (Option DiskHistory) → Damage → LoadError → Type 0
ComesOf active gate devices damage result =
    ((result ≡ Damaged damage) × ((header : Header) → IfKnown (λ h. StandsAfter header [] gate h.now.seen → (batches : List (List Txn)) × HoldsLog header gate.catalogue batches h.now.seen) (log_at active devices)))
    ⊎ IsInLog active (λ at kind. (header : Header) → IfKnown (λ h. StandsAfter header [] gate h.now.seen → IsDamagedAfter header gate.catalogue at kind h.now.seen) (log_at active devices)) result

-- slots of which one is damaged, beside what the segment was read for
pub refused-opened : (a b : SlotState) (gate : NextGate) (devices : Devices (Option DiskHistory)) → HasFound a b gate devices → (catalogue : CatalogueState) → catalogue ≡ gate.catalogue → (damage : Damage) (result : LoadError)
    → ((name : LogName) (at : ℕ) (kind : DamageKind) → damage ≡ Log name at kind → ⊥)
    → ((name : SlotName) (at : ℕ) (kind : SlotDamageKind) → damage ≡ Slot name at kind → IfKnown (λ x. IfKnown (λ y. IsBrokenSlot catalogue.tables name (slot_fault kind at) x.now.seen y.now.seen) devices.slot_b) devices.slot_a)
    → ComesOf (active_among a b) gate devices damage result → AreRefusedAs devices result
refused-opened a b gate devices found catalogue same damage result no_log broken (inl whole) = subst (AreRefusedAs devices) (sym whole.0) (go damage refl)
  where
    go : (d : Damage) → damage ≡ d → AreRefusedAs devices (Damaged d)
    go (Log name at kind) is = absurd (no_log name at kind is)
    go (Slot name at kind) is = refused-slot a b gate devices found catalogue same name at kind whole.1 (broken name at kind is)
refused-opened a b gate devices found catalogue same damage result no_log broken (inr log) = refused-log a b gate devices found result log

-- the segment is damaged, or the newest slot names no gate of it
pub refused-reading : (slots : Slots) (gate : NextGate) (devices : Devices (Option DiskHistory)) → HasFound slots.a slots.b gate devices → (catalogue : CatalogueState) → catalogue ≡ gate.catalogue
    → IfKnown (λ h. IsSlot catalogue.tables slots.a h.now.seen) devices.slot_a → IfKnown (λ h. IsSlot catalogue.tables slots.b h.now.seen) devices.slot_b → (error : LoadError) → IsRefusedReading slots gate devices error → AreRefusedAs devices error
refused-reading slots gate devices found catalogue same is_a is_b error (inl log) = refused-log slots.a slots.b gate devices found error log
refused-reading slots gate devices found catalogue same is_a is_b error (inr missed) = subst (AreRefusedAs devices) (sym missed.1) (refused-place slots.a slots.b gate devices found catalogue same is_a is_b missed.0)
