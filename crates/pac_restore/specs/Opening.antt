-- A store whose active segment is found.
use Rattle.std.specs.Prelude.{◌≡◌, ◌⊎◌, ℕ, List, [], Option, None, Err}
use Rattle.pac_value.specs.State.{Tables}
use Rattle.pac_outside.specs.Devices.{log_at}
use Rattle.pac_outside.specs.Disk.{DiskHistory, IfKnown}
use Rattle.pac_outside.specs.declared.devices.Devices.{Devices}
use Rattle.pac_outside.specs.declared.devices.LogName.{LogName}
use Rattle.pac_types.specs.declared.table.Table.{Table}
use Rattle.pac_types.specs.Typing.{CatalogueState}
use Rattle.pac_log.specs.declared.damage.DamageKind.{DamageKind}
use Rattle.pac_log.specs.declared.header.Header.{Header}
use Rattle.pac_log.specs.declared.position.NextGate.{NextGate}
use Rattle.pac_log.specs.Logs.{base_of}
use Rattle.pac_log.specs.Reading.{IsStore, StandsAfter}
use Rattle.pac_check.specs.declared.damage.SlotDamageKind.TheVariants.{Place}
use Rattle.pac_check.specs.declared.damage.SlotFault.{SlotFault}
use Rattle.pac_check.specs.declared.info.SlotInfo.{SlotInfo}
use Rattle.pac_check.specs.declared.info.SlotName.{SlotName}
use Rattle.pac_check.specs.declared.info.SlotName.TheVariants.{B}
use Rattle.pac_check.specs.declared.slots.Slots.{Slots}
use Rattle.pac_check.specs.declared.state.SlotState.{SlotState}
use Rattle.pac_check.specs.SlotStates.{active_of, by_slot, newest_among, newest_of, saved_txns, slot_read, IsSlot, IsSlotFront}
use Rattle.pac_store.specs.Images.{Images}
use Rattle.pac_store.specs.Stored.{active_among, AreNewest}
use Rattle.pac_restore.specs.Reads.{IsDamagedAfter, IsMissed}
use Rattle.pac_restore.specs.declared.errors.Damage.TheVariants.{Log, Slot}
use Rattle.pac_restore.specs.declared.errors.LoadError.{LoadError}
use Rattle.pac_restore.specs.declared.errors.LoadError.TheVariants.{NoStore, Damaged, DiskFault, NoMemory}

-- where no slot is open, no transaction came before the segment
abbrev pub BeginsTheLog : SlotState → SlotState → NextGate → Type 0
BeginsTheLog a b gate = newest_among a b ≡ None → base_of gate.header ≡ 0

-- Slots begin in these states, and at this gate the segment begins that is active by them; of each device it is said where that is
-- known.
pub record HasFound (a b : SlotState) (gate : NextGate) (devices : Devices (Option DiskHistory)) : Type 0 where
  pub front_a : IfKnown (λ h. IsSlotFront a h.now.seen) devices.slot_a
  pub front_b : IfKnown (λ h. IsSlotFront b h.now.seen) devices.slot_b
  pub log : IfKnown (λ h. IsStore gate.header gate.catalogue h.now.seen × StandsAfter gate.header [] gate h.now.seen) (log_at (active_among a b) devices)
  pub begins : BeginsTheLog a b gate

-- the same of images
pub record IsFoundIn (a b : SlotState) (gate : NextGate) (images : Images) : Type 0 where
  pub front_a : IsSlotFront a images.slot_a
  pub front_b : IsSlotFront b images.slot_b
  pub store : IsStore gate.header gate.catalogue (log_at (active_among a b) images)
  pub stands : StandsAfter gate.header [] gate (log_at (active_among a b) images)
  pub begins : BeginsTheLog a b gate

-- the tables of the newest of two slots
abbrev pub AreNewestOf : CatalogueState → Slots → Tables → List ℕ → List ℕ → Type 0
AreNewestOf catalogue slots base a b = AreNewest catalogue a b (newest_of slots) base (saved_txns (newest_of slots))

-- the bytes of this slot have this first fault; those of slot a have none where it is slot b
pub record IsBrokenSlot (tables : List Table) (slot : SlotName) (fault : SlotFault) (a b : List ℕ) : Type 0 where
  pub fault_of : slot_read tables (by_slot slot a b) ≡ Err fault
  pub first : slot ≡ B → (state : SlotState) × IsSlot tables state a

-- a refusal of the segment on this device: where it is damage, this holds of it
abbrev pub IsInLog : LogName → (ℕ → DamageKind → Type 0) → LoadError → Type 0
IsInLog name P NoStore = ⊥
IsInLog name P (Damaged (Log other at kind)) = (other ≡ name) × P at kind
IsInLog name P (Damaged (Slot slot at kind)) = ⊥
IsInLog name P DiskFault = Unit {0}
IsInLog name P NoMemory = Unit {0}

-- What stands against a segment on this device, beside the newest slot: damage of it, or the slot names no gate of it.
abbrev pub IsRefusedOn : LogName → Option SlotInfo → NextGate → Option DiskHistory → LoadError → Type 0
IsRefusedOn name newest gate known error =
    IsInLog name (λ at kind. (header : Header) → IfKnown (λ h. StandsAfter header [] gate h.now.seen → IsDamagedAfter header gate.catalogue at kind h.now.seen) known) error
    ⊎ ((missed : IsMissed known newest gate) × (error ≡ Damaged (Slot missed.0.slot 9 Place)))

-- what stands against a store that was opened
abbrev pub IsRefusedReading : Slots → NextGate → Devices (Option DiskHistory) → LoadError → Type 0
IsRefusedReading slots gate devices error = IsRefusedOn (active_of slots) (newest_of slots) gate (log_at (active_of slots) devices) error
