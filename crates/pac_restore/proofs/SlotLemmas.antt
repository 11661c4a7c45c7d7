-- What is refused of a log and of the slots.
use Rattle.std.proofs.Common.{◌≡◌, ℕ, List, Option, Some, None, Err, refl}
use Rattle.pac_outside.specs.Disk.{DiskHistory, IfKnown}
use Rattle.pac_outside.specs.declared.devices.LogName.{LogName}
use Rattle.pac_types.specs.declared.table.Table.{Table}
use Rattle.pac_log.specs.declared.damage.DamageKind.{DamageKind}
use Rattle.pac_log.specs.declared.errors.LogError.{LogError}
use Rattle.pac_log.specs.declared.errors.LogError.TheVariants as log
use Rattle.pac_check.specs.declared.damage.SlotDamageKind.{SlotDamageKind}
use Rattle.pac_check.specs.declared.errors.SlotError.{SlotError}
use Rattle.pac_check.specs.declared.errors.SlotError.TheVariants as slot
use Rattle.pac_check.specs.declared.info.SlotName.{SlotName}
use Rattle.pac_check.specs.declared.info.SlotName.TheVariants.{A, B}
use Rattle.pac_check.specs.declared.state.SlotState.{SlotState}
use Rattle.pac_check.specs.Kinds.{slot_fault}
use Rattle.pac_check.specs.SlotStates.{by_slot, slot_read, IsSlot}
use Rattle.pac_restore.specs.declared.errors.Damage.TheVariants.{Slot}
use Rattle.pac_restore.specs.declared.errors.LoadError.TheVariants as load
use Rattle.pac_restore.specs.Causes.{log_not_loaded, slot_not_loaded}
use Rattle.pac_restore.specs.Opening.{IsBrokenSlot, IsInLog}

-- a log that isn't read, for what it holds behind its header
pub log-refused : (name : LogName) (P : ℕ → DamageKind → Type 0) (cause : LogError) → (cause ≡ log.NoStore → ⊥) → ((at : ℕ) (kind : DamageKind) → cause ≡ log.Damaged at kind → P at kind) → IsInLog name P (log_not_loaded name cause)
log-refused name P log.NoStore known damaged = known refl
log-refused name P (log.Damaged at kind) known damaged = (refl, damaged at kind refl)
log-refused name P log.DiskFault known damaged = tt
log-refused name P log.NoMemory known damaged = tt

-- what is reported as damage of a slot is damage of it
pub slot-cause : (cause : SlotError) (name : SlotName) (at : ℕ) (kind : SlotDamageKind) → slot_not_loaded cause ≡ load.Damaged (Slot name at kind) → cause ≡ slot.Damaged name at kind
slot-cause slot.DiskFault name at kind e = absurd cc
slot-cause (slot.Damaged other place what) name at kind e = cc
slot-cause slot.NoMemory name at kind e = absurd cc

not-b : A ≡ B → ⊥
not-b e = cc

pub broken-slot : (tables : List Table) (name : SlotName) (at : ℕ) (kind : SlotDamageKind) (a b : Option DiskHistory)
    → IfKnown (λ h. slot_read tables h.now.seen ≡ Err (slot_fault kind at)) (by_slot name a b)
    → (name ≡ B → IfKnown (λ h. (state : SlotState) × IsSlot tables state h.now.seen) a)
    → IfKnown (λ x. IfKnown (λ y. IsBrokenSlot tables name (slot_fault kind at) x.now.seen y.now.seen) b) a
broken-slot tables name at kind None b fault first = tt
broken-slot tables name at kind (Some x) None fault first = tt
broken-slot tables A at kind (Some x) (Some y) fault first = record { fault_of = fault; first = λ e. absurd (not-b e) }
broken-slot tables B at kind (Some x) (Some y) fault first = record { fault_of = fault; first = first }

-- slots that are whole have no damage
pub known-whole : (name : SlotName) (a b : Option DiskHistory) → IfKnown (λ h. ⊥) (by_slot name a b) → IfKnown (λ x. IfKnown (λ y. ⊥) b) a
known-whole A None b none = tt
known-whole A (Some x) b none = absurd none
known-whole B None b none = tt
known-whole B (Some x) b none = none
