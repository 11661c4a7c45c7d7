-- Refusals of the layers below as those of a store.
use Rattle.pac_outside.specs.declared.devices.LogName.{LogName}
use Rattle.pac_log.specs.declared.errors.LogError.{LogError}
use Rattle.pac_log.specs.declared.errors.LogError.TheVariants as log
use Rattle.pac_check.specs.declared.errors.SlotError.{SlotError}
use Rattle.pac_check.specs.declared.errors.SlotError.TheVariants as slot
use Rattle.pac_restore.specs.declared.errors.Damage.TheVariants.{Log, Slot}
use Rattle.pac_restore.specs.declared.errors.LoadError.{LoadError}
use Rattle.pac_restore.specs.declared.errors.LoadError.TheVariants as load

-- why the segment on this device isn't read
abbrev pub log_not_loaded : LogName → LogError → LoadError
log_not_loaded name log.NoStore = load.NoStore
log_not_loaded name (log.Damaged at kind) = load.Damaged (Log name at kind)
log_not_loaded name log.DiskFault = load.DiskFault
log_not_loaded name log.NoMemory = load.NoMemory

-- why the slots aren't
abbrev pub slot_not_loaded : SlotError → LoadError
slot_not_loaded slot.DiskFault = load.DiskFault
slot_not_loaded (slot.Damaged name at kind) = load.Damaged (Slot name at kind)
slot_not_loaded slot.NoMemory = load.NoMemory
