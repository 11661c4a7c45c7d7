-- What devices hold that are refused.
use Rattle.std.specs.Prelude.{Option}
use Rattle.pac_outside.specs.Disk.{DiskHistory}
use Rattle.pac_outside.specs.declared.devices.Devices.{Devices}
use Rattle.pac_store.specs.FirstRefusals.{IsFirstRefusal, Refused as refused}
use Rattle.pac_store.specs.Images.{IfImagesKnown}
use Rattle.pac_restore.specs.declared.errors.Damage.TheVariants.{Log, Slot}
use Rattle.pac_restore.specs.declared.errors.LoadError.{LoadError}
use Rattle.pac_restore.specs.declared.errors.LoadError.TheVariants.{NoStore, Damaged, DiskFault, NoMemory}

-- Devices are refused so for what they hold, where they are known. That a device failed, or that memory was wanting, says nothing
-- of what they hold.
abbrev pub AreRefusedAs : Devices (Option DiskHistory) → LoadError → Type 0
AreRefusedAs devices NoStore = IfImagesKnown (IsFirstRefusal refused.NoStore) devices
AreRefusedAs devices (Damaged (Log name at kind)) = IfImagesKnown (IsFirstRefusal (refused.InLog name at kind)) devices
AreRefusedAs devices (Damaged (Slot slot at kind)) = IfImagesKnown (IsFirstRefusal (refused.InSlot slot at kind)) devices
AreRefusedAs devices DiskFault = Unit {0}
AreRefusedAs devices NoMemory = Unit {0}
