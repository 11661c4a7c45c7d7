-- The store that is made, and which device is reported where one isn't empty.
use Rattle.std.specs.Prelude.{◌≡◌, ◌<◌, ℕ, List, [], ◌∷◌, ◌++◌, length, codes}
use Rattle.pac_outside.specs.Disk.{DiskHistory, settled}
use Rattle.pac_outside.specs.declared.devices.Devices.{Devices}
use Rattle.pac_log.specs.Logs.{header_bytes, header_with}
use Rattle.pac_log.specs.declared.header.HeaderForm.TheVariants.{First}
use Rattle.pac_log.specs.declared.errors.CreateError.{CreateError}
use Rattle.pac_log.specs.declared.errors.CreateError.TheVariants as log
use Rattle.pac_store.specs.declared.device.DeviceName.{DeviceName}
use Rattle.pac_store.specs.declared.device.DeviceName.TheVariants.{Log, LogB, SlotA, SlotB}
use Rattle.pac_store.specs.declared.errors.MakeError.{MakeError}
use Rattle.pac_store.specs.declared.errors.MakeError.TheVariants.{NotEmpty, DiskFault, NoMemory}

-- the name of a device, as it is shown to a user
abbrev pub device_name : DeviceName → List ℕ
device_name Log = codes "log"
device_name LogB = codes "log_b"
device_name SlotA = codes "a"
device_name SlotB = codes "b"

-- a device has that many bytes
abbrev pub HasLength : ℕ → DiskHistory → Type 0
HasLength n device = length device.now.seen ≡ n

-- no device has a byte
abbrev pub AreEmpty : Devices DiskHistory → Type 0
AreEmpty devices = HasLength 0 devices.log × HasLength 0 devices.log_b × HasLength 0 devices.slot_a × HasLength 0 devices.slot_b

-- this device has that many bytes, and is the first of the log, the second log device, slot a and slot b that has any
abbrev pub IsFirstInUse : DeviceName → ℕ → Devices DiskHistory → Type 0
IsFirstInUse Log n devices = (0 < n) × HasLength n devices.log
IsFirstInUse LogB n devices = (0 < n) × HasLength 0 devices.log × HasLength n devices.log_b
IsFirstInUse SlotA n devices = (0 < n) × (HasLength 0 devices.log × HasLength 0 devices.log_b) × HasLength n devices.slot_a
IsFirstInUse SlotB n devices = (0 < n) × (HasLength 0 devices.log × HasLength 0 devices.log_b × HasLength 0 devices.slot_a) × HasLength n devices.slot_b

-- The store of a catalogue's text: a crash leaves of the log the header and a closed gate, and of each slot the one byte 0. Of the
-- second log device nothing is said.
abbrev pub IsNewStore : List ℕ → Devices DiskHistory → Type 0
IsNewStore text devices = (devices.log.now ≡ settled (header_bytes (header_with First text) ++ 0 ∷ []))
    × (devices.slot_a.now ≡ settled (0 ∷ [])) × (devices.slot_b.now ≡ settled (0 ∷ []))

-- it was made on empty devices, of which the second log device was not written
abbrev pub MakesStore : List ℕ → Devices DiskHistory → Devices DiskHistory → Type 0
MakesStore text old new = AreEmpty old × IsNewStore text new × (new.log_b ≡ old.log_b)

-- this device is the first that has bytes, which are this many, and nothing was written
abbrev pub IsInUse : DeviceName → ℕ → Devices DiskHistory → Devices DiskHistory → Type 0
IsInUse device n old new = IsFirstInUse device n old × (new ≡ old)

-- a log that isn't made
abbrev pub log_not_made : CreateError → MakeError
log_not_made (log.NotEmpty length) = NotEmpty Log length
log_not_made log.DiskFault = DiskFault
log_not_made log.NoMemory = NoMemory
