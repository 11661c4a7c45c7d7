-- What is known of the log alone, of the slots, and of what a read gives.
use Rattle.std.specs.Prelude.{ℕ, List, Option, option_map}
use Rattle.pac_outside.specs.Devices.{each, log_at}
use Rattle.pac_outside.specs.Disk.{DiskHistory, DiskState, IfKnown}
use Rattle.pac_outside.specs.declared.devices.Devices.{Devices}
use Rattle.pac_outside.specs.declared.devices.LogName.{LogName}

-- what a read gives of each device
abbrev pub reads_of : Devices DiskHistory → Devices (List ℕ)
reads_of devices = each (λ device. device.now.seen) devices

-- what a read gives, where the device is known
abbrev pub known_read : Option DiskHistory → Option (List ℕ)
known_read known = option_map (λ history. history.now.seen) known

-- and what it gives of each of several devices
abbrev pub known_reads : Devices (Option DiskHistory) → Devices (Option (List ℕ))
known_reads devices = each known_read devices

-- both slots of a store
abbrev pub slots_of : {A : Type 0} → Devices A → A × A
slots_of devices = (devices.slot_a, devices.slot_b)

-- both log devices of a store
abbrev pub logs_of : {A : Type 0} → Devices A → A × A
logs_of devices = (devices.log, devices.log_b)

-- this log device is in a state that has P, where it is known
abbrev pub OfLog : (DiskState → Type 0) → LogName → Devices (Option DiskHistory) → Type 0
OfLog P name devices = IfKnown (λ history. P history.now) (log_at name devices)
