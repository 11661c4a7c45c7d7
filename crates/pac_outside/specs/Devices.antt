-- Several devices at once.
use Rattle.std.specs.Prelude.{◌≡◌, ◌⊎◌, ℕ, List, Option, Some, None, Result, MatchResult}
use Rattle.pac_outside.specs.Causes.{one_more}
use Rattle.pac_outside.specs.Disk.{DiskHistory, DiskState, IsImage, becomes, settled}
use Rattle.pac_outside.specs.declared.devices.Devices.{Devices}
use Rattle.pac_outside.specs.declared.devices.LogName.{LogName}
use Rattle.pac_outside.specs.declared.devices.LogName.TheVariants.{Log, LogB}

-- what is seen of each device of a store
abbrev pub each : {D A : Type 0} → (D → A) → Devices D → Devices A
each view devices = record { log = view devices.log; log_b = view devices.log_b; slot_a = view devices.slot_a; slot_b = view devices.slot_b }

-- R holds of each device: of what is seen of it here and there
pub record OnEach {A B : Type 0} (R : A → B → Type 0) (here : Devices A) (there : Devices B) : Type 0 where
  pub log : R here.log there.log
  pub log_b : R here.log_b there.log_b
  pub slot_a : R here.slot_a there.slot_a
  pub slot_b : R here.slot_b there.slot_b

-- which of the devices it is
pub data WhichDevice : Type 0 where
  the_log : WhichDevice
  the_log_b : WhichDevice
  the_slot_a : WhichDevice
  the_slot_b : WhichDevice

-- this one of them
abbrev pub device_at : {D : Type 0} → WhichDevice → Devices D → D
device_at the_log devices = devices.log
device_at the_log_b devices = devices.log_b
device_at the_slot_a devices = devices.slot_a
device_at the_slot_b devices = devices.slot_b

-- the devices, with this one in its place
abbrev pub with_device : {D : Type 0} → WhichDevice → D → Devices D → Devices D
with_device the_log device devices = record { log = device; log_b = devices.log_b; slot_a = devices.slot_a; slot_b = devices.slot_b }
with_device the_log_b device devices = record { log = devices.log; log_b = device; slot_a = devices.slot_a; slot_b = devices.slot_b }
with_device the_slot_a device devices = record { log = devices.log; log_b = devices.log_b; slot_a = device; slot_b = devices.slot_b }
with_device the_slot_b device devices = record { log = devices.log; log_b = devices.log_b; slot_a = devices.slot_a; slot_b = device }

-- the other one of the two log devices
abbrev pub other_log : LogName → LogName
other_log Log = LogB
other_log LogB = Log

-- a log device, as one of the four
abbrev pub log_named : LogName → WhichDevice
log_named Log = the_log
log_named LogB = the_log_b

-- this log device
abbrev pub log_at : {D : Type 0} → LogName → Devices D → D
log_at name devices = device_at (log_named name) devices

-- what is known of four devices, where all of it is
abbrev pub all_four : Option DiskHistory → Option DiskHistory → Option DiskHistory → Option DiskHistory → Option (Devices DiskHistory)
all_four None log_b a b = None
all_four (Some log) None a b = None
all_four (Some log) (Some log_b) None b = None
all_four (Some log) (Some log_b) (Some a) None = None
all_four (Some log) (Some log_b) (Some a) (Some b) = Some (record { log = log; log_b = log_b; slot_a = a; slot_b = b })

-- what is known of the devices, where all of it is
abbrev pub all_known : Devices (Option DiskHistory) → Option (Devices DiskHistory)
all_known devices = all_four devices.log devices.log_b devices.slot_a devices.slot_b

-- what is known before and after has R; it is known after where it was before
abbrev pub OnceKnown : (Devices DiskHistory → Devices DiskHistory → Type 0) → Option (Devices DiskHistory) → Option (Devices DiskHistory) → Type 0
OnceKnown R None new = Unit {0}
OnceKnown R (Some old) None = ⊥
OnceKnown R (Some old) (Some new) = R old new

-- where all devices' histories are known before a call, they are after it, and their histories have R
abbrev pub IfAllKnown : (Devices DiskHistory → Devices DiskHistory → Type 0) → Devices (Option DiskHistory) → Devices (Option DiskHistory) → Type 0
IfAllKnown R old new = OnceKnown R (all_known old) (all_known new)

-- where what is known before has P, it is known after too, and the two have R
abbrev pub WhileKnown : (Devices DiskHistory → Type 0) → (Devices DiskHistory → Devices DiskHistory → Type 0) → Option (Devices DiskHistory) → Option (Devices DiskHistory) → Type 0
WhileKnown P R None new = Unit {0}
WhileKnown P R (Some old) None = P old → ⊥
WhileKnown P R (Some old) (Some new) = P old → R old new

-- where all devices' histories are known and have P before a call, they are known after it, and their histories have R
abbrev pub WhileAllKnown : (Devices DiskHistory → Type 0) → (Devices DiskHistory → Devices DiskHistory → Type 0) → Devices (Option DiskHistory) → Devices (Option DiskHistory) → Type 0
WhileAllKnown P R old new = WhileKnown P R (all_known old) (all_known new)

-- one image of each device
abbrev pub AreImages : Devices DiskHistory → Devices (List ℕ) → Type 0
AreImages devices images = OnEach (λ device image. IsImage device.now image) devices images

-- a crash now leaves only images that have P
abbrev pub AllLeave : (Devices (List ℕ) → Type 0) → Devices DiskHistory → Type 0
AllLeave P devices = (images : Devices (List ℕ)) → AreImages devices images → P images

-- A run of calls of several devices, while a crash at any moment leaves only images that have P: at each moment it does,
-- and from one to the next one device becomes another state, and the others stay as they are. So each device goes through
-- the states that it says, through all of them and no others. No device says which of two devices' moments comes first,
-- so it is some order of them that has P. That the order of the calls has it follows from what a call says at each exit: a
-- device may fail from any call on, and be the last that is called, as `EndsAtOneFault` says; the exit is that moment then.
pub data RunLeaves (P : Devices (List ℕ) → Type 0) : Devices DiskHistory → Devices DiskHistory → Type 0 where
  rests : (devices : Devices DiskHistory) → AllLeave P devices → RunLeaves P devices devices
  steps : (which : WhichDevice) (devices end : Devices DiskHistory) (next : DiskState)
      → AllLeave P devices
      → RunLeaves P (with_device which (becomes next (device_at which devices)) devices) end → RunLeaves P devices end

-- a crash at any moment leaves images that it might have left before
abbrev pub RunsAsBefore : Devices DiskHistory → Devices DiskHistory → Type 0
RunsAsBefore old = RunLeaves (AreImages old) old

-- a crash leaves of each device what a read of it gave
abbrev pub AreSettled : Devices DiskHistory → Devices DiskHistory → Type 0
AreSettled old new = OnEach (λ was is. is.now ≡ settled was.now.seen) old new

-- one of two counts of faults, each as it was before and as it is now, rose by one, and the other didn't
abbrev pub EitherFaulted : ℕ → ℕ → ℕ → ℕ → Type 0
EitherFaulted before_a a before_b b = ((a ≡ one_more before_a) × (b ≡ before_b)) ⊎ ((a ≡ before_a) × (b ≡ one_more before_b))

-- one device's count of faults rose by one, that of a log device or that of a slot, and no other did
abbrev pub OneFaulted : Devices ℕ → Devices ℕ → Type 0
OneFaulted before now = (EitherFaulted before.log now.log before.log_b now.log_b × (now.slot_a ≡ before.slot_a) × (now.slot_b ≡ before.slot_b))
    ⊎ ((now.log ≡ before.log) × (now.log_b ≡ before.log_b) × EitherFaulted before.slot_a now.slot_a before.slot_b now.slot_b)

-- Calls of several devices of which none comes after one that failed, and no failure is dropped.
abbrev pub EndsAtOneFault : {T E : Type 0} → Devices ℕ → Devices ℕ → Result T E → Type 0
EndsAtOneFault before now result = MatchResult result (λ _. now ≡ before) (λ _. OneFaulted before now)
