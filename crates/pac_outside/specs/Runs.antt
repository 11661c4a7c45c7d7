-- What a run of several devices says of each state that one of them was in.
use Rattle.std.specs.Prelude.{◌≡◌, ◌≢◌, ℕ, List, [], ◌∷◌, ◌++◌}
use Rattle.std.specs.List.{AllByRecursion}
use Rattle.pac_outside.specs.Devices.{AllLeave, OnEach, WhichDevice, device_at, with_device}
use Rattle.pac_outside.specs.Disk.{DiskHistory, DiskState, HasImages, becomes, settled, states}
use Rattle.pac_outside.specs.declared.devices.Devices.{Devices}

-- a disk goes on from one history to another: it forgets none of its states
pub record GoesOn (old new : DiskHistory) : Type 0 where
  pub since : List DiskState
  pub grown : states new ≡ states old ++ since

-- each of several disks does
abbrev pub AllGoOn : Devices DiskHistory → Devices DiskHistory → Type 0
AllGoOn old new = OnEach GoesOn old new

-- what is read of a device is one of its images, in each of its states
pub record AllHaveImages (devices : Devices DiskHistory) : Type 0 where
  pub log : HasImages devices.log
  pub log_b : HasImages devices.log_b
  pub slot_a : HasImages devices.slot_a
  pub slot_b : HasImages devices.slot_b

-- a moment between: each disk is in a state that it says, and a crash leaves only images that have P
pub record IsMoment (P : Devices (List ℕ) → Type 0) (old new moment : Devices DiskHistory) : Type 0 where
  pub begun : AllGoOn old moment
  pub ended : AllGoOn moment new
  pub leaves : AllLeave P moment

-- at some moment between this one of the disks was in this state
pub record IsPassed (P : Devices (List ℕ) → Type 0) (old new : Devices DiskHistory) (which : WhichDevice) (state : DiskState) : Type 0 where
  pub moment : Devices DiskHistory
  pub is : IsMoment P old new moment
  pub now : (device_at which moment).now ≡ state

-- so it is of the disk's state before, and of each that it says since
pub record EachIsPassed (P : Devices (List ℕ) → Type 0) (old new : Devices DiskHistory) (which : WhichDevice) : Type 0 where
  pub since : List DiskState
  pub grown : states (device_at which new) ≡ states (device_at which old) ++ since
  pub each : AllByRecursion (IsPassed P old new which) ((device_at which old).now ∷ since)

-- a disk that is in this state, and was in no other
abbrev pub disk_in : DiskState → DiskHistory
disk_in state = record { past = []; now = state }

-- in this state of this disk, while the others stay as they are, a crash leaves only images that have P
abbrev pub LeavesIn : (Devices (List ℕ) → Type 0) → WhichDevice → Devices DiskHistory → DiskState → Type 0
LeavesIn P which devices state = AllLeave P (with_device which (disk_in state) devices)

-- this disk alone goes on to another history, and so it is of its state before, and of each that it says since
pub record OneGoesOn (P : Devices (List ℕ) → Type 0) (which : WhichDevice) (devices : Devices DiskHistory) (new : DiskHistory) : Type 0 where
  pub since : List DiskState
  pub grown : states new ≡ states (device_at which devices) ++ since
  pub each : AllByRecursion (LeavesIn P which devices) ((device_at which devices).now ∷ since)

-- a disk that was always empty
abbrev pub empty_disk : DiskHistory
empty_disk = disk_in (settled [])

-- it held the byte 7, all synced, and is empty again
abbrev pub was_seven : DiskHistory
was_seven = becomes (settled []) (becomes (settled (7 ∷ [])) empty_disk)

-- the image of the log isn't the byte 7 alone
abbrev pub IsNotSeven : Devices (List ℕ) → Type 0
IsNotSeven images = images.log ≢ 7 ∷ []
