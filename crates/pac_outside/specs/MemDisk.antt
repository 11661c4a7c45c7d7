-- What is known of a disk in memory.
use Rattle.std.specs.Prelude.{◌≡◌, ◌⊎◌, ℕ, Bool, IsTrue, List, [], ◌∷◌, map}
use Rattle.pac_outside.specs.Calls.{CallState}
use Rattle.pac_outside.specs.Disk.{DiskHistory, HasImages, after_write}
use Rattle.pac_outside.specs.Moments.{moment_state}
use Rattle.pac_outside.specs.declared.mem_disk.MemDisk.{MemDisk}
use Rattle.pac_outside.specs.declared.moment.Moment.{Moment}

-- its states, now and before
abbrev pub history_of : MemDisk → DiskHistory
history_of disk = record { past = map moment_state disk.past.items; now = moment_state disk.present }

-- each of its states has an image, since each moment has
abbrev pub have_images : (past : List Moment) (present : Moment) → HasImages (record { past = map moment_state past; now = moment_state present })
have_images [] present = (present.image, tt)
have_images (moment ∷ past) present = (moment.image, have_images past present)

-- its calls
abbrev pub calls_of : MemDisk → CallState
calls_of disk = disk.calls

-- a write found no memory, so that no image is given any more
abbrev pub has_lost : MemDisk → Bool
has_lost disk = disk.lost

-- the piece was written, or there was no memory for it
abbrev pub IsMade : ℕ → List ℕ → MemDisk → MemDisk → Type 0
IsMade at piece old new = ((history_of new ≡ after_write at piece (history_of old)) × (has_lost new ≡ has_lost old)) ⊎ ((history_of new ≡ history_of old) × IsTrue (has_lost new))
