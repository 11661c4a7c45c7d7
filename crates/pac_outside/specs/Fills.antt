-- The images that a disk in memory gives: each by what fills the written offsets, and by its length.
use Rattle.std.specs.Prelude.{◌≡◌, ℕ, ◌<◌, Bool, if◌then◌else◌, List, length, slice_index}
use Rattle.pac_outside.specs.Disk.{DiskState, is_unsynced}
use Rattle.pac_outside.specs.declared.moment.Fill.{Fill}
use Rattle.pac_outside.specs.declared.moment.Fill.TheVariants.{Old, New, Byte}

-- the byte at an offset at the last sync; 0 where there was none
abbrev pub byte_at_sync : DiskState → ℕ → ℕ
byte_at_sync state offset = slice_index state.synced offset

-- what an offset holds that was written since then: its byte at the sync, the byte that was last to be written, or this one
abbrev pub filled : Fill → DiskState → ℕ → ℕ
filled Old state offset = byte_at_sync state offset
filled New state offset = slice_index state.seen offset
filled (Byte byte) state offset = byte

-- the byte at an offset of the image
abbrev pub byte_left : Fill → DiskState → ℕ → ℕ
byte_left fill state offset = if is_unsynced state offset then filled fill state offset else byte_at_sync state offset

-- the image by this fill, of the present length where it has grown and else of that at the sync
pub record IsFilled (fill : Fill) (grown : Bool) (state : DiskState) (image : List ℕ) : Type 0 where
  pub len : length image ≡ (if grown then length state.seen else length state.synced)
  pub bytes : (offset : ℕ) → offset < length image → slice_index image offset ≡ byte_left fill state offset
