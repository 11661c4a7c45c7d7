-- What a disk holds from moment to moment, and what a crash at each of them may leave.
use Rattle.std.specs.Prelude.{◌≡◌, ℕ, ◌+◌, ◌<◌, ◌≤◌, Bool, false, ◌&&◌, List, [], ◌∷◌, ◌++◌, length, take, drop, slice_index, slice_index_or, nat_le, nat_lt, Option, Some, None}
use Rattle.std.specs.List.{list_any, AllByRecursion}

-- a disk at one moment: the bytes at the last sync that succeeded, offset and length of each write since then, the
-- latest first, and what a read gives
pub record DiskState : Type 0 where
  pub synced : List ℕ
  pub written : List (ℕ × ℕ)
  pub seen : List ℕ

-- the offset lies in the range, which is known by its offset and its length
abbrev pub is_within : ℕ × ℕ → ℕ → Bool
is_within range offset = nat_le range.0 offset && nat_lt offset (range.0 + range.1)

-- the offset was written since the last sync
abbrev pub is_unsynced : DiskState → ℕ → Bool
is_unsynced state offset = list_any (λ range. is_within range offset) state.written

-- A crash at this moment may leave these bytes. Offsets that were written since the last sync, and so all after the
-- bytes of that sync, may hold anything; the length may be any from the one at the sync to the present one.
pub record IsImage (state : DiskState) (image : List ℕ) : Type 0 where
  pub no_shorter : length state.synced ≤ length image
  pub no_longer : length image ≤ length state.seen
  pub stays : (offset : ℕ) → offset < length state.synced → is_unsynced state offset ≡ false → slice_index image offset ≡ slice_index state.synced offset

-- a piece from an offset on, over what stood there
abbrev pub spliced : ℕ → List ℕ → List ℕ → List ℕ
spliced at piece bytes = take at bytes ++ (piece ++ drop (at + length piece) bytes)

-- after a write that wasn't synced
abbrev pub wrote : ℕ → List ℕ → DiskState → DiskState
wrote at piece state = record { synced = state.synced; written = (at, length piece) ∷ state.written; seen = spliced at piece state.seen }

-- all bytes are synced
abbrev pub settled : List ℕ → DiskState
settled bytes = record { synced = bytes; written = []; seen = bytes }

-- what is known of a disk: how it is now, and how it was at each moment before, the oldest first
pub record DiskHistory : Type 0 where
  pub past : List DiskState
  pub now : DiskState

-- all states that it says, the oldest first
abbrev pub states : DiskHistory → List DiskState
states history = history.past ++ history.now ∷ []

-- a moment later
abbrev pub becomes : DiskState → DiskHistory → DiskHistory
becomes state history = record { past = history.past ++ history.now ∷ []; now = state }

-- a moment later, when a piece was written
abbrev pub after_write : ℕ → List ℕ → DiskHistory → DiskHistory
after_write at piece history = becomes (wrote at piece history.now) history

-- a moment later, when all was synced
abbrev pub after_sync : DiskHistory → DiskHistory
after_sync history = becomes (settled history.now.seen) history

-- a crash at this moment leaves only what has P
abbrev pub Leaves : (List ℕ → Type 0) → DiskState → Type 0
Leaves P state = (image : List ℕ) → IsImage state image → P image

-- A crash at any moment from old to new leaves only what has P: in the state at first, and in each that came since. None is
-- left out.
pub record LeavesOnly (P : List ℕ → Type 0) (old new : DiskHistory) : Type 0 where
  pub since : List DiskState
  pub grown : states new ≡ states old ++ since
  pub first : Leaves P old.now
  pub each : AllByRecursion (Leaves P) since

-- what a read gives stays but for this range, and isn't cut
pub record SeenOutside (at count : ℕ) (old new : DiskHistory) : Type 0 where
  pub no_shorter : length old.now.seen ≤ length new.now.seen
  pub stays : (offset : ℕ) → offset < length old.now.seen → is_within (at, count) offset ≡ false → slice_index new.now.seen offset ≡ slice_index old.now.seen offset

-- where the disk's history is known, its history has P
abbrev pub IfKnown : (DiskHistory → Type 0) → Option DiskHistory → Type 0
IfKnown P None = Unit {0}
IfKnown P (Some history) = P history

-- whether the disk is known stays the same, and where it is the histories have R
abbrev pub BothKnown : (DiskHistory → DiskHistory → Type 0) → Option DiskHistory → Option DiskHistory → Type 0
BothKnown R None None = Unit {0}
BothKnown R (Some old) (Some new) = R old new
BothKnown R None (Some new) = ⊥
BothKnown R (Some old) None = ⊥

-- after a write of this piece, or while it goes on, a crash leaves what it may leave of such a write
abbrev pub LeavesTorn : ℕ → List ℕ → DiskHistory → DiskHistory → Type 0
LeavesTorn at piece old = LeavesOnly (IsImage (wrote at piece old.now)) old

-- a crash leaves what it might have left before
abbrev pub LeavesAsBefore : DiskHistory → DiskHistory → Type 0
LeavesAsBefore old = LeavesOnly (IsImage old.now) old

-- all is synced, and the piece is written
abbrev pub IsDurable : ℕ → List ℕ → DiskHistory → DiskHistory → Type 0
IsDurable at piece old new = new.now ≡ settled (spliced at piece old.now.seen)

-- what a read gives is one of the images
abbrev pub SeenIsImage : DiskHistory → Type 0
SeenIsImage history = IsImage history.now history.now.seen

-- and so it was in each state before
abbrev pub HasImages : DiskHistory → Type 0
HasImages history = AllByRecursion (λ state. IsImage state state.seen) (states history)

-- what a read gives are bytes
abbrev pub SeenAreBytes : DiskHistory → Type 0
SeenAreBytes history = (offset : ℕ) → slice_index_or history.now.seen offset 0 < 256
