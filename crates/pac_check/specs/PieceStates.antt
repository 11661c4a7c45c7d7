-- What is held of a device that is read in pieces, and what is read of it.
use Rattle.std.specs.Prelude.{◌≡◌, ◌⊎◌, ◌+◌, ◌≤◌, ℕ, List, ◌++◌, length, drop, Option, Result, Ok, Err}
use Rattle.pac_outside.specs.Disk.{DiskHistory, IfKnown}
use Rattle.pac_bytes.specs.Reading.{Rest, from}
use Rattle.pac_check.specs.declared.damage.SlotFault.{SlotFault}
use Rattle.pac_check.specs.declared.limits.TheConstants.{ITEM_LEN}

-- the offset of the next byte, the bytes from there on that are held, and how many the device has
pub record PiecesState : Type 0 where
  pub place : ℕ
  pub bytes : List ℕ
  pub len : ℕ

-- they are of a device with this image
pub record AreOfImage (image : List ℕ) (pieces : PiecesState) : Type 0 where
  pub rest : List ℕ
  pub split : drop pieces.place image ≡ pieces.bytes ++ rest
  pub len : pieces.len ≡ length image

-- whichever item comes is held whole, or all that the device has
abbrev pub HasItem : PiecesState → Type 0
HasItem pieces = (ITEM_LEN ≤ length pieces.bytes) ⊎ (pieces.len ≤ pieces.place + length pieces.bytes)

-- in the image this was read from the next byte of old on, and new is what is left
abbrev pub WasRead : {A : Type 0} → List ℕ → PiecesState → PiecesState → A → (Rest → Result (A × Rest) SlotFault) → Type 0
WasRead image old new found read = AreOfImage image new × (read (from image old.place) ≡ Ok (found, from image new.place))

-- in the image this fault comes from the next byte on
abbrev pub HasFault : {A : Type 0} → List ℕ → PiecesState → SlotFault → (Rest → Result (A × Rest) SlotFault) → Type 0
HasFault image pieces fault read = read (from image pieces.place) ≡ Err fault

-- where the device is known, it is read so
abbrev pub KnownRead : {A : Type 0} → Option DiskHistory → PiecesState → PiecesState → A → (Rest → Result (A × Rest) SlotFault) → Type 0
KnownRead known old new found read = IfKnown (λ history. WasRead history.now.seen old new found read) known

-- where the device is known, this fault comes
abbrev pub KnownFault : {A : Type 0} → Option DiskHistory → PiecesState → SlotFault → (Rest → Result (A × Rest) SlotFault) → Type 0
KnownFault known pieces fault read = IfKnown (λ history. HasFault history.now.seen pieces fault read) known
