-- What a crash leaves of a slot while its text is replaced.
use Rattle.std.specs.Prelude.{◌≡◌, ◌⊎◌, ℕ, List, [], ◌∷◌}
use Rattle.pac_outside.specs.Disk.{DiskHistory, LeavesOnly}
use Rattle.pac_outside.specs.GateByte.{IsShut, IsOpen, OneImage}
use Rattle.pac_check.specs.declared.state.SlotState.{SlotState}
use Rattle.pac_check.specs.declared.state.SlotState.TheVariants.{Empty, Closed, Open}

-- how a slot in this state begins
abbrev pub BeginsAs : SlotState → List ℕ → Type 0
BeginsAs Empty image = image ≡ []
BeginsAs Closed image = IsShut [] image
BeginsAs (Open head) image = (rest : List ℕ) × (image ≡ 1 ∷ rest)

-- a slot that has a byte
abbrev pub HasByte : SlotState → Type 0
HasByte Empty = ⊥
HasByte Closed = Unit {0}
HasByte (Open head) = Unit {0}

-- while its gate is closed: the slot is as it was, or shut
abbrev pub IsOldOrShut : List ℕ → List ℕ → Type 0
IsOldOrShut old image = (image ≡ old) ⊎ IsShut [] image

-- while a text is put after the gate: the slot is shut, or open with the whole text
abbrev pub IsShutOrNew : List ℕ → List ℕ → Type 0
IsShutOrNew text image = IsShut [] image ⊎ IsOpen [] text image

-- at each moment a slot of one image is as it was, or shut
abbrev pub ClosesSlot : SlotState → DiskHistory → DiskHistory → Type 0
ClosesSlot state old new = OneImage (BeginsAs state) old.now → LeavesOnly (IsOldOrShut old.now.seen) old new

-- in the end the one image is shut
abbrev pub IsClosed : SlotState → DiskHistory → DiskHistory → Type 0
IsClosed state old new = OneImage (BeginsAs state) old.now → OneImage (IsShut []) new.now
