-- A gate byte with a piece after it: the gate is open where the byte is 1, and else shut.
use Rattle.std.specs.Prelude.{◌≡◌, ◌≢◌, ◌⊎◌, ℕ, List, ◌∷◌, ◌++◌}
use Rattle.pac_outside.specs.Disk.{DiskState, DiskHistory, LeavesOnly, settled}

-- after this prefix stands a gate that is shut
pub record IsShut (prefix image : List ℕ) : Type 0 where
  pub gate : ℕ
  pub rest : List ℕ
  pub split : image ≡ prefix ++ (gate ∷ rest)
  pub shut : gate ≢ 1

-- after this prefix stands an open gate, and the whole piece after it
pub record IsOpen (prefix piece image : List ℕ) : Type 0 where
  pub rest : List ℕ
  pub split : image ≡ prefix ++ (1 ∷ (piece ++ rest))

-- a crash leaves one image, what a read gives, and it has P
pub record OneImage (P : List ℕ → Type 0) (state : DiskState) : Type 0 where
  pub one : state ≡ settled state.seen
  pub has : P state.seen

-- from a shut gate on, each image is shut, or open with the whole piece
abbrev pub ShutOrOpen : List ℕ → List ℕ → DiskHistory → DiskHistory → Type 0
ShutOrOpen prefix piece old new = OneImage (IsShut prefix) old.now → LeavesOnly (λ image. IsShut prefix image ⊎ IsOpen prefix piece image) old new

-- from a shut gate on, the one image is open with the whole piece in the end
abbrev pub Opens : List ℕ → List ℕ → DiskHistory → DiskHistory → Type 0
Opens prefix piece old new = OneImage (IsShut prefix) old.now → OneImage (IsOpen prefix piece) new.now
