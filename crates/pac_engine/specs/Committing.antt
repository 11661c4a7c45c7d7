-- What a log holds while the transactions of a group are put after the others.
use Rattle.std.specs.Prelude.{◌≡◌, ◌⊎◌, ◌+◌, ◌-◌, ◌^◌, ◌<◌, ◌≤◌, ℕ, List, [], ◌∷◌, ◌++◌, length, min}
use Rattle.pac_ops.specs.declared.transaction.Txn.{Txn}
use Rattle.pac_outside.specs.Disk.{DiskHistory, LeavesOnly}
use Rattle.pac_outside.specs.GateByte.{OneImage}
use Rattle.pac_types.specs.Typing.{CatalogueState}
use Rattle.pac_log.specs.declared.header.Header.{Header}
use Rattle.pac_log.specs.declared.limits.TheConstants.{MAX_LOG_LEN}
use Rattle.pac_log.specs.declared.position.NextGate.{NextGate}
use Rattle.pac_log.specs.Bodies.{body_bytes}
use Rattle.pac_log.specs.Gates.{gate_after}
use Rattle.pac_log.specs.Logs.{HoldsLog}
use Rattle.pac_log.specs.Places.{need_of}

-- the batches, and these transactions after them where there are any
abbrev pub with_batch : List (List Txn) → List Txn → List (List Txn)
with_batch batches [] = batches
with_batch batches (txn ∷ txns) = batches ++ (txn ∷ txns) ∷ []

-- the gate after these transactions where there are any
abbrev pub gate_past : List Txn → NextGate → NextGate
gate_past [] gate = gate
gate_past (txn ∷ txns) gate = gate_after (length (txn ∷ txns)) (1 + length (body_bytes (txn ∷ txns))) gate

-- at each moment a crash leaves these batches, or these and the new one
abbrev pub MayAdd : Header → CatalogueState → List (List Txn) → List Txn → DiskHistory → DiskHistory → Type 0
MayAdd header catalogue batches txns old new = OneImage (HoldsLog header catalogue batches) old.now
    → LeavesOnly (λ image. HoldsLog header catalogue batches image ⊎ HoldsLog header catalogue (with_batch batches txns) image) old new

-- afterwards the one image has the new batch too
abbrev pub HasAdded : Header → CatalogueState → List (List Txn) → List Txn → DiskHistory → DiskHistory → Type 0
HasAdded header catalogue batches txns old new = OneImage (HoldsLog header catalogue batches) old.now → OneImage (HoldsLog header catalogue (with_batch batches txns)) new.now

-- after this offset the log has room for the transactions, where there are any
abbrev pub HasRoomAt : ℕ → List Txn → Type 0
HasRoomAt place txns = 0 < length txns → need_of place txns ≤ MAX_LOG_LEN

-- a device is called for the transactions: there are some, and after this offset the log has room for them
pub record IsCalledFor (place : ℕ) (txns : List Txn) : Type 0 where
  pub some : 0 < length txns
  pub room : need_of place txns ≤ MAX_LOG_LEN

-- there are transactions, and the log would have this many bytes with them, or the greatest number of 64 bits where that is
-- less; and it may not have that many
pub record IsOverFull (place : ℕ) (txns : List Txn) (need : ℕ) : Type 0 where
  pub some : 0 < length txns
  pub is : need ≡ min (need_of place txns) (2 ^ 64 - 1)
  pub over : MAX_LOG_LEN < need_of place txns
