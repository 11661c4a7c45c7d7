-- Where a log is read and written: the gate that comes next.
use Rattle.std.specs.Prelude.{◌≡◌, ◌<◌, ◌+◌, ◌*◌, ◌++◌, ◌∷◌, [], ℕ, List, length}
use Rattle.pac_ops.specs.declared.transaction.Txn.{Txn}
use Rattle.pac_outside.specs.Disk.{DiskState}
use Rattle.pac_outside.specs.GateByte.{OneImage}
use Rattle.pac_log.specs.declared.limits.TheConstants.{MAX_LOG_LEN}
use Rattle.pac_log.specs.declared.position.NextGate.{NextGate}
use Rattle.pac_log.specs.declared.log.Stage.{Stage}
use Rattle.pac_log.specs.declared.log.Stage.TheVariants.{Waiting, Ready, Failed}
use Rattle.pac_log.specs.declared.log.LogParts.{LogParts}
use Rattle.pac_log.specs.Bodies.{body_bytes, IsBody}
use Rattle.pac_log.specs.declared.header.Header.{Header}
use Rattle.pac_log.specs.Logs.{log_prefix, number_after, HoldsLog}

-- the gate that comes after these batches of a log with this header
pub record IsAfter (header : Header) (batches : List (List Txn)) (gate : NextGate) : Type 0 where
  pub headed : gate.header ≡ header
  pub place : gate.place ≡ length (log_prefix header batches)
  pub txns : gate.txns ≡ number_after header batches

-- these transactions are a body of the log's catalogue, and it stands ready, with a closed gate after it
pub record IsPrepared (log : LogParts) (txns : List Txn) : Type 0 where
  pub body : IsBody log.gate.catalogue txns
  pub ready : log.stage ≡ Ready (body_bytes txns ++ (0 ∷ [])) (length txns)

-- what is ready has room in the log and takes two bytes or more for each transaction
abbrev pub HasRoom : ℕ → Stage → Type 0
HasRoom place Waiting = Unit {0}
HasRoom place (Ready piece txns) = (place + length piece < MAX_LOG_LEN) × (2 * txns < length piece)
HasRoom place Failed = Unit {0}

-- a body stands ready
abbrev pub HasReady : Stage → Type 0
HasReady Waiting = ⊥
HasReady (Ready piece txns) = Unit {0}
HasReady Failed = ⊥

-- a commit of the log failed
abbrev pub HasFailed : Stage → Type 0
HasFailed Waiting = ⊥
HasFailed (Ready piece txns) = ⊥
HasFailed Failed = Unit {0}

-- how long the log would be with this body, its gate and the next one
abbrev pub need_of : ℕ → List Txn → ℕ
need_of place txns = place + 1 + length (body_bytes txns) + 1

-- a crash leaves one image, that of a log with this catalogue, and the gate that comes next is the one after its batches
pub record LogEndsAt (gate : NextGate) (state : DiskState) : Type 0 where
  pub header : Header
  pub batches : List (List Txn)
  pub holds : OneImage (HoldsLog header gate.catalogue batches) state
  pub after : IsAfter header batches gate
