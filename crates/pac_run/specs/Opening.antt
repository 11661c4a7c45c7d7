-- What an engine is that begins over a store.
use Rattle.std.specs.Prelude.{◌≡◌, ◌≤◌, ℕ, false, List, [], length, take}
use Rattle.pac_ops.specs.declared.transaction.Txn.{Txn}
use Rattle.pac_outside.specs.Devices.{AllLeave, log_at}
use Rattle.pac_outside.specs.Disk.{DiskHistory}
use Rattle.pac_outside.specs.declared.devices.Devices.{Devices}
use Rattle.pac_types.specs.Typing.{CatalogueState}
use Rattle.pac_log.specs.Logs.{HoldsLog}
use Rattle.pac_log.specs.Places.{IsAfter}
use Rattle.pac_check.specs.SlotStates.{active_of, IsSlot}
use Rattle.pac_store.specs.Images.{Images}
use Rattle.pac_store.specs.Stands.{StandsFor}
use Rattle.pac_restore.specs.Restoring.{IsRecoveredFrom}
use Rattle.pac_engine.specs.declared.parts.EngineParts.{EngineParts}
use Rattle.pac_engine.specs.Standing.{StandsOn, durable_of}

-- The engine goes by this batch and this limit, no group is open, and it has not ended.
pub record IsFresh (batch limit : ℕ) (engine : EngineParts) : Type 0 where
  pub most : engine.session.most ≡ batch
  pub within : engine.session.limit ≡ limit
  pub txns : engine.session.txns ≡ []
  pub held : engine.session.held ≡ []
  pub before : engine.session.before ≡ durable_of engine
  pub goes_on : engine.ended ≡ false

-- What is stored in these images is executed to the end: the engine has the tables after it, and as many transactions. It knows the
-- states of both slots, and its log goes on at the gate after the batches of the segment that is active by them.
pub record IsOpenedFrom (engine : EngineParts) (images : Images) : Type 0 where
  pub recovered : IsRecoveredFrom engine.session.catalogue engine.session.tables (durable_of engine) images
  pub is_a : IsSlot engine.session.catalogue.tables engine.slots.a images.slot_a
  pub is_b : IsSlot engine.session.catalogue.tables engine.slots.b images.slot_b
  pub batches : List (List Txn)
  pub log : HoldsLog engine.log.gate.header engine.session.catalogue batches (log_at (active_of engine.slots) images)
  pub after : IsAfter engine.log.gate.header batches engine.log.gate

-- each image that a crash may leave stands for the history
abbrev pub AllStand : List ℕ → CatalogueState → List Txn → ℕ → Devices DiskHistory → Type 0
AllStand text catalogue history least devices = AllLeave (StandsFor text catalogue history least) devices

-- the engine is one of the catalogue, and stands for the first transactions of the history, at least that many
pub record StandsForPrefix (text : List ℕ) (catalogue : CatalogueState) (history : List Txn) (least : ℕ) (engine : EngineParts) (devices : Devices DiskHistory) : Type 0 where
  pub same : engine.session.catalogue ≡ catalogue
  pub enough : least ≤ durable_of engine
  pub within : durable_of engine ≤ length history
  pub stands : StandsOn text (take (durable_of engine) history) engine devices

-- where each image that a crash might have left at entry stands for a history, the engine stands for a prefix of it
abbrev pub BeginsOver : EngineParts → Devices DiskHistory → Devices DiskHistory → Type 0
BeginsOver engine entry now = (text : List ℕ) (catalogue : CatalogueState) (history : List Txn) (least : ℕ) → AllStand text catalogue history least entry → StandsForPrefix text catalogue history least engine now
