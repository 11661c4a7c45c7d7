-- Which history an engine stands for on its devices, and what is kept of it while the devices are called.
use Rattle.std.specs.Prelude.{◌≡◌, ◌≤◌, ℕ, List, [], ◌++◌, take, Option}
use Rattle.pac_ops.specs.declared.transaction.Txn.{Txn}
use Rattle.pac_outside.specs.Devices.{AllLeave, RunLeaves, WhileAllKnown, each, log_at}
use Rattle.pac_outside.specs.declared.devices.Devices.{Devices}
use Rattle.pac_outside.specs.Disk.{DiskHistory, IfKnown, settled}
use Rattle.pac_outside.specs.GateByte.{OneImage}
use Rattle.pac_types.specs.Typing.{CatalogueState}
use Rattle.pac_log.specs.declared.header.HeaderForm.{HeaderForm}
use Rattle.pac_log.specs.Gates.{next_segment}
use Rattle.pac_log.specs.Logs.{header_with, HoldsLog}
use Rattle.pac_log.specs.Places.{IsAfter, LogEndsAt}
use Rattle.pac_check.specs.SlotStates.{IsSlot, active_of, newest_of}
use Rattle.pac_store.specs.Images.{Images}
use Rattle.pac_store.specs.Saving.{StandsStill}
use Rattle.pac_store.specs.Stands.{reach_of, EndsWith, HoldsSaved, IsHistory, StandsFor}
use Rattle.pac_store.specs.Writing.{known_with}
use Rattle.pac_session.specs.Groups.{LogSpot}
use Rattle.pac_engine.specs.declared.parts.EngineParts.{EngineParts}

-- how many transactions are durable: those of the log
abbrev pub durable_of : EngineParts → ℕ
durable_of engine = engine.log.gate.txns

-- how far the newest checkpoint of an engine's slots reaches
abbrev pub saved_of : EngineParts → ℕ
saved_of engine = reach_of (newest_of engine.slots)

-- where its log stands
abbrev pub spot_of : EngineParts → LogSpot
spot_of engine = record { place = engine.log.gate.place; reach = saved_of engine; next = (next_segment engine.log.gate).place }

-- what is durable and saved stays so
pub record OnlyGrows (before now : EngineParts) : Type 0 where
  pub durable : durable_of before ≤ durable_of now
  pub saved : saved_of before ≤ saved_of now

-- Where the devices' histories are known, a crash leaves of the active segment one image, that of a log that ends at the engine's
-- gate, and of each slot one in the state that the engine knows. It is said of each device by itself: one may be known while others
-- are not.
pub record HasDevices {D : Type 0} (known : D → Option DiskHistory) (engine : EngineParts) (devices : Devices D) : Type 0 where
  pub log : IfKnown (λ now. LogEndsAt engine.log.gate now.now) (known (log_at (active_of engine.slots) devices))
  pub slot_a : IfKnown (λ now. OneImage (IsSlot engine.session.catalogue.tables engine.slots.a) now.now) (known devices.slot_a)
  pub slot_b : IfKnown (λ now. OneImage (IsSlot engine.session.catalogue.tables engine.slots.b) now.now) (known devices.slot_b)

-- The devices stand for the history, of which the log has at least that many transactions, and some slot reaches so far.
pub record StandsWith (text : List ℕ) (catalogue : CatalogueState) (history : List Txn) (least saved : ℕ) (images : Images) : Type 0 where
  pub stands : StandsFor text catalogue history least images
  pub saves : HoldsSaved catalogue saved images

-- The engine stands for the history on a store's devices: serial execution of the history ends with the engine's tables. The devices
-- stand for it, and a crash leaves one image of the active segment and of each slot: the segment ends at the engine's gate, and the
-- open group's transactions are those of the history after it.
pub record StandsOn (text : List ℕ) (history : List Txn) (engine : EngineParts) (devices : Devices DiskHistory) : Type 0 where
  pub form : HeaderForm
  pub batches : List (List Txn)
  pub still : StandsStill text engine.session.catalogue history (known_with engine.slots form batches) devices
  pub after : IsAfter (header_with form text) batches engine.log.gate
  pub later : still.later ≡ engine.session.txns
  pub ends : EndsWith engine.session.catalogue history engine.session.tables

-- a crash may leave images that stand for the history, with what is durable and saved
abbrev pub MayLeave : List ℕ → CatalogueState → List Txn → EngineParts → Images → Type 0
MayLeave text catalogue history engine images = StandsWith text catalogue history (durable_of engine) (saved_of engine) images

-- The history executes, and at each moment from old to new a crash leaves images that stand for it with what was durable and saved
-- before, and in the end with what is durable and saved then.
pub record KeepsHistory (text : List ℕ) (history : List Txn) (before now : EngineParts) (old new : Devices DiskHistory) : Type 0 where
  pub executes : IsHistory before.session.catalogue history
  pub moments : RunLeaves (MayLeave text before.session.catalogue history before) old new
  pub end : AllLeave (MayLeave text before.session.catalogue history now) new

-- where the devices' histories are known, an engine that stands for some history keeps it with these transactions after it
abbrev pub KeepsMore : {D : Type 0} → (D → Option DiskHistory) → List Txn → EngineParts → EngineParts → Devices D → Devices D → Type 0
KeepsMore known more before now old new = (text : List ℕ) (history : List Txn) → WhileAllKnown (StandsOn text history before) (KeepsHistory text (history ++ more) before now) (each known old) (each known new)

-- and it stands for that afterwards
abbrev pub StandsForMore : {D : Type 0} → (D → Option DiskHistory) → List Txn → EngineParts → EngineParts → Devices D → Devices D → Type 0
StandsForMore known more before now old new = (text : List ℕ) (history : List Txn) → WhileAllKnown (StandsOn text history before) (λ was is. StandsOn text (history ++ more) now is) (each known old) (each known new)

-- An engine was opened on devices that were synced: it stands at the end of the active segment that they hold, knows the states of
-- both slots, has no open transaction, and its tables are those with which the first transactions of the history end, up to the last
-- that is stored.
pub record IsOpenedOn (history : List Txn) (engine : EngineParts) (devices : Devices DiskHistory) : Type 0 where
  pub log_settled : (log_at (active_of engine.slots) devices).now ≡ settled (log_at (active_of engine.slots) devices).now.seen
  pub a_settled : devices.slot_a.now ≡ settled devices.slot_a.now.seen
  pub b_settled : devices.slot_b.now ≡ settled devices.slot_b.now.seen
  pub batches : List (List Txn)
  pub log : HoldsLog engine.log.gate.header engine.session.catalogue batches (log_at (active_of engine.slots) devices).now.seen
  pub after : IsAfter engine.log.gate.header batches engine.log.gate
  pub known_a : IsSlot engine.session.catalogue.tables engine.slots.a devices.slot_a.now.seen
  pub known_b : IsSlot engine.session.catalogue.tables engine.slots.b devices.slot_b.now.seen
  pub none : engine.session.txns ≡ []
  pub ends : EndsWith engine.session.catalogue (take engine.log.gate.txns history) engine.session.tables
