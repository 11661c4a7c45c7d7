-- Devices that stand for a history while a checkpoint begins a new segment.
use Rattle.std.specs.Prelude.{◌≡◌, ◌⊎◌, ℕ, List, [], ◌++◌, length, take}
use Rattle.pac_value.specs.State.{Tables}
use Rattle.pac_ops.specs.declared.transaction.Txn.{Txn}
use Rattle.pac_outside.specs.Devices.{WhichDevice, log_at, other_log, device_at}
use Rattle.pac_outside.specs.Devices.WhichDevice.{the_slot_a, the_slot_b}
use Rattle.pac_outside.specs.Disk.{DiskHistory}
use Rattle.pac_outside.specs.GateByte.{IsOpen, IsShut, OneImage}
use Rattle.pac_outside.specs.declared.devices.Devices.{Devices}
use Rattle.pac_outside.specs.declared.devices.LogName.{LogName}
use Rattle.pac_types.specs.Fits.{FitTables}
use Rattle.pac_types.specs.Typing.{CatalogueState}
use Rattle.pac_log.specs.declared.header.HeaderForm.{HeaderForm}
use Rattle.pac_log.specs.declared.header.HeaderForm.TheVariants.{Later}
use Rattle.pac_log.specs.Logs.{base_in, header_bytes, header_with, number_after, HoldsLog, all_txns}
use Rattle.pac_check.specs.declared.head.Head.{Head}
use Rattle.pac_check.specs.declared.info.SlotName.{SlotName}
use Rattle.pac_check.specs.declared.info.SlotName.TheVariants.{A, B}
use Rattle.pac_check.specs.declared.state.SlotState.{SlotState}
use Rattle.pac_check.specs.declared.state.SlotState.TheVariants.{Closed, Open}
use Rattle.pac_check.specs.Checkpoints.{checkpoint_bytes, head_with, IsCheckpoint}
use Rattle.pac_check.specs.Saved.{checkpoint_of}
use Rattle.pac_check.specs.SlotStates.{by_slot, newest_among, spare_beside, IsAbove}
use Rattle.pac_store.specs.Images.{Images}
use Rattle.pac_store.specs.Stands.{reach_of, EndsWith, HoldsSaved, IsHistory, IsShutOrPrefix, StandsBy}
use Rattle.pac_store.specs.Stored.{active_among, IsPlaced}

-- a slot, as one of the four devices
abbrev pub slot_named : SlotName → WhichDevice
slot_named A = the_slot_a
slot_named B = the_slot_b

-- two slots' states, and what is known of the segment that is active by them: its header's form and its batches
pub record KnownStore : Type 0 where
  pub a : SlotState
  pub b : SlotState
  pub form : HeaderForm
  pub batches : List (List Txn)

-- how many transactions there are up to the end of the active segment
abbrev pub last_number : List ℕ → KnownStore → ℕ
last_number text known = number_after (header_with known.form text) known.batches

abbrev pub active_by : KnownStore → LogName
active_by known = active_among known.a known.b

abbrev pub spare_by : KnownStore → SlotName
spare_by known = spare_beside (newest_among known.a known.b)

-- The devices stand for the history, and a crash leaves of the active segment and of each slot one image. Of the other log device
-- nothing is said.
pub record StandsStill (text : List ℕ) (catalogue : CatalogueState) (history : List Txn) (known : KnownStore) (devices : Devices DiskHistory) : Type 0 where
  pub executes : IsHistory catalogue history
  pub slot_a : OneImage (IsShutOrPrefix catalogue history (last_number text known) known.a) devices.slot_a.now
  pub slot_b : OneImage (IsShutOrPrefix catalogue history (last_number text known) known.b) devices.slot_b.now
  pub log : OneImage (HoldsLog (header_with known.form text) catalogue known.batches) (log_at (active_by known) devices).now
  pub placed : IsPlaced (header_with known.form text) known.batches (newest_among known.a known.b)
  pub earlier : List Txn
  pub later : List Txn
  pub before : length earlier ≡ base_in known.form
  pub split : history ≡ earlier ++ (all_txns known.batches ++ later)

-- each image stands for the history by this segment, with all that the active one has, and a slot reaches as far as the newest one
abbrev pub KeepsBy : LogName → List ℕ → CatalogueState → List Txn → KnownStore → Images → Type 0
KeepsBy name text catalogue history known images = StandsBy name text catalogue history (last_number text known) images × HoldsSaved catalogue (reach_of (newest_among known.a known.b)) images

-- the spare slot is closed
abbrev pub closed_by : KnownStore → KnownStore
closed_by known = by_slot (spare_by known) (record known { a = Closed }) (record known { b = Closed })

-- The head of the checkpoint that is published: it names the other segment, at its first gate.
abbrev pub published_head : List ℕ → KnownStore → Head
published_head text known = head_with (last_number text known) (length (header_bytes (header_with (Later (last_number text known)) text))) (other_log (active_by known))

-- the bytes of the checkpoint of these tables
abbrev pub published_bytes : List ℕ → CatalogueState → Tables → KnownStore → List ℕ
published_bytes text catalogue held known = checkpoint_bytes (checkpoint_of (length catalogue.tables) (published_head text known) held)

-- afterwards the spare slot is open with it, and the active segment has no batch
abbrev pub published_by : List ℕ → KnownStore → KnownStore
published_by text known = by_slot (spare_by known) (record known { a = Open (published_head text known); form = Later (last_number text known); batches = [] })
    (record known { b = Open (published_head text known); form = Later (last_number text known); batches = [] })

-- what is ready to be published: tables with which the transactions so far end, more than the newest slot has
pub record IsReadyFor (text : List ℕ) (catalogue : CatalogueState) (history : List Txn) (known : KnownStore) (held : Tables) : Type 0 where
  pub above : IsAbove (newest_among known.a known.b) (last_number text known)
  pub fit : FitTables catalogue.tables held
  pub form : IsCheckpoint catalogue.tables (checkpoint_of (length catalogue.tables) (published_head text known) held)
  pub ends : EndsWith catalogue (take (last_number text known) history) held
  pub closed : by_slot (spare_by known) known.a known.b ≡ Closed

-- the other log device has the header of the next segment, and no batch
abbrev pub HasBegun : List ℕ → CatalogueState → KnownStore → Devices DiskHistory → Type 0
HasBegun text catalogue known devices = OneImage (HoldsLog (header_with (Later (last_number text known)) text) catalogue []) (log_at (other_log (active_by known)) devices).now

-- While a checkpoint is published, the one byte of its gate says which segment is active: each image whose gate isn't open stands
-- for the history by the segment that was active, and each whose gate is open by the next one.
abbrev pub SwitchesByGate : List ℕ → CatalogueState → List Txn → Tables → KnownStore → Images → Type 0
SwitchesByGate text catalogue history held known images =
    (IsShut [] (device_at (slot_named (spare_by known)) images) × KeepsBy (active_by known) text catalogue history known images)
    ⊎ (IsOpen [] (published_bytes text catalogue held known) (device_at (slot_named (spare_by known)) images) × KeepsBy (other_log (active_by known)) text catalogue history known images)
