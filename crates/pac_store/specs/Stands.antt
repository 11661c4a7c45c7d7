-- Which history of transactions the devices stand for.
use Rattle.std.specs.Prelude.{◌≡◌, ◌≤◌, ◌⊎◌, ◌+◌, ℕ, List, [], ◌++◌, length, take, Option, Some, None, Ok}
use Rattle.std.specs.FinMap.{empty}
use Rattle.std.specs.List.{All}
use Rattle.pac_value.specs.State.{Tables}
use Rattle.pac_ops.specs.declared.transaction.Txn.{Txn}
use Rattle.pac_outside.specs.Devices.{log_at}
use Rattle.pac_outside.specs.GateByte.{IsShut}
use Rattle.pac_outside.specs.declared.devices.LogName.{LogName}
use Rattle.pac_types.specs.Execution.{serial}
use Rattle.pac_types.specs.Fits.{FitTables, TxnFits}
use Rattle.pac_types.specs.Typing.{CatalogueState}
use Rattle.pac_log.specs.declared.header.HeaderForm.{HeaderForm}
use Rattle.pac_log.specs.Logs.{base_in, header_with, number_after, HoldsLog, all_txns}
use Rattle.pac_check.specs.declared.head.Head.{Head}
use Rattle.pac_check.specs.declared.info.SlotInfo.{SlotInfo}
use Rattle.pac_check.specs.declared.state.SlotState.{SlotState}
use Rattle.pac_check.specs.declared.state.SlotState.TheVariants.{Empty, Closed, Open}
use Rattle.pac_check.specs.Checkpoints.{Checkpoint}
use Rattle.pac_check.specs.SlotStates.{newest_among, HoldsCheckpoint, HoldsRows}
use Rattle.pac_store.specs.Images.{Images}
use Rattle.pac_store.specs.Stored.{active_among, IsPlaced}

-- serial execution of the transactions, from no rows on, ends with these tables
abbrev pub EndsWith : CatalogueState → List Txn → Tables → Type 0
EndsWith catalogue txns held = serial catalogue.procs 1 txns empty ≡ Ok held

-- the transactions fit the catalogue, and serial execution of all of them, from no rows on, stops nowhere
pub record IsHistory (catalogue : CatalogueState) (history : List Txn) : Type 0 where
  pub fit : All (TxnFits catalogue) history
  pub held : Tables
  pub ends : EndsWith catalogue history held

-- a slot is open with a checkpoint of the first transactions of the history, of which there are at most that many: it has the
-- tables with which serial execution of these ends
pub record HoldsPrefix (catalogue : CatalogueState) (history : List Txn) (most : ℕ) (head : Head) (image : List ℕ) : Type 0 where
  pub held : Tables
  pub fit : FitTables catalogue.tables held
  pub rows : HoldsRows catalogue.tables head held image
  pub within : head.txns ≤ most
  pub ends : EndsWith catalogue (take head.txns history) held

-- a slot's device has a byte; the slot is closed, or open with a checkpoint of a prefix of the history
abbrev pub IsShutOrPrefix : CatalogueState → List Txn → ℕ → SlotState → List ℕ → Type 0
IsShutOrPrefix catalogue history most Empty image = ⊥
IsShutOrPrefix catalogue history most Closed image = IsShut [] image
IsShutOrPrefix catalogue history most (Open head) image = HoldsPrefix catalogue history most head image

-- The devices stand for a history of at least that many transactions: each slot is closed, or open with a checkpoint of a prefix;
-- the active segment is one of this catalogue's text and has no damage; it has the transactions of the history after those that
-- came before it, up to at least that many; and the newest slot is at one of its gates. Of the other segment nothing is said.
pub record StandsFor (text : List ℕ) (catalogue : CatalogueState) (history : List Txn) (least : ℕ) (images : Images) : Type 0 where
  pub executes : IsHistory catalogue history
  pub form : HeaderForm
  pub batches : List (List Txn)
  pub a : SlotState
  pub b : SlotState
  pub slot_a : IsShutOrPrefix catalogue history (number_after (header_with form text) batches) a images.slot_a
  pub slot_b : IsShutOrPrefix catalogue history (number_after (header_with form text) batches) b images.slot_b
  pub log : HoldsLog (header_with form text) catalogue batches (log_at (active_among a b) images)
  pub placed : IsPlaced (header_with form text) batches (newest_among a b)
  pub earlier : List Txn
  pub later : List Txn
  pub before : length earlier ≡ base_in form
  pub split : history ≡ earlier ++ (all_txns batches ++ later)
  pub enough : least ≤ number_after (header_with form text) batches

-- and this segment is the active one
abbrev pub StandsBy : LogName → List ℕ → CatalogueState → List Txn → ℕ → Images → Type 0
StandsBy name text catalogue history least images = (is : StandsFor text catalogue history least images) × (active_among is.a is.b ≡ name)

-- A slot is open with a checkpoint that reaches so far. A checkpoint of N transactions reaches N + 1, and where there is no
-- checkpoint the reach is 0, so that one of no transactions is more than none.
pub record HasSaved (catalogue : CatalogueState) (reach : ℕ) (image : List ℕ) : Type 0 where
  pub checkpoint : Checkpoint
  pub holds : HoldsCheckpoint catalogue.tables checkpoint image
  pub enough : reach ≤ checkpoint.head.txns + 1

-- how far the newest checkpoint reaches
abbrev pub reach_of : Option SlotInfo → ℕ
reach_of None = 0
reach_of (Some info) = info.txns + 1

-- some slot is; of 0 nothing is said
abbrev pub HoldsSaved : CatalogueState → ℕ → Images → Type 0
HoldsSaved catalogue reach images = (reach ≡ 0) ⊎ (HasSaved catalogue reach images.slot_a ⊎ HasSaved catalogue reach images.slot_b)
