-- What is stored on the devices.
use Rattle.std.specs.Prelude.{◌≡◌, ◌-◌, ℕ, List, drop, Option, Some, None}
use Rattle.std.specs.FinMap.{empty}
use Rattle.pac_value.specs.State.{Tables}
use Rattle.pac_ops.specs.declared.transaction.Txn.{Txn}
use Rattle.pac_outside.specs.Devices.{log_at}
use Rattle.pac_outside.specs.declared.devices.LogName.{LogName}
use Rattle.pac_types.specs.Fits.{FitTables}
use Rattle.pac_types.specs.Typing.{CatalogueState}
use Rattle.pac_log.specs.declared.header.Header.{Header}
use Rattle.pac_log.specs.Logs.{base_of, HoldsLog, HasGate, all_txns}
use Rattle.pac_check.specs.declared.info.SlotInfo.{SlotInfo}
use Rattle.pac_check.specs.declared.state.SlotState.{SlotState}
use Rattle.pac_check.specs.SlotStates.{by_slot, active_in, newest_among, IsSlot, HoldsInfo}
use Rattle.pac_store.specs.Images.{Images}

-- a catalogue, tables and how many transactions are in them, and the transactions after these
pub record Stored : Type 0 where
  pub catalogue : CatalogueState
  pub base : Tables
  pub number : ℕ
  pub rest : List Txn

-- the active segment: the one that the newest of two slots names, and the log where none is open
abbrev pub active_among : SlotState → SlotState → LogName
active_among a b = active_in (newest_among a b)

-- the tables and the number of the newest open slot, which is one of these two; no rows and 0 where none is open
abbrev pub AreNewest : CatalogueState → List ℕ → List ℕ → Option SlotInfo → Tables → ℕ → Type 0
AreNewest catalogue a b None base number = (base ≡ empty) × (number ≡ 0)
AreNewest catalogue a b (Some info) base number = FitTables catalogue.tables base × HoldsInfo catalogue.tables info base (by_slot info.slot a b) × (number ≡ info.txns)

-- The newest slot is at a gate of the active segment, with exactly as many transactions up to it; where no slot is open, no
-- transaction came before the segment.
abbrev pub IsPlaced : Header → List (List Txn) → Option SlotInfo → Type 0
IsPlaced header batches None = base_of header ≡ 0
IsPlaced header batches (Some info) = HasGate header batches info.place info.txns

-- What is stored: the catalogue of the active segment, the tables and the number of the newest open slot, and the segment's
-- transactions with greater numbers, up to the first gate that is closed. Of the other segment nothing is said.
pub record IsStored (images : Images) (stored : Stored) : Type 0 where
  pub a : SlotState
  pub b : SlotState
  pub is_a : IsSlot stored.catalogue.tables a images.slot_a
  pub is_b : IsSlot stored.catalogue.tables b images.slot_b
  pub header : Header
  pub batches : List (List Txn)
  pub log : HoldsLog header stored.catalogue batches (log_at (active_among a b) images)
  pub placed : IsPlaced header batches (newest_among a b)
  pub newest : AreNewest stored.catalogue images.slot_a images.slot_b (newest_among a b) stored.base stored.number
  pub after : stored.rest ≡ drop (stored.number - base_of header) (all_txns batches)
