-- What a load gives.
use Rattle.std.specs.Prelude.{◌≡◌, ◌+◌, ◌-◌, ℕ, true, false, List, length, drop}
use Rattle.pac_ops.specs.declared.transaction.Txn.{Txn}
use Rattle.pac_outside.specs.Devices.{log_at}
use Rattle.pac_types.specs.Fits.{FitsCatalogue}
use Rattle.pac_log.specs.Logs.{base_of, HoldsLog, all_txns}
use Rattle.pac_log.specs.Places.{IsAfter}
use Rattle.pac_log.specs.declared.position.NextGate.{NextGate}
use Rattle.pac_check.specs.SlotStates.{active_of, newest_of, saved_txns, IsSlot}
use Rattle.pac_store.specs.Images.{Images}
use Rattle.pac_store.specs.Stored.{AreNewest, IsPlaced, Stored}
use Rattle.pac_restore.specs.declared.loading.Loaded.{Loaded}
use Rattle.pac_restore.specs.Batches.{txns_in, FitBatches, RunOn}

-- the image is that of a log with the gate's header and catalogue, and the gate is the one after its batches
pub record HoldsLogUpTo (gate : NextGate) (image : List ℕ) : Type 0 where
  pub batches : List (List Txn)
  pub log : HoldsLog gate.header gate.catalogue batches image
  pub end : IsAfter gate.header batches gate

-- What is loaded, on whatever devices: the tables fit the catalogue, and so do the transactions of the batches, which run on after
-- the number of the newest slot, to the reader's; the reader is at its end, and reads a log of this catalogue; the slots take a
-- checkpoint.
pub record IsLoaded (loaded : Loaded) : Type 0 where
  pub fits : FitsCatalogue loaded.catalogue loaded.tables.tables loaded.tables.rows
  pub number : loaded.txns ≡ saved_txns (newest_of loaded.slots)
  pub fit : FitBatches loaded.catalogue loaded.batches
  pub runs : RunOn loaded.txns loaded.batches
  pub total : loaded.reader.gate.txns ≡ loaded.txns + length (txns_in loaded.batches)
  pub end : loaded.reader.is_at_end ≡ true
  pub same : loaded.reader.gate.catalogue ≡ loaded.catalogue
  pub works : loaded.slots.has_failed ≡ false

-- What is loaded of these images: the active segment is whole and the reader stands after its batches; the slots are in these
-- states, and the newest is at one of its gates; the tables are those of the newest, and the batches hold the segment's
-- transactions with greater numbers.
pub record IsLoadedFrom (loaded : Loaded) (images : Images) : Type 0 where
  pub batches : List (List Txn)
  pub log : HoldsLog loaded.reader.gate.header loaded.catalogue batches (log_at (active_of loaded.slots) images)
  pub end : IsAfter loaded.reader.gate.header batches loaded.reader.gate
  pub is_a : IsSlot loaded.catalogue.tables loaded.slots.a images.slot_a
  pub is_b : IsSlot loaded.catalogue.tables loaded.slots.b images.slot_b
  pub placed : IsPlaced loaded.reader.gate.header batches (newest_of loaded.slots)
  pub newest : AreNewest loaded.catalogue images.slot_a images.slot_b (newest_of loaded.slots) loaded.tables.rows loaded.txns
  pub after : txns_in loaded.batches ≡ drop (loaded.txns - base_of loaded.reader.gate.header) (all_txns batches)

-- what is stored, where this is loaded
abbrev pub stored_of : Loaded → Stored
stored_of loaded = record { catalogue = loaded.catalogue; base = loaded.tables.rows; number = loaded.txns; rest = txns_in loaded.batches }
