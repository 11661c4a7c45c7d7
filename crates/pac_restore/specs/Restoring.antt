-- What is restored of a store, and what is scanned.
use Rattle.std.specs.Prelude.{◌≡◌, ◌≤◌, ◌+◌, ℕ, List, [], true, false, length, Option, Result, Ok, Err}
use Rattle.pac_value.specs.State.{Tables}
use Rattle.pac_ops.specs.declared.note.Note.{Note}
use Rattle.pac_ops.specs.declared.transaction.Txn.{Txn}
use Rattle.pac_outside.specs.Devices.{log_at}
use Rattle.pac_outside.specs.Disk.{DiskHistory}
use Rattle.pac_outside.specs.declared.devices.Devices.{Devices}
use Rattle.pac_types.specs.Execution.{serial}
use Rattle.pac_types.specs.Fits.{FitsCatalogue}
use Rattle.pac_types.specs.Typing.{CatalogueState}
use Rattle.pac_log.specs.Logs.{number_after, HoldsLog}
use Rattle.pac_log.specs.Readers.{at_first}
use Rattle.pac_log.specs.Reading.{StandsAfter}
use Rattle.pac_check.specs.SlotStates.{active_of, newest_of, saved_txns, IsSlot}
use Rattle.pac_store.specs.Images.{Images, IfImagesKnown}
use Rattle.pac_store.specs.Stored.{AreNewest, IsPlaced, IsStored, Stored}
use Rattle.pac_restore.specs.declared.errors.RecoverError.{RecoverError}
use Rattle.pac_restore.specs.declared.errors.RecoverError.TheVariants.{Load, AbortInLog, RowsOver}
use Rattle.pac_restore.specs.declared.restoring.Restored.{Restored}
use Rattle.pac_restore.specs.declared.scanning.Scanned.{Scanned}
use Rattle.pac_restore.specs.Limits.{IsFirstOver}
use Rattle.pac_restore.specs.Refusals.{AreRefusedAs}

-- serial execution of what is stored, from the tables of the newest slot on
abbrev pub stored_outcome : Stored → Result Tables Note
stored_outcome stored = serial stored.catalogue.procs (stored.number + 1) stored.rest stored.base

-- what is stored in these images is executed to the end: these are the tables, after that many transactions
pub record IsRecoveredFrom (catalogue : CatalogueState) (tables : Tables) (txns : ℕ) (images : Images) : Type 0 where
  pub stored : Stored
  pub is : IsStored images stored
  pub same : stored.catalogue ≡ catalogue
  pub ends : stored_outcome stored ≡ Ok tables
  pub counted : txns ≡ stored.number + length stored.rest

-- a transaction of what is stored in these images aborts so
pub record AbortsIn (note : Note) (images : Images) : Type 0 where
  pub stored : Stored
  pub is : IsStored images stored
  pub stops : stored_outcome stored ≡ Err note

-- what is stored in these images is executed to the end, and the first table with more rows than the limit has this name, and this
-- many rows
pub record IsOverIn (table : List ℕ) (rows limit : ℕ) (images : Images) : Type 0 where
  pub stored : Stored
  pub is : IsStored images stored
  pub held : Tables
  pub ends : stored_outcome stored ≡ Ok held
  pub over : IsFirstOver limit stored.catalogue.tables held table rows

-- Devices are refused so for what they hold, where they are known: they are not loaded; or a stored transaction is the first that
-- aborts, or after all of them a table is the first over this limit.
abbrev pub AreRefused : ℕ → Devices (Option DiskHistory) → RecoverError → Type 0
AreRefused limit devices (Load cause) = AreRefusedAs devices cause
AreRefused limit devices (AbortInLog note) = IfImagesKnown (AbortsIn note) devices
AreRefused limit devices (RowsOver table rows most) = (most ≡ limit) × IfImagesKnown (IsOverIn table rows limit) devices

-- On whatever devices: the tables fit the catalogue, which is that of the active segment; its reader is at the end; the slots take a
-- checkpoint, and the newest has no more transactions than the segment ends with.
pub record IsRestored {T : Type 0} (restored : Restored T) : Type 0 where
  pub fits : FitsCatalogue restored.catalogue restored.tables.tables restored.tables.rows
  pub end : restored.reader.is_at_end ≡ true
  pub same : restored.reader.gate.catalogue ≡ restored.catalogue
  pub works : restored.slots.has_failed ≡ false
  pub number : saved_txns (newest_of restored.slots) ≤ restored.reader.gate.txns

-- What is scanned, on whatever devices: the tables fit the catalogue, and have the number of the newest slot, which isn't above that
-- of the segment's last transaction; the reader is at the first gate, and reads a log of this catalogue; the slots take a
-- checkpoint.
pub record IsScanned {T : Type 0} (scanned : Scanned T) : Type 0 where
  pub fits : FitsCatalogue scanned.catalogue scanned.tables.tables scanned.tables.rows
  pub number : scanned.txns ≡ saved_txns (newest_of scanned.slots)
  pub within : scanned.txns ≤ scanned.total
  pub start : at_first scanned.reader ≡ scanned.reader
  pub same : scanned.reader.gate.catalogue ≡ scanned.catalogue
  pub works : scanned.slots.has_failed ≡ false

-- What is scanned of these images: the active segment is whole, and the reader is at its first gate; the slots are in these states,
-- and the newest is at a gate; the tables are those of the newest.
pub record IsScannedFrom {T : Type 0} (scanned : Scanned T) (images : Images) : Type 0 where
  pub batches : List (List Txn)
  pub log : HoldsLog scanned.reader.gate.header scanned.catalogue batches (log_at (active_of scanned.slots) images)
  pub starts : StandsAfter scanned.reader.gate.header [] scanned.reader.gate (log_at (active_of scanned.slots) images)
  pub counted : scanned.total ≡ number_after scanned.reader.gate.header batches
  pub is_a : IsSlot scanned.catalogue.tables scanned.slots.a images.slot_a
  pub is_b : IsSlot scanned.catalogue.tables scanned.slots.b images.slot_b
  pub placed : IsPlaced scanned.reader.gate.header batches (newest_of scanned.slots)
  pub newest : AreNewest scanned.catalogue images.slot_a images.slot_b (newest_of scanned.slots) scanned.tables.rows scanned.txns
