-- What a store that was opened and executed ends with.
use Rattle.std.proofs.Common.{◌≡◌, ◌≤◌, Option, arith}
use Rattle.pac_outside.specs.Devices.{log_at}
use Rattle.pac_outside.specs.Disk.{DiskHistory, IfKnown}
use Rattle.pac_outside.specs.declared.devices.Devices.{Devices}
use Rattle.pac_value.specs.State.{Tables}
use Rattle.pac_types.specs.Typing.{CatalogueState}
use Rattle.pac_log.specs.declared.reader.ReaderParts.{ReaderParts}
use Rattle.pac_log.specs.declared.position.NextGate.{NextGate}
use Rattle.pac_log.specs.Readers.{at_first}
use Rattle.pac_check.specs.declared.slots.Slots.{Slots}
use Rattle.pac_check.specs.SlotStates.{active_of, newest_of, saved_txns, IsSlot}
use Rattle.pac_store.specs.Images.{IfImagesKnown}
use Rattle.pac_restore.specs.declared.execution.Execution.{Execution}
use Rattle.pac_restore.specs.Opening.{AreNewestOf, HasFound}
use Rattle.pac_restore.specs.Outcomes.{outcome_of, HasExecuted}
use Rattle.pac_restore.specs.Reads.{IsReadFrom}
use Rattle.pac_restore.proofs.EndLemmas.{ends-so, EndsSo}
use Rattle.pac_restore.proofs.LoadLemmas.{runs-after, total-after}
use Rattle.pac_restore.proofs.WholeLemmas.{first-number, whole-known}

-- a store that was opened with this reader at its first gate, and whose segment was executed up to another gate
module _ {T : Type 0} (slots : Slots) (catalogue : CatalogueState) (rows : Tables) (reader : ReaderParts) (new : NextGate) (executed : Execution T) (devices : Devices (Option DiskHistory))
    (found : HasFound slots.a slots.b reader.gate devices) (first : at_first reader ≡ reader) (same : catalogue ≡ reader.gate.catalogue)
    (read : IsReadFrom (log_at (active_of slots) devices) (newest_of slots) reader.gate new (HasExecuted catalogue rows executed)) where
  abbrev known : Option DiskHistory
  known = log_at (active_of slots) devices

  pub restored-ends : IfKnown (λ h. IsSlot catalogue.tables slots.a h.now.seen) devices.slot_a → IfKnown (λ h. IsSlot catalogue.tables slots.b h.now.seen) devices.slot_b
      → IfKnown (λ x. IfKnown (λ y. AreNewestOf catalogue slots rows x.now.seen y.now.seen) devices.slot_b) devices.slot_a → IfImagesKnown (EndsSo catalogue (outcome_of executed) new.txns) devices
  restored-ends is_a is_b newest =
      let number = first-number reader first in
      ends-so slots catalogue rows reader.gate new read.after executed devices (whole-known slots catalogue rows reader.gate new devices (HasExecuted catalogue rows executed) found read number same is_a is_b newest)
      read.taken (runs-after known (newest_of slots) reader.gate new (HasExecuted catalogue rows executed) read found.begins number)
      (total-after known (newest_of slots) reader.gate new (HasExecuted catalogue rows executed) read found.begins number)

  -- the newest slot has no more transactions
  pub restored-number : saved_txns (newest_of slots) ≤ new.txns
  restored-number = let total = total-after known (newest_of slots) reader.gate new (HasExecuted catalogue rows executed) read found.begins (first-number reader first) in omega (arith, total)
