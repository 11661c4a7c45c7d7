-- What is loaded and scanned is what the images hold.
use Rattle.std.proofs.Common.{◌≡◌, ◌∙◌, ℕ, ◌-◌, List, [], drop, length, Option, true, false, sym, ap, subst, arith}
use Rattle.pac_ops.specs.declared.batch.Batch.{Batch}
use Rattle.pac_outside.specs.Devices.{log_at}
use Rattle.pac_outside.specs.Disk.{DiskHistory, IfKnown}
use Rattle.pac_outside.specs.declared.devices.Devices.{Devices}
use Rattle.pac_types.specs.Fits.{FitsCatalogue}
use Rattle.pac_types.specs.Typing.{CatalogueState}
use Rattle.pac_log.specs.declared.header.Header.{Header}
use Rattle.pac_log.specs.declared.position.NextGate.{NextGate}
use Rattle.pac_log.specs.declared.reader.ReaderParts.{ReaderParts}
use Rattle.pac_log.specs.Gates.{first_gate}
use Rattle.pac_log.specs.Logs.{all_txns, base_of, number_after, HoldsLog}
use Rattle.pac_log.specs.Readers.{at_first}
use Rattle.pac_log.specs.Reading.{IsStore, StandsAfter}
use Rattle.pac_check.specs.declared.slots.Slots.{Slots}
use Rattle.pac_check.specs.SlotStates.{active_of, newest_of, saved_txns, IsSlot}
use Rattle.pac_store.specs.Images.{Images, IfImagesKnown}
use Rattle.pac_store.specs.Stored.{AreNewest, IsPlaced, IsStored}
use Rattle.pac_store.proofs.ImageLemmas.{images-then}
use Rattle.pac_restore.specs.declared.loading.Loaded.{Loaded}
use Rattle.pac_restore.specs.declared.scanning.Scanned.{Scanned}
use Rattle.pac_restore.specs.Batches.{txns_in, FitBatches, RunOn}
use Rattle.pac_restore.specs.Loading.{stored_of, HoldsLogUpTo, IsLoaded, IsLoadedFrom}
use Rattle.pac_restore.specs.Opening.{AreNewestOf, HasFound}
use Rattle.pac_restore.specs.Reads.{IsReadFrom}
use Rattle.pac_restore.specs.Restoring.{IsScannedFrom}
use Rattle.pac_restore.proofs.KnownLemmas.{known-then}
use Rattle.pac_restore.proofs.LoadLemmas.{catalogue-stays, fits-after, header-stays, runs-after, total-after, up-to}
use Rattle.pac_restore.proofs.WholeLemmas.{first-again, first-number, whole-known, IsReadWhole}

module _ (loaded : Loaded) (reader : ReaderParts) (devices : Devices (Option DiskHistory)) (took : List Batch → Type 0) (found : HasFound loaded.slots.a loaded.slots.b reader.gate devices) (first : at_first reader ≡ reader)
    (same : loaded.catalogue ≡ reader.gate.catalogue) (number : loaded.txns ≡ saved_txns (newest_of loaded.slots)) (read : IsReadFrom (log_at (active_of loaded.slots) devices) (newest_of loaded.slots) reader.gate loaded.reader.gate took)
    (collected : loaded.batches ≡ read.after) where
  abbrev known : Option DiskHistory
  known = log_at (active_of loaded.slots) devices

  loaded-here : (images : Images) → IsReadWhole loaded.slots loaded.catalogue loaded.tables.rows reader.gate loaded.reader.gate read.after images → IsLoadedFrom loaded images
  loaded-here images is = record {
    batches = is.batches;
    log = is.log;
    end = is.end;
    is_a = is.is_a;
    is_b = is.is_b;
    placed = is.placed;
    newest = subst (λ (n : ℕ). AreNewest loaded.catalogue images.slot_a images.slot_b (newest_of loaded.slots) loaded.tables.rows n) (sym number) is.newest;
    after = ap txns_in collected ∙ is.taken ∙ ap (λ (n : ℕ). drop (n - base_of loaded.reader.gate.header) (all_txns is.batches)) (sym number);
  }

  pub loaded-known : IfKnown (λ h. IsSlot loaded.catalogue.tables loaded.slots.a h.now.seen) devices.slot_a → IfKnown (λ h. IsSlot loaded.catalogue.tables loaded.slots.b h.now.seen) devices.slot_b
      → IfKnown (λ x. IfKnown (λ y. AreNewestOf loaded.catalogue loaded.slots loaded.tables.rows x.now.seen y.now.seen) devices.slot_b) devices.slot_a → IfImagesKnown (IsLoadedFrom loaded) devices
  loaded-known is_a is_b newest = images-then (IsReadWhole loaded.slots loaded.catalogue loaded.tables.rows reader.gate loaded.reader.gate read.after) (IsLoadedFrom loaded) loaded-here devices
      (whole-known loaded.slots loaded.catalogue loaded.tables.rows reader.gate loaded.reader.gate devices took found read (first-number reader first) same is_a is_b newest)

  pub loaded-formed : FitsCatalogue loaded.catalogue loaded.tables.tables loaded.tables.rows → loaded.reader.is_at_end ≡ true → loaded.slots.has_failed ≡ false → IsLoaded loaded
  loaded-formed fits end works =
      let start = first-number reader first in
      let stays : loaded.reader.gate.catalogue ≡ reader.gate.catalogue = catalogue-stays known (newest_of loaded.slots) reader.gate loaded.reader.gate took read found.begins start in
      record {
        fits = fits;
        number = number;
        fit = subst (λ (c : CatalogueState). FitBatches c loaded.batches) (sym same) (subst (λ (l : List Batch). FitBatches reader.gate.catalogue l) (sym collected) (fits-after known (newest_of loaded.slots) reader.gate loaded.reader.gate took read found.begins start));
        runs = subst (λ (n : ℕ). RunOn n loaded.batches) (sym number) (subst (λ (l : List Batch). RunOn (saved_txns (newest_of loaded.slots)) l) (sym collected) (runs-after known (newest_of loaded.slots) reader.gate loaded.reader.gate took read found.begins start));
        total = omega (
          arith,
          total-after known (newest_of loaded.slots) reader.gate loaded.reader.gate took read found.begins start,
          number,
          ap (λ (l : List Batch). length (txns_in l)) collected,
        );
        end = end;
        same = stays ∙ sym same;
        works = works;
      }

pub loaded-stored : (loaded : Loaded) (images : Images) → IsLoadedFrom loaded images → IsStored images (stored_of loaded)
loaded-stored loaded images is = record {
  a = loaded.slots.a;
  b = loaded.slots.b;
  is_a = is.is_a;
  is_b = is.is_b;
  header = loaded.reader.gate.header;
  batches = is.batches;
  log = is.log;
  placed = is.placed;
  newest = is.newest;
  after = is.after;
}

pub stored-known : (loaded : Loaded) (devices : Devices (Option DiskHistory)) → IfImagesKnown (IsLoadedFrom loaded) devices → IfImagesKnown (λ images. IsStored images (stored_of loaded)) devices
stored-known loaded devices = images-then (IsLoadedFrom loaded) (λ images. IsStored images (stored_of loaded)) (loaded-stored loaded) devices

-- the reader stands after what the segment holds
pub log-known : (slots : Slots) (gate new : NextGate) (devices : Devices (Option DiskHistory)) (took : List Batch → Type 0) → HasFound slots.a slots.b gate devices → IsReadFrom (log_at (active_of slots) devices) (newest_of slots) gate new took
    → IfKnown (λ h. HoldsLogUpTo new h.now.seen) (log_at (active_of slots) devices)
log-known slots gate new devices took found read = up-to (newest_of slots) gate new took (log_at (active_of slots) devices) read
    (known-then (λ h. IsStore gate.header gate.catalogue h.now.seen × StandsAfter gate.header [] gate h.now.seen) (λ h. StandsAfter gate.header [] gate h.now.seen) (λ h is. is.1) (log_at (active_of slots) devices) found.log)

-- the reader goes back to the first gate
pub scanned-from : {T : Type 0} (scanned : Scanned T) (gate new : NextGate) (after : List Batch) → scanned.txns ≡ saved_txns (newest_of scanned.slots) → scanned.reader.gate ≡ first_gate new → first_gate new ≡ gate → scanned.total ≡ new.txns → (images : Images)
    → IsReadWhole scanned.slots scanned.catalogue scanned.tables.rows gate new after images → IsScannedFrom scanned images
scanned-from scanned gate new after number back first total images is =
    let headed : new.header ≡ scanned.reader.gate.header = sym (ap (λ (g : NextGate). g.header) back) in
    record {
      batches = is.batches;
      log = subst (λ (h : Header). HoldsLog h scanned.catalogue is.batches (log_at (active_of scanned.slots) images)) headed is.log;
      starts = subst (λ (g : NextGate). StandsAfter g.header [] g (log_at (active_of scanned.slots) images)) (sym (back ∙ first)) is.stands;
      counted = total ∙ is.end.txns ∙ ap (λ (h : Header). number_after h is.batches) headed;
      is_a = is.is_a;
      is_b = is.is_b;
      placed = subst (λ (h : Header). IsPlaced h is.batches (newest_of scanned.slots)) headed is.placed;
      newest = subst (λ (n : ℕ). AreNewest scanned.catalogue images.slot_a images.slot_b (newest_of scanned.slots) scanned.tables.rows n) (sym number) is.newest;
    }

module _ {T : Type 0} (scanned : Scanned T) (reader : ReaderParts) (new : NextGate) (devices : Devices (Option DiskHistory)) (took : List Batch → Type 0) (found : HasFound scanned.slots.a scanned.slots.b reader.gate devices) (first : at_first reader ≡ reader)
    (same : scanned.catalogue ≡ reader.gate.catalogue) (read : IsReadFrom (log_at (active_of scanned.slots) devices) (newest_of scanned.slots) reader.gate new took) where
  pub scanned-known : scanned.txns ≡ saved_txns (newest_of scanned.slots) → scanned.reader.gate ≡ first_gate new → scanned.total ≡ new.txns → IfKnown (λ h. IsSlot scanned.catalogue.tables scanned.slots.a h.now.seen) devices.slot_a
      → IfKnown (λ h. IsSlot scanned.catalogue.tables scanned.slots.b h.now.seen) devices.slot_b → IfKnown (λ x. IfKnown (λ y. AreNewestOf scanned.catalogue scanned.slots scanned.tables.rows x.now.seen y.now.seen) devices.slot_b) devices.slot_a
      → IfImagesKnown (IsScannedFrom scanned) devices
  scanned-known number back total is_a is_b newest =
      let start = first-number reader first in
      let known = log_at (active_of scanned.slots) devices in
      let again : first_gate new ≡ reader.gate
      = first-again reader.gate new (ap (λ (r : ReaderParts). r.gate) first) (header-stays known (newest_of scanned.slots) reader.gate new took read found.begins start) (catalogue-stays known (newest_of scanned.slots) reader.gate new took read found.begins start) in
      images-then (IsReadWhole scanned.slots scanned.catalogue scanned.tables.rows reader.gate new read.after) (IsScannedFrom scanned) (scanned-from scanned reader.gate new read.after number back again total) devices
      (whole-known scanned.slots scanned.catalogue scanned.tables.rows reader.gate new devices took found read start same is_a is_b newest)
