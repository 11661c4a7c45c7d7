-- What the images of a store hold that was opened, and whose active segment was read to its end.
use Rattle.std.proofs.Common.{◌≡◌, ◌∙◌, ℕ, ◌-◌, List, [], ◌++◌, drop, length, Option, sym, ap, subst}
use Rattle.pac_value.specs.State.{Tables}
use Rattle.pac_ops.specs.declared.batch.Batch.{Batch}
use Rattle.pac_ops.specs.declared.transaction.Txn.{Txn}
use Rattle.pac_outside.specs.Devices.{log_at}
use Rattle.pac_outside.specs.Disk.{DiskHistory, IfKnown}
use Rattle.pac_outside.specs.declared.devices.Devices.{Devices}
use Rattle.pac_types.specs.Typing.{CatalogueState}
use Rattle.pac_log.specs.declared.header.Header.{Header}
use Rattle.pac_log.specs.declared.position.NextGate.{NextGate}
use Rattle.pac_log.specs.declared.reader.ReaderParts.{ReaderParts}
use Rattle.pac_log.specs.Gates.{first_gate}
use Rattle.pac_log.specs.Logs.{base_of, header_bytes, HoldsLog, all_txns}
use Rattle.pac_log.specs.Places.{IsAfter}
use Rattle.pac_log.specs.Readers.{at_first}
use Rattle.pac_log.specs.Reading.{StandsAfter}
use Rattle.pac_check.specs.declared.slots.Slots.{Slots}
use Rattle.pac_check.specs.SlotStates.{active_of, newest_of, saved_txns, IsSlot}
use Rattle.pac_store.specs.Images.{Images, IfImagesKnown}
use Rattle.pac_store.specs.Stored.{IsPlaced, IsStored, Stored}
use Rattle.pac_restore.specs.Batches.{txns_by_batch, txns_in}
use Rattle.pac_restore.specs.Opening.{AreNewestOf, HasFound, IsFoundIn}
use Rattle.pac_restore.specs.Reads.{HoldsTo, IsReadFrom}
use Rattle.pac_restore.proofs.KnownLemmas.{ab-images, a-images, b-images, both-images, log-images}
use Rattle.pac_restore.proofs.LoadLemmas.{header-stays, placed-there, txns-taken}
use Rattle.pac_restore.proofs.RefusalLemmas.{found-images}

-- ---- the first gate

pub first-number : (reader : ReaderParts) → at_first reader ≡ reader → reader.gate.txns ≡ base_of reader.gate.header
first-number reader same = sym (ap (λ (r : ReaderParts). r.gate.txns) same)

-- the first gate of what a reader reads, wherever it stands
pub first-again : (old new : NextGate) → first_gate old ≡ old → new.header ≡ old.header → new.catalogue ≡ old.catalogue → first_gate new ≡ old
first-again old new first headed same =
    let again : first_gate new ≡ first_gate old = λ i. record { catalogue = same i; header = headed i; place = length (header_bytes (headed i)); txns = base_of (headed i) } in
    again ∙ first

-- ---- what the images hold

module _ (slots : Slots) (catalogue : CatalogueState) (rows : Tables) (gate new : NextGate) (after : List Batch) where
  -- The active segment is whole, and its first and its last gate are these; the slots are in these states, the newest at one of its
  -- gates; the tables are those of the newest, and the batches hold the segment's transactions with greater numbers.
  pub record IsReadWhole (images : Images) : Type 0 where
    pub batches : List (List Txn)
    pub log : HoldsLog new.header catalogue batches (log_at (active_of slots) images)
    pub stands : StandsAfter gate.header [] gate (log_at (active_of slots) images)
    pub end : IsAfter new.header batches new
    pub is_a : IsSlot catalogue.tables slots.a images.slot_a
    pub is_b : IsSlot catalogue.tables slots.b images.slot_b
    pub placed : IsPlaced new.header batches (newest_of slots)
    pub newest : AreNewestOf catalogue slots rows images.slot_a images.slot_b
    pub taken : txns_in after ≡ drop (saved_txns (newest_of slots) - base_of new.header) (all_txns batches)

  -- what is stored in them
  abbrev pub stored_here : Stored
  stored_here = record { catalogue = catalogue; base = rows; number = saved_txns (newest_of slots); rest = txns_in after }

  pub whole-stored : (images : Images) → IsReadWhole images → IsStored images stored_here
  whole-stored images is = record {
    a = slots.a;
    b = slots.b;
    is_a = is.is_a;
    is_b = is.is_b;
    header = new.header;
    batches = is.batches;
    log = is.log;
    placed = is.placed;
    newest = is.newest;
    after = is.taken;
  }

-- of a store that was opened at this gate, and whose segment was read to another
module _ (slots : Slots) (catalogue : CatalogueState) (rows : Tables) (gate new : NextGate) (devices : Devices (Option DiskHistory)) (took : List Batch → Type 0)
    (found : HasFound slots.a slots.b gate devices) (read : IsReadFrom (log_at (active_of slots) devices) (newest_of slots) gate new took)
    (first : gate.txns ≡ base_of gate.header) (same : catalogue ≡ gate.catalogue) where
  abbrev all : List (List Txn)
  all = txns_by_batch read.before ++ txns_by_batch read.after

  abbrev Seen : List ℕ → Type 0
  Seen image = StandsAfter gate.header [] gate image → IsAfter gate.header (txns_by_batch read.before) read.gate × HoldsTo gate.header gate.catalogue all new image

  abbrev known : Option DiskHistory
  known = log_at (active_of slots) devices

  whole-here : (images : Images) → IsFoundIn slots.a slots.b gate images → Seen (log_at (active_of slots) images) → IsSlot catalogue.tables slots.a images.slot_a → IsSlot catalogue.tables slots.b images.slot_b
      → AreNewestOf catalogue slots rows images.slot_a images.slot_b → IsReadWhole slots catalogue rows gate new read.after images
  whole-here images here reads is_a is_b newest =
      let seen = reads here.stands in
      let headed = header-stays known (newest_of slots) gate new took read found.begins first in
      record {
        batches = all;
        log = subst (λ (x : Header). HoldsLog x catalogue all (log_at (active_of slots) images)) (sym headed) (subst (λ (c : CatalogueState). HoldsLog gate.header c all (log_at (active_of slots) images)) (sym same) seen.1.0);
        stands = here.stands;
        end = subst (λ (x : Header). IsAfter x all new) (sym headed) seen.1.1;
        is_a = is_a;
        is_b = is_b;
        placed = subst (λ (x : Header). IsPlaced x all (newest_of slots)) (sym headed) (placed-there known (newest_of slots) gate new took read found.begins first seen.0);
        newest = newest;
        taken = txns-taken known (newest_of slots) gate new took read found.begins first seen.0 ∙ sym (ap (λ (x : Header). drop (saved_txns (newest_of slots) - base_of x) (all_txns all)) headed);
      }

  pub whole-known : IfKnown (λ h. IsSlot catalogue.tables slots.a h.now.seen) devices.slot_a → IfKnown (λ h. IsSlot catalogue.tables slots.b h.now.seen) devices.slot_b
      → IfKnown (λ x. IfKnown (λ y. AreNewestOf catalogue slots rows x.now.seen y.now.seen) devices.slot_b) devices.slot_a → IfImagesKnown (IsReadWhole slots catalogue rows gate new read.after) devices
  whole-known is_a is_b newest =
      both-images (λ images. Segment images × States images) (λ images. AreNewestOf catalogue slots rows images.slot_a images.slot_b) (IsReadWhole slots catalogue rows gate new read.after)
      (λ images parts newest. whole-here images parts.0.0 parts.0.1 parts.1.0 parts.1.1 newest) devices
      (both-images Segment States (λ images. Segment images × States images) (λ images x y. (x, y)) devices
      (both-images (IsFoundIn slots.a slots.b gate) (λ images. Seen (log_at (active_of slots) images)) Segment (λ images x y. (x, y)) devices (found-images slots.a slots.b gate devices found) (log-images (active_of slots) Seen devices (read.reads gate.header)))
      (both-images (λ images. IsSlot catalogue.tables slots.a images.slot_a) (λ images. IsSlot catalogue.tables slots.b images.slot_b) States (λ images x y. (x, y)) devices
      (a-images (IsSlot catalogue.tables slots.a) devices is_a) (b-images (IsSlot catalogue.tables slots.b) devices is_b)))
      (ab-images (AreNewestOf catalogue slots rows) devices newest)
    where
      Segment : Images → Type 0
      Segment images = IsFoundIn slots.a slots.b gate images × Seen (log_at (active_of slots) images)

      States : Images → Type 0
      States images = IsSlot catalogue.tables slots.a images.slot_a × IsSlot catalogue.tables slots.b images.slot_b
