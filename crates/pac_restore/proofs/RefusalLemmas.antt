-- Which refusal of a store is the first.
use Rattle.std.proofs.Common.{◌≡◌, inl, inr, ℕ, List, [], ◌++◌, Option, Some, None, Err, refl, ap, subst}
use Rattle.std.specs.Prelude.{◌≢◌}
use Rattle.pac_ops.specs.declared.batch.Batch.{Batch}
use Rattle.pac_ops.specs.declared.transaction.Txn.{Txn}
use Rattle.pac_outside.specs.Devices.{each, log_at}
use Rattle.pac_outside.specs.Disk.{DiskHistory, IfKnown}
use Rattle.pac_outside.specs.Parts.{reads_of}
use Rattle.pac_outside.specs.declared.devices.Devices.{Devices}
use Rattle.pac_types.specs.Typing.{CatalogueState}
use Rattle.pac_log.specs.declared.damage.DamageKind.{DamageKind}
use Rattle.pac_log.specs.declared.damage.DamageKind.TheVariants as log_kind
use Rattle.pac_log.specs.declared.header.Header.{Header}
use Rattle.pac_log.specs.declared.position.NextGate.{NextGate}
use Rattle.pac_log.specs.Logs.{base_of, HasGate, HoldsLog}
use Rattle.pac_log.specs.Reading.{IsStore, StandsAfter}
use Rattle.pac_check.specs.declared.damage.SlotDamageKind.{SlotDamageKind}
use Rattle.pac_check.specs.declared.damage.SlotDamageKind.TheVariants.{Place}
use Rattle.pac_check.specs.declared.errors.SlotError.{SlotError}
use Rattle.pac_check.specs.declared.errors.SlotError.TheVariants as slot
use Rattle.pac_check.specs.declared.info.SlotInfo.{SlotInfo}
use Rattle.pac_check.specs.declared.info.SlotName.{SlotName}
use Rattle.pac_check.specs.declared.info.SlotName.TheVariants.{B}
use Rattle.pac_check.specs.declared.state.SlotState.{SlotState}
use Rattle.pac_check.specs.Kinds.{slot_fault}
use Rattle.pac_check.specs.SlotStates.{active_in, by_slot, front_read, newest_among, IsSlot, IsSlotFront}
use Rattle.pac_store.specs.FirstRefusals.{HasWholeSegment, HaveFronts, IsFirstRefusal, Refused as refused}
use Rattle.pac_store.specs.Images.{Images, IfImagesKnown}
use Rattle.pac_store.specs.Stored.{active_among}
use Rattle.pac_store.proofs.ImageLemmas.{where-known}
use Rattle.pac_restore.specs.declared.errors.Damage.{Damage}
use Rattle.pac_restore.specs.declared.errors.Damage.TheVariants.{Log, Slot}
use Rattle.pac_restore.specs.declared.errors.LoadError.{LoadError}
use Rattle.pac_restore.specs.declared.errors.LoadError.TheVariants.{NoStore, Damaged, DiskFault, NoMemory}
use Rattle.pac_restore.specs.Causes.{slot_not_loaded}
use Rattle.pac_restore.specs.Opening.{HasFound, IsBrokenSlot, IsFoundIn, IsInLog}
use Rattle.pac_log.specs.Places.{IsAfter}
use Rattle.pac_restore.specs.Batches.{txns_by_batch}
use Rattle.pac_restore.specs.Reads.{HoldsTo, IsDamagedAfter, IsMissed, IsReadFrom}
use Rattle.pac_restore.specs.Refusals.{AreRefusedAs}
use Rattle.pac_restore.proofs.KnownLemmas.{ab-images, a-images, b-images, both-images, log-images, on-log, on-slot}

-- ---- what slots begin with

pub refused-front : (devices : Devices (Option DiskHistory)) (cause : SlotError)
    → ((name : SlotName) (at : ℕ) (kind : SlotDamageKind) → cause ≡ slot.Damaged name at kind → IfKnown (λ h. front_read h.now.seen ≡ Err (slot_fault kind at)) (by_slot name devices.slot_a devices.slot_b))
    → ((at : ℕ) (kind : SlotDamageKind) → cause ≡ slot.Damaged B at kind → IfKnown (λ h. (state : SlotState) × IsSlotFront state h.now.seen) devices.slot_a) → AreRefusedAs devices (slot_not_loaded cause)
refused-front devices slot.DiskFault damaged first = tt
refused-front devices slot.NoMemory damaged first = tt
refused-front devices (slot.Damaged name at kind) damaged first =
    where-known Faulty (IsFirstRefusal (refused.InSlot name at kind)) (λ known faulty. inl (record { fault_of = on-slot name (λ image. front_read image ≡ Err (slot_fault kind at)) known faulty.0; first = faulty.1 }))
    devices (damaged name at kind refl, λ is. first at kind (ap (λ (s : SlotName). slot.Damaged s at kind) is))
  where
    Faulty : Devices (Option DiskHistory) → Type 0
    Faulty d = IfKnown (λ h. front_read h.now.seen ≡ Err (slot_fault kind at)) (by_slot name d.slot_a d.slot_b) × (name ≡ B → IfKnown (λ h. (state : SlotState) × IsSlotFront state h.now.seen) d.slot_a)

-- ---- the active segment

module _ (a b : SlotState) where
  abbrev fronts-in : (images : Images) → IsSlotFront a images.slot_a → IsSlotFront b images.slot_b → HaveFronts images
  fronts-in images is_a is_b = record { a = a; b = b; is_a = is_a; is_b = is_b }

  pub refused-header : (devices : Devices (Option DiskHistory)) → IfKnown (λ h. IsSlotFront a h.now.seen) devices.slot_a → IfKnown (λ h. IsSlotFront b h.now.seen) devices.slot_b
      → IfKnown (λ h. (header : Header) (catalogue : CatalogueState) → ¬ IsStore header catalogue h.now.seen) (log_at (active_among a b) devices) → IfImagesKnown (IsFirstRefusal refused.NoStore) devices
  refused-header devices is_a is_b none =
      both-images (λ images. IsSlotFront a images.slot_a × IsSlotFront b images.slot_b) (λ images. (header : Header) (catalogue : CatalogueState) → ¬ IsStore header catalogue (log_at (active_among a b) images)) (IsFirstRefusal refused.NoStore)
      (λ images fronts none. record { fronts = fronts-in images fronts.0 fronts.1; none = none }) devices
      (both-images (λ images. IsSlotFront a images.slot_a) (λ images. IsSlotFront b images.slot_b) (λ images. IsSlotFront a images.slot_a × IsSlotFront b images.slot_b) (λ images x y. (x, y)) devices (a-images (IsSlotFront a) devices is_a) (b-images (IsSlotFront b) devices is_b))
      (log-images (active_among a b) (λ image. (header : Header) (catalogue : CatalogueState) → ¬ IsStore header catalogue image) devices none)

  pub refused-attach : (devices : Devices (Option DiskHistory)) (error : LoadError) → IfKnown (λ h. IsSlotFront a h.now.seen) devices.slot_a → IfKnown (λ h. IsSlotFront b h.now.seen) devices.slot_b
      → (error ≡ NoStore → IfKnown (λ h. (header : Header) (catalogue : CatalogueState) → ¬ IsStore header catalogue h.now.seen) (log_at (active_among a b) devices)) → ((damage : Damage) → error ≡ Damaged damage → ⊥) → AreRefusedAs devices error
  refused-attach devices NoStore is_a is_b none whole = refused-header devices is_a is_b (none refl)
  refused-attach devices (Damaged damage) is_a is_b none whole = absurd (whole damage refl)
  refused-attach devices DiskFault is_a is_b none whole = tt
  refused-attach devices NoMemory is_a is_b none whole = tt

  -- ---- what is found

  module _ (gate : NextGate) (devices : Devices (Option DiskHistory)) where
    pub refused-base : IfKnown (λ h. IsSlotFront a h.now.seen) devices.slot_a → IfKnown (λ h. IsSlotFront b h.now.seen) devices.slot_b → IfKnown (λ h. IsStore gate.header gate.catalogue h.now.seen × StandsAfter gate.header [] gate h.now.seen) (log_at (active_among a b) devices)
        → newest_among a b ≡ None → base_of gate.header ≢ 0 → AreRefusedAs devices (Damaged (Log (active_among a b) 8 log_kind.Range))
    refused-base is_a is_b log none some =
        both-images (λ images. IsSlotFront a images.slot_a × IsSlotFront b images.slot_b) (λ images. IsStore gate.header gate.catalogue (log_at (active_among a b) images) × StandsAfter gate.header [] gate (log_at (active_among a b) images))
        (IsFirstRefusal (refused.InLog (active_among a b) 8 log_kind.Range))
        (λ images fronts log. inl (ap active_in none, refl, refl, record { fronts = fronts-in images fronts.0 fronts.1; none = none; header = gate.header; catalogue = gate.catalogue; store = log.0; some = some })) devices
        (both-images (λ images. IsSlotFront a images.slot_a) (λ images. IsSlotFront b images.slot_b) (λ images. IsSlotFront a images.slot_a × IsSlotFront b images.slot_b) (λ images x y. (x, y)) devices (a-images (IsSlotFront a) devices is_a) (b-images (IsSlotFront b) devices is_b))
        (log-images (active_among a b) (λ image. IsStore gate.header gate.catalogue image × StandsAfter gate.header [] gate image) devices log)

    module _ (found : HasFound a b gate devices) where
      pub found-images : IfImagesKnown (IsFoundIn a b gate) devices
      found-images = where-known (HasFound a b gate) (IsFoundIn a b gate) step devices found
        where
          step : (known : Devices DiskHistory) → HasFound a b gate (each Some known) → IsFoundIn a b gate (reads_of known)
          step known here =
              let log = on-log (active_among a b) (λ image. IsStore gate.header gate.catalogue image × StandsAfter gate.header [] gate image) known here.log in
              record { front_a = here.front_a; front_b = here.front_b; store = log.0; stands = log.1; begins = here.begins }

      abbrev DamagedAt : ℕ → DamageKind → Type 0
      DamagedAt at kind = (header : Header) → IfKnown (λ h. StandsAfter header [] gate h.now.seen → IsDamagedAfter header gate.catalogue at kind h.now.seen) (log_at (active_among a b) devices)

      pub refused-log : (error : LoadError) → IsInLog (active_among a b) DamagedAt error → AreRefusedAs devices error
      refused-log NoStore is = absurd is
      refused-log (Damaged (Log name at kind)) is =
          both-images (IsFoundIn a b gate) (λ images. StandsAfter gate.header [] gate (log_at (active_among a b) images) → IsDamagedAfter gate.header gate.catalogue at kind (log_at (active_among a b) images)) (IsFirstRefusal (refused.InLog name at kind))
          (λ images here damaged. inr (record {
            fronts = fronts-in images here.front_a here.front_b;
            active = is.0;
            header = gate.header;
            catalogue = gate.catalogue;
            batches = (damaged here.stands).0;
            begins = here.begins;
            damage = (damaged here.stands).1;
          })) devices found-images
          (log-images (active_among a b) (λ image. StandsAfter gate.header [] gate image → IsDamagedAfter gate.header gate.catalogue at kind image) devices (is.1 gate.header))
      refused-log (Damaged (Slot name at kind)) is = absurd is
      refused-log DiskFault is = tt
      refused-log NoMemory is = tt

      abbrev whole-in : (images : Images) → IsFoundIn a b gate images → (batches : List (List Txn)) → HoldsLog gate.header gate.catalogue batches (log_at (active_among a b) images) → HasWholeSegment images
      whole-in images here batches log = record { fronts = fronts-in images here.front_a here.front_b; header = gate.header; catalogue = gate.catalogue; batches = batches; begins = here.begins; log = log }

      pub refused-slot : (catalogue : CatalogueState) → catalogue ≡ gate.catalogue → (name : SlotName) (at : ℕ) (kind : SlotDamageKind)
          → ((header : Header) → IfKnown (λ h. StandsAfter header [] gate h.now.seen → (batches : List (List Txn)) × HoldsLog header gate.catalogue batches h.now.seen) (log_at (active_among a b) devices))
          → IfKnown (λ x. IfKnown (λ y. IsBrokenSlot catalogue.tables name (slot_fault kind at) x.now.seen y.now.seen) devices.slot_b) devices.slot_a → AreRefusedAs devices (Damaged (Slot name at kind))
      refused-slot catalogue same name at kind whole broken =
          both-images HasWhole (λ images. IsBrokenSlot catalogue.tables name (slot_fault kind at) images.slot_a images.slot_b) (IsFirstRefusal (refused.InSlot name at kind))
          (λ images log broken.
          let here = subst (λ (c : CatalogueState). IsBrokenSlot c.tables name (slot_fault kind at) images.slot_a images.slot_b) same broken in
          inr (inl (record { whole = whole-in images log.0 log.1.0 log.1.1; fault_of = here.fault_of; first = here.first })))
          devices
          (both-images (IsFoundIn a b gate) (λ images. StandsAfter gate.header [] gate (log_at (active_among a b) images) → (batches : List (List Txn)) × HoldsLog gate.header gate.catalogue batches (log_at (active_among a b) images)) HasWhole
          (λ images here log. (here, log here.stands)) devices found-images
          (log-images (active_among a b) (λ image. StandsAfter gate.header [] gate image → (batches : List (List Txn)) × HoldsLog gate.header gate.catalogue batches image) devices (whole gate.header)))
          (ab-images (IsBrokenSlot catalogue.tables name (slot_fault kind at)) devices broken)
        where
          HasWhole : Images → Type 0
          HasWhole images = IsFoundIn a b gate images × ((batches : List (List Txn)) × HoldsLog gate.header gate.catalogue batches (log_at (active_among a b) images))

      -- the newest slot is at no gate
      pub refused-place : (catalogue : CatalogueState) → catalogue ≡ gate.catalogue → IfKnown (λ h. IsSlot catalogue.tables a h.now.seen) devices.slot_a → IfKnown (λ h. IsSlot catalogue.tables b h.now.seen) devices.slot_b
          → (missed : IsMissed (log_at (active_among a b) devices) (newest_among a b) gate) → AreRefusedAs devices (Damaged (Slot missed.0.slot 9 Place))
      refused-place catalogue same is_a is_b missed =
          both-images Slots HasMissed (IsFirstRefusal (refused.InSlot missed.0.slot 9 Place))
          (λ images slots log. inr (inr (
            refl,
            refl,
            record {
              whole = whole-in images log.0 log.1.0 log.1.1;
              is_a = subst (λ (c : CatalogueState). IsSlot c.tables a images.slot_a) same slots.0;
              is_b = subst (λ (c : CatalogueState). IsSlot c.tables b images.slot_b) same slots.1;
              info = missed.0;
              newest = missed.1;
              named = refl;
              misfit = log.1.2;
            },
          ))) devices
          (both-images (λ images. IsSlot catalogue.tables a images.slot_a) (λ images. IsSlot catalogue.tables b images.slot_b) Slots (λ images x y. (x, y)) devices (a-images (IsSlot catalogue.tables a) devices is_a) (b-images (IsSlot catalogue.tables b) devices is_b))
          (both-images (IsFoundIn a b gate) (λ images. StandsAfter gate.header [] gate (log_at (active_among a b) images) → Misses gate.header (log_at (active_among a b) images)) HasMissed (λ images here log. (here, log here.stands)) devices found-images
          (log-images (active_among a b) (λ image. StandsAfter gate.header [] gate image → Misses gate.header image) devices (missed.2 gate.header)))
        where
          Slots : Images → Type 0
          Slots images = IsSlot catalogue.tables a images.slot_a × IsSlot catalogue.tables b images.slot_b

          Misses : Header → List ℕ → Type 0
          Misses header image = (batches : List (List Txn)) × HoldsLog header gate.catalogue batches image × (HasGate header batches missed.0.place missed.0.txns → ⊥)

          HasMissed : Images → Type 0
          HasMissed images = IsFoundIn a b gate images × Misses gate.header (log_at (active_among a b) images)

-- a segment that was read to its end is whole
pub whole-of : (known : Option DiskHistory) (newest : Option SlotInfo) (old new : NextGate) (took : List Batch → Type 0) (read : IsReadFrom known newest old new took) (header : Header) → IfKnown (λ h. StandsAfter header [] old h.now.seen → (batches : List (List Txn)) × HoldsLog header old.catalogue batches h.now.seen) known
whole-of known newest old new took read header = go known (read.reads header)
  where
    go : (known : Option DiskHistory) → IfKnown (λ h. StandsAfter header [] old h.now.seen → IsAfter header (txns_by_batch read.before) read.gate × HoldsTo header old.catalogue (txns_by_batch read.before ++ txns_by_batch read.after) new h.now.seen) known
        → IfKnown (λ h. StandsAfter header [] old h.now.seen → (batches : List (List Txn)) × HoldsLog header old.catalogue batches h.now.seen) known
    go None reads = tt
    go (Some h) reads = λ stands. (txns_by_batch read.before ++ txns_by_batch read.after, (reads stands).1.0)
