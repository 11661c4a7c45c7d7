-- What stands isn't refused.
use Rattle.std.proofs.Common.{◌≡◌, ◌∙◌, inl, inr, ℕ, List, Option, None, Result, Ok, Err, sym, ap, ap₂, subst}
use Rattle.pac_ops.specs.declared.transaction.Txn.{Txn}
use Rattle.pac_outside.specs.Devices.{log_at}
use Rattle.pac_outside.specs.declared.devices.LogName.{LogName}
use Rattle.pac_types.specs.Typing.{CatalogueState}
use Rattle.pac_log.specs.declared.damage.DamageKind.{DamageKind}
use Rattle.pac_log.specs.declared.header.Header.{Header}
use Rattle.pac_log.specs.Logs.{base_of, header_with, HasGate, HoldsLog}
use Rattle.pac_log.specs.Reading.{IsStore}
use Rattle.pac_log.proofs.OneLog.{no_damage, one_header, one_log, store_of}
use Rattle.pac_check.specs.declared.damage.SlotFault.{SlotFault}
use Rattle.pac_check.specs.declared.info.SlotInfo.{SlotInfo}
use Rattle.pac_check.specs.declared.info.SlotName.{SlotName}
use Rattle.pac_check.specs.declared.info.SlotName.TheVariants.{A, B}
use Rattle.pac_check.specs.declared.state.SlotState.{SlotState}
use Rattle.pac_check.specs.SlotStates.{by_slot, front_read, newest_among, slot_read}
use Rattle.pac_store.specs.FirstRefusals.{Refused, HasBaseAlone, HasBrokenSlot, HasDamagedSegment, HasMisplacedSlot, HasNoHeader, HasWholeSegment, HaveFronts, IsFirstRefusal}
use Rattle.pac_store.specs.FirstRefusals.Refused.{NoStore, InLog, InSlot}
use Rattle.pac_store.specs.Images.{Images}
use Rattle.pac_store.specs.Stands.{StandsFor}
use Rattle.pac_store.specs.Stored.{active_among, IsPlaced}
use Rattle.pac_store.proofs.StandsLemmas.{few-here, front-a, front-b, one-front, read-state}

no_fault : {T F : Type 0} (x : T) (fault : F) → ◌≡◌ {A = Result T F} (Ok x) (Err fault) → ⊥
no_fault x fault e = cc

module _ (text : List ℕ) (catalogue : CatalogueState) (history : List Txn) (least : ℕ) (images : Images) (is : StandsFor text catalogue history least images) where
  abbrev the_header : Header
  the_header = header_with is.form text

  -- the fronts are those of the states that stand
  same-fronts : (fronts : HaveFronts images) → (is.a ≡ fronts.a) × (is.b ≡ fronts.b)
  same-fronts fronts = (one-front images.slot_a is.a fronts.a (front-a text catalogue history least images is) fronts.is_a, one-front images.slot_b is.b fronts.b (front-b text catalogue history least images is) fronts.is_b)

  same-newest : (fronts : HaveFronts images) → newest_among is.a is.b ≡ newest_among fronts.a fronts.b
  same-newest fronts = let same = same-fronts fronts in ap₂ (λ (x y : SlotState). newest_among x y) same.0 same.1

  the-log : (fronts : HaveFronts images) → HoldsLog the_header catalogue is.batches (log_at (active_among fronts.a fronts.b) images)
  the-log fronts = let same = same-fronts fronts in subst (λ (n : LogName). HoldsLog the_header catalogue is.batches (log_at n images)) (ap₂ (λ (x y : SlotState). active_among x y) same.0 same.1) is.log

  the-store : (fronts : HaveFronts images) → IsStore the_header catalogue (log_at (active_among fronts.a fronts.b) images)
  the-store fronts = let holds = the-log fronts in store_of the_header catalogue is.batches holds.shut.gate holds.shut.rest (log_at (active_among fronts.a fronts.b) images) holds.log.accepted holds.log.base holds.shut.split

  sound-front : (slot : SlotName) (fault : SlotFault) → front_read (by_slot slot images.slot_a images.slot_b) ≡ Err fault → ⊥
  sound-front A fault broken = no_fault is.a fault (sym (front-a text catalogue history least images is) ∙ broken)
  sound-front B fault broken = no_fault is.b fault (sym (front-b text catalogue history least images is) ∙ broken)

  sound-slot : (slot : SlotName) (fault : SlotFault) → slot_read catalogue.tables (by_slot slot images.slot_a images.slot_b) ≡ Err fault → ⊥
  sound-slot A fault broken = no_fault is.a fault (sym (read-state catalogue (few-here text catalogue history least images is) history _ is.a images.slot_a is.slot_a) ∙ broken)
  sound-slot B fault broken = no_fault is.b fault (sym (read-state catalogue (few-here text catalogue history least images is) history _ is.b images.slot_b is.slot_b) ∙ broken)

  has-header : HasNoHeader images → ⊥
  has-header lacks = lacks.none the_header catalogue (the-store lacks.fronts)

  no-base : HasBaseAlone images → ⊥
  no-base alone =
      let one : alone.header ≡ the_header = one_header alone.header the_header alone.catalogue catalogue (log_at (active_among alone.fronts.a alone.fronts.b) images) alone.store (the-store alone.fronts) in
      let placed : IsPlaced the_header is.batches None = subst (λ (n : Option SlotInfo). IsPlaced the_header is.batches n) (same-newest alone.fronts ∙ alone.none) is.placed in
      alone.some (ap (λ (h : Header). base_of h) one ∙ placed)

  no-damage : (name : LogName) (at : ℕ) (kind : DamageKind) → HasDamagedSegment name at kind images → ⊥
  no-damage name at kind has = no_damage the_header has.header catalogue has.catalogue is.batches has.batches (record { at = at; kind = kind }) (log_at (active_among has.fronts.a has.fronts.b) images) (the-log has.fronts) has.damage

  one-whole : (whole : HasWholeSegment images) → (the_header ≡ whole.header) × (catalogue ≡ whole.catalogue) × (is.batches ≡ whole.batches)
  one-whole whole = one_log the_header whole.header catalogue whole.catalogue is.batches whole.batches (log_at (active_among whole.fronts.a whole.fronts.b) images) (the-log whole.fronts) whole.log

  no-broken : (slot : SlotName) (fault : SlotFault) → HasBrokenSlot slot fault images → ⊥
  no-broken slot fault has = sound-slot slot fault (subst (λ (c : CatalogueState). slot_read c.tables (by_slot slot images.slot_a images.slot_b) ≡ Err fault) (sym (one-whole has.whole).1) has.fault_of)

  no-misplaced : (slot : SlotName) → HasMisplacedSlot slot images → ⊥
  no-misplaced slot has =
      let one = one-whole has.whole in
      let placed : HasGate the_header is.batches has.info.place has.info.txns = subst (λ (n : Option SlotInfo). IsPlaced the_header is.batches n) (same-newest has.whole.fronts ∙ has.newest) is.placed in
      has.misfit (subst (λ (bs : List (List Txn)). HasGate has.whole.header bs has.info.place has.info.txns) one.2 (subst (λ (h : Header). HasGate h is.batches has.info.place has.info.txns) one.0 placed))

  pub not-refused : (refused : Refused) → IsFirstRefusal refused images → ⊥
  not-refused NoStore lacks = has-header lacks
  not-refused (InLog name at kind) (inl base) = no-base base.3
  not-refused (InLog name at kind) (inr damage) = no-damage name at kind damage
  not-refused (InSlot slot at kind) (inl broken) = sound-front slot _ broken.fault_of
  not-refused (InSlot slot at kind) (inr (inl broken)) = no-broken slot _ broken
  not-refused (InSlot slot at kind) (inr (inr misplaced)) = no-misplaced slot misplaced.2
