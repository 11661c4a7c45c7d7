-- What is refused of the bytes of a store's devices, and which refusal is the first.
use Rattle.std.specs.Prelude.{◌≡◌, ◌≢◌, ◌⊎◌, ℕ, List, Some, None, Err}
use Rattle.pac_ops.specs.declared.transaction.Txn.{Txn}
use Rattle.pac_outside.specs.Devices.{log_at}
use Rattle.pac_outside.specs.declared.devices.LogName.{LogName}
use Rattle.pac_outside.specs.declared.devices.LogName.TheVariants.{Log}
use Rattle.pac_types.specs.Typing.{CatalogueState}
use Rattle.pac_log.specs.declared.damage.DamageKind.{DamageKind}
use Rattle.pac_log.specs.declared.damage.DamageKind.TheVariants as log
use Rattle.pac_log.specs.declared.header.Header.{Header}
use Rattle.pac_log.specs.Logs.{base_of, HasGate, HoldsLog}
use Rattle.pac_log.specs.Reading.{IsDamaged, IsStore}
use Rattle.pac_check.specs.declared.damage.SlotDamageKind.{SlotDamageKind}
use Rattle.pac_check.specs.declared.damage.SlotDamageKind.TheVariants.{Place}
use Rattle.pac_check.specs.declared.damage.SlotFault.{SlotFault}
use Rattle.pac_check.specs.declared.info.SlotInfo.{SlotInfo}
use Rattle.pac_check.specs.declared.info.SlotName.{SlotName}
use Rattle.pac_check.specs.declared.info.SlotName.TheVariants.{B}
use Rattle.pac_check.specs.declared.state.SlotState.{SlotState}
use Rattle.pac_check.specs.Kinds.{slot_fault}
use Rattle.pac_check.specs.SlotStates.{by_slot, front_read, newest_among, slot_read, IsSlotFront, IsSlot}
use Rattle.pac_store.specs.Images.{Images}
use Rattle.pac_store.specs.Stored.{active_among}

-- what is refused: there is no log, or one of the two log devices is damaged, or a slot
pub data Refused : Type 0 where
  NoStore : Refused
  InLog : (name : LogName) (at : ℕ) (kind : DamageKind) → Refused
  InSlot : (slot : SlotName) (at : ℕ) (kind : SlotDamageKind) → Refused

-- the front of this slot has this first fault; that of slot a has none where it is slot b
pub record IsBrokenFront (slot : SlotName) (fault : SlotFault) (images : Images) : Type 0 where
  pub fault_of : front_read (by_slot slot images.slot_a images.slot_b) ≡ Err fault
  pub first : slot ≡ B → (state : SlotState) × IsSlotFront state images.slot_a

-- both slots begin right, as slots in these states, which say which segment is active
pub record HaveFronts (images : Images) : Type 0 where
  pub a : SlotState
  pub b : SlotState
  pub is_a : IsSlotFront a images.slot_a
  pub is_b : IsSlotFront b images.slot_b

abbrev pub active_of_fronts : (images : Images) → HaveFronts images → List ℕ
active_of_fronts images fronts = log_at (active_among fronts.a fronts.b) images

-- the active segment has no right header
pub record HasNoHeader (images : Images) : Type 0 where
  pub fronts : HaveFronts images
  pub none : (header : Header) (catalogue : CatalogueState) → IsStore header catalogue (active_of_fronts images fronts) → ⊥

-- no slot is open, but transactions came before the log
pub record HasBaseAlone (images : Images) : Type 0 where
  pub fronts : HaveFronts images
  pub none : newest_among fronts.a fronts.b ≡ None
  pub header : Header
  pub catalogue : CatalogueState
  pub store : IsStore header catalogue (active_of_fronts images fronts)
  pub some : base_of header ≢ 0

-- The active segment begins right, and this is the first damage behind its header.
pub record HasDamagedSegment (name : LogName) (at : ℕ) (kind : DamageKind) (images : Images) : Type 0 where
  pub fronts : HaveFronts images
  pub active : name ≡ active_among fronts.a fronts.b
  pub header : Header
  pub catalogue : CatalogueState
  pub batches : List (List Txn)
  pub begins : newest_among fronts.a fronts.b ≡ None → base_of header ≡ 0
  pub damage : IsDamaged header catalogue batches (record { at = at; kind = kind }) (active_of_fronts images fronts)

-- the active segment is whole
pub record HasWholeSegment (images : Images) : Type 0 where
  pub fronts : HaveFronts images
  pub header : Header
  pub catalogue : CatalogueState
  pub batches : List (List Txn)
  pub begins : newest_among fronts.a fronts.b ≡ None → base_of header ≡ 0
  pub log : HoldsLog header catalogue batches (active_of_fronts images fronts)

-- beside a whole segment this slot has this first fault; slot a is whole where it is slot b
pub record HasBrokenSlot (slot : SlotName) (fault : SlotFault) (images : Images) : Type 0 where
  pub whole : HasWholeSegment images
  pub fault_of : slot_read whole.catalogue.tables (by_slot slot images.slot_a images.slot_b) ≡ Err fault
  pub first : slot ≡ B → (state : SlotState) × IsSlot whole.catalogue.tables state images.slot_a

-- the segment and both slots are whole, but the newest slot is at no gate of the segment with its number
pub record HasMisplacedSlot (slot : SlotName) (images : Images) : Type 0 where
  pub whole : HasWholeSegment images
  pub is_a : IsSlot whole.catalogue.tables whole.fronts.a images.slot_a
  pub is_b : IsSlot whole.catalogue.tables whole.fronts.b images.slot_b
  pub info : SlotInfo
  pub newest : newest_among whole.fronts.a whole.fronts.b ≡ Some info
  pub named : slot ≡ info.slot
  pub misfit : HasGate whole.header whole.batches info.place info.txns → ⊥

-- This is the first refusal, in the order: the fronts of slot a and slot b; the active segment's header; a base where no slot is
-- open; the segment's batches; the rest of slot a and of slot b; the newest slot's place. Each is said beside what was read before.
abbrev pub IsFirstRefusal : Refused → Images → Type 0
IsFirstRefusal NoStore images = HasNoHeader images
IsFirstRefusal (InLog name at kind) images = ((name ≡ Log) × (at ≡ 8) × (kind ≡ log.Range) × HasBaseAlone images) ⊎ HasDamagedSegment name at kind images
IsFirstRefusal (InSlot slot at kind) images = IsBrokenFront slot (slot_fault kind at) images ⊎ (HasBrokenSlot slot (slot_fault kind at) images ⊎ ((at ≡ 9) × (kind ≡ Place) × HasMisplacedSlot slot images))
