-- The tables that are read are those of the newest slot.
use Rattle.std.proofs.Common.{◌≡◌, Option, Some, None, refl}
use Rattle.std.specs.FinMap.{empty}
use Rattle.pac_value.specs.State.{Tables}
use Rattle.pac_outside.specs.Disk.{DiskHistory, IfKnown}
use Rattle.pac_types.specs.Fits.{FitTables}
use Rattle.pac_types.specs.Typing.{CatalogueState}
use Rattle.pac_check.specs.declared.info.SlotInfo.{SlotInfo}
use Rattle.pac_check.specs.declared.info.SlotName.{SlotName}
use Rattle.pac_check.specs.declared.info.SlotName.TheVariants.{A, B}
use Rattle.pac_check.specs.declared.slots.Slots.{Slots}
use Rattle.pac_check.specs.SlotStates.{by_slot, newest_of, saved_txns, HoldsInfo}
use Rattle.pac_store.specs.Stored.{AreNewest}
use Rattle.pac_restore.specs.Opening.{AreNewestOf}

module _ (catalogue : CatalogueState) (slots : Slots) (base : Tables) (fits : FitTables catalogue.tables base) (none : newest_of slots ≡ None → base ≡ empty) where
  newest-here : (x y : DiskHistory) → ((info : SlotInfo) → newest_of slots ≡ Some info → IfKnown (λ h. HoldsInfo catalogue.tables info base h.now.seen) (by_slot info.slot (Some x) (Some y)))
      → (newest : Option SlotInfo) → newest_of slots ≡ newest → AreNewest catalogue x.now.seen y.now.seen newest base (saved_txns newest)
  newest-here x y loaded None e = (none e, refl)
  newest-here x y loaded (Some info) e = (fits, here info.slot (loaded info e), refl)
    where
      here : (slot : SlotName) → IfKnown (λ h. HoldsInfo catalogue.tables info base h.now.seen) (by_slot slot (Some x) (Some y)) → HoldsInfo catalogue.tables info base (by_slot slot x.now.seen y.now.seen)
      here A holds = holds
      here B holds = holds

  pub newest-known : (a b : Option DiskHistory) → ((info : SlotInfo) → newest_of slots ≡ Some info → IfKnown (λ h. HoldsInfo catalogue.tables info base h.now.seen) (by_slot info.slot a b))
      → IfKnown (λ x. IfKnown (λ y. AreNewestOf catalogue slots base x.now.seen y.now.seen) b) a
  newest-known None b loaded = tt
  newest-known (Some x) None loaded = tt
  newest-known (Some x) (Some y) loaded = newest-here x y loaded (newest_of slots) refl
