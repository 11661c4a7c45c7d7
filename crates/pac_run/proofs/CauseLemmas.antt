-- What an engine is read from.
use Rattle.std.proofs.Common.{◌≡◌, ◌∙◌, Option, Some, None, sym, ap, subst}
use Rattle.pac_outside.specs.Devices.{each, log_at}
use Rattle.pac_outside.specs.declared.devices.LogName.{LogName}
use Rattle.pac_outside.specs.declared.devices.LogName.TheVariants.{Log, LogB}
use Rattle.pac_value.specs.State.{Tables}
use Rattle.pac_outside.specs.Disk.{DiskHistory, IfKnown}
use Rattle.pac_outside.specs.Parts.{reads_of}
use Rattle.pac_outside.specs.declared.devices.Devices.{Devices}
use Rattle.pac_types.specs.Typing.{CatalogueState}
use Rattle.pac_log.specs.declared.position.NextGate.{NextGate}
use Rattle.pac_log.specs.Logs.{HoldsLog}
use Rattle.pac_check.specs.declared.state.SlotState.{SlotState}
use Rattle.pac_check.specs.declared.slots.Slots.{Slots}
use Rattle.pac_check.specs.SlotStates.{active_of, IsSlot}
use Rattle.pac_store.specs.Images.{Images, IfImagesKnown}
use Rattle.pac_store.proofs.ImageLemmas.{where-known}
use Rattle.pac_restore.specs.Loading.{HoldsLogUpTo}
use Rattle.pac_restore.specs.Restoring.{IsRecoveredFrom}
use Rattle.pac_engine.specs.declared.parts.EngineParts.{EngineParts}
use Rattle.pac_run.specs.Opening.{IsOpenedFrom}

gate-known : (gate other : NextGate) (known : Option DiskHistory) → other ≡ gate → IfKnown (λ h. HoldsLogUpTo gate h.now.seen) known → IfKnown (λ h. HoldsLogUpTo other h.now.seen) known
gate-known gate other None same up = tt
gate-known gate other (Some h) same up = subst (λ (g : NextGate). HoldsLogUpTo g h.now.seen) (sym same) up

-- the active segment, by the gate and the slots that the engine is given
pub active-known : (gate other : NextGate) (slots those : Slots) (known : Devices (Option DiskHistory)) → other ≡ gate → those ≡ slots → IfKnown (λ h. HoldsLogUpTo gate h.now.seen) (log_at (active_of slots) known) → IfKnown (λ h. HoldsLogUpTo other h.now.seen) (log_at (active_of those) known)
active-known gate other slots those known same states up = subst (λ (s : Slots). IfKnown (λ h. HoldsLogUpTo other h.now.seen) (log_at (active_of s) known)) (sym states) (gate-known gate other (log_at (active_of slots) known) same up)

pub state-known : (catalogue other : CatalogueState) (state same-state : SlotState) (known : Option DiskHistory) → other ≡ catalogue → same-state ≡ state → IfKnown (λ h. IsSlot catalogue.tables state h.now.seen) known → IfKnown (λ h. IsSlot other.tables same-state h.now.seen) known
state-known catalogue other state same-state None same equal is = tt
state-known catalogue other state same-state (Some h) same equal is = subst (λ (c : CatalogueState). IsSlot c.tables same-state h.now.seen) (sym same) (subst (λ (s : SlotState). IsSlot catalogue.tables s h.now.seen) (sym equal) is)

module _ (engine : EngineParts) (before : CatalogueState) (held : Tables) (end : NextGate) (slots : Slots) (catalogue : engine.session.catalogue ≡ before) (tables : engine.session.tables ≡ held) (gate : engine.log.gate ≡ end) (states : engine.slots ≡ slots) (same : end.catalogue ≡ before) where
  opened-here : (images : Images) → HoldsLogUpTo end (log_at (active_of slots) images) → IsSlot before.tables slots.a images.slot_a → IsSlot before.tables slots.b images.slot_b → IsRecoveredFrom before held end.txns images → IsOpenedFrom engine images
  opened-here images up is_a is_b recovered =
      let here : HoldsLogUpTo engine.log.gate (log_at (active_of engine.slots) images) = subst (λ (s : Slots). HoldsLogUpTo engine.log.gate (log_at (active_of s) images)) (sym states) (subst (λ (g : NextGate). HoldsLogUpTo g (log_at (active_of slots) images)) (sym gate) up) in
      let catalogues : engine.log.gate.catalogue ≡ engine.session.catalogue = ap (λ (g : NextGate). g.catalogue) gate ∙ same ∙ sym catalogue in
      record {
        recovered = subst (λ (g : NextGate). IsRecoveredFrom engine.session.catalogue engine.session.tables g.txns images) (sym gate)
            (subst (λ (t : Tables). IsRecoveredFrom engine.session.catalogue t end.txns images) (sym tables) (subst (λ (c : CatalogueState). IsRecoveredFrom c held end.txns images) (sym catalogue) recovered));
        is_a = subst (λ (s : Slots). IsSlot engine.session.catalogue.tables s.a images.slot_a) (sym states) (subst (λ (c : CatalogueState). IsSlot c.tables slots.a images.slot_a) (sym catalogue) is_a);
        is_b = subst (λ (s : Slots). IsSlot engine.session.catalogue.tables s.b images.slot_b) (sym states) (subst (λ (c : CatalogueState). IsSlot c.tables slots.b images.slot_b) (sym catalogue) is_b);
        batches = here.batches;
        log = subst (λ (c : CatalogueState). HoldsLog engine.log.gate.header c here.batches (log_at (active_of engine.slots) images)) catalogues here.log;
        after = here.end;
      }

  pub opened-known : (devices : Devices (Option DiskHistory)) → IfKnown (λ h. HoldsLogUpTo end h.now.seen) (log_at (active_of slots) devices) → IfKnown (λ h. IsSlot before.tables slots.a h.now.seen) devices.slot_a → IfKnown (λ h. IsSlot before.tables slots.b h.now.seen) devices.slot_b
      → IfImagesKnown (IsRecoveredFrom before held end.txns) devices → IfImagesKnown (IsOpenedFrom engine) devices
  opened-known devices up is_a is_b recovered = where-known (λ d. IfKnown (λ h. HoldsLogUpTo end h.now.seen) (log_at (active_of slots) d) × IfKnown (λ h. IsSlot before.tables slots.a h.now.seen) d.slot_a × IfKnown (λ h. IsSlot before.tables slots.b h.now.seen) d.slot_b × IfImagesKnown (IsRecoveredFrom before held end.txns) d) (IsOpenedFrom engine)
      (λ known of. opened-here (reads_of known) (in-reads known of.0) of.1 of.2 of.3) devices (up, is_a, is_b, recovered)
    where
      in-reads : (known : Devices DiskHistory) → IfKnown (λ h. HoldsLogUpTo end h.now.seen) (log_at (active_of slots) (each Some known)) → HoldsLogUpTo end (log_at (active_of slots) (reads_of known))
      in-reads known = at (active_of slots)
        where
          at : (name : LogName) → IfKnown (λ h. HoldsLogUpTo end h.now.seen) (log_at name (each Some known)) → HoldsLogUpTo end (log_at name (reads_of known))
          at Log up = up
          at LogB up = up
