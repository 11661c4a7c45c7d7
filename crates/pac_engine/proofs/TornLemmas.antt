-- Where the log may end, when a group was not committed.
use Rattle.std.proofs.Common.{◌≡◌, inl, inr, ℕ, ◌+◌, ◌<◌, List, length, Option, Some, None, refl, sym, ap, ap₂, subst, ◌∙◌}
use Rattle.pac_ops.specs.declared.transaction.Txn.{Txn}
use Rattle.pac_outside.specs.declared.devices.Devices.{Devices}
use Rattle.pac_outside.specs.Devices.{each, log_at}
use Rattle.pac_outside.specs.declared.devices.LogName.{LogName}
use Rattle.pac_outside.specs.Disk.{DiskHistory, DiskState, IfKnown, IsImage, settled}
use Rattle.pac_log.specs.declared.position.NextGate.{NextGate}
use Rattle.pac_log.specs.Bodies.{body_bytes}
use Rattle.pac_log.specs.Gates.{gate_after}
use Rattle.pac_log.specs.Logs.{HoldsLog}
use Rattle.pac_log.specs.Places.{LogEndsAt}
use Rattle.pac_log.specs.Torn.{LogEndsAtEither}
use Rattle.pac_request.specs.declared.request.Request.{Request}
use Rattle.pac_check.specs.SlotStates.{active_of, by_slot, spare_of}
use Rattle.pac_session.specs.Groups.{LogSpot}
use Rattle.pac_session.specs.Session.{Rules, SessionState}
use Rattle.pac_engine.specs.declared.parts.EngineParts.{EngineParts}
use Rattle.pac_engine.specs.Closing.{IsGateUnsaved, MayEndAfter}
use Rattle.pac_engine.specs.Committing.{gate_past}
use Rattle.pac_engine.specs.Moves.{committed_parts}
use Rattle.pac_engine.specs.Standing.{HasDevices}
use Rattle.pac_engine.proofs.CommitLemmas.{some_gate}
use Rattle.pac_engine.proofs.DeviceLemmas.{image-of, log-each}

-- the image of a log that ends at a gate
settled-at : (gate : NextGate) (state : DiskState) → LogEndsAt gate state → (image : List ℕ) → IsImage state image → LogEndsAt gate (settled image)
settled-at gate state at image is = record {
  header = at.header;
  batches = at.batches;
  holds = record { one = refl; has = subst (HoldsLog at.header gate.catalogue at.batches) (sym (image-of (HoldsLog at.header gate.catalogue at.batches) state at.holds image is)) at.holds.has };
  after = at.after;
}

-- a log that ends at one of two gates
pub ends-here : (gate next : NextGate) (known : Option DiskHistory) → IfKnown (λ h. LogEndsAt gate h.now) known → IfKnown (λ h. LogEndsAtEither gate next h.now) known
ends-here gate next None at = tt
ends-here gate next (Some h) at = λ image is. inl (settled-at gate h.now at image is)

pub ends-there : (gate next : NextGate) (known : Option DiskHistory) → IfKnown (λ h. LogEndsAt next h.now) known → IfKnown (λ h. LogEndsAtEither gate next h.now) known
ends-there gate next None at = tt
ends-there gate next (Some h) at = λ image is. inr (settled-at next h.now at image is)

-- the gate after the transactions of a group, of which there are some
pub torn-past : (txns : List Txn) → 0 < length txns → (old now : NextGate) → now ≡ old → (known : Option DiskHistory) → IfKnown (λ h. LogEndsAtEither now (gate_after (length txns) (1 + length (body_bytes txns)) now) h.now) known
    → IfKnown (λ h. LogEndsAtEither old (gate_past txns old) h.now) known
torn-past txns some old now same known torn =
    subst (λ (next : NextGate). IfKnown (λ h. LogEndsAtEither old next h.now) known) (some_gate txns old now (gate_after (length txns) (1 + length (body_bytes txns)) now) some same refl)
    (subst (λ (gate : NextGate). IfKnown (λ h. LogEndsAtEither gate (gate_after (length txns) (1 + length (body_bytes txns)) now) h.now) known) same torn)

module _ {D : Type 0} (known : D → Option DiskHistory) where
  -- the group was committed, and then a save failed
  pub torn-saved : (e mid : EngineParts) (middle new : Devices D) → mid ≡ committed_parts e → HasDevices known mid middle → log_at (active_of mid.slots) new ≡ log_at (active_of mid.slots) middle
      → IfKnown (λ h. LogEndsAtEither e.log.gate (gate_past e.session.txns e.log.gate) h.now) (known (log_at (active_of e.slots) new))
  torn-saved e mid middle new closed has same =
      subst (λ (p : EngineParts). IfKnown (λ h. LogEndsAtEither e.log.gate (gate_past e.session.txns e.log.gate) h.now) (known (log_at (active_of p.slots) new))) closed
      (ends-there e.log.gate (gate_past e.session.txns e.log.gate) (known (log_at (active_of mid.slots) new))
      (subst (λ (log : Option DiskHistory). IfKnown (λ h. LogEndsAt (gate_past e.session.txns e.log.gate) h.now) log) (sym (ap known same))
      (subst (λ (gate : NextGate). IfKnown (λ h. LogEndsAt gate h.now) (known (log_at (active_of mid.slots) middle))) (ap (λ (p : EngineParts). p.log.gate) closed) has.log)))

  pub may-end : (name : LogName) (rules : Rules) (spot : LogSpot) (start : SessionState) (closed : List (List Request)) (gate next : NextGate) (new : Devices D) → IsGateUnsaved rules spot start closed next → IfKnown (λ h. LogEndsAtEither gate next h.now) (known (log_at name new))
      → MayEndAfter name rules spot start closed gate (each known new)
  may-end name rules spot start closed gate next new after either = record { next = next; after = after; either = subst (λ (l : Option DiskHistory). IfKnown (λ h. LogEndsAtEither gate next h.now) l) (sym (log-each known name new)) either }

  -- ---- the newest slot, which isn't called

  pub newest-same : (e : EngineParts) (old new : Devices D) → new.slot_a ≡ old.slot_a → new.slot_b ≡ old.slot_b → by_slot (spare_of e.slots) (known new.slot_b) (known new.slot_a) ≡ by_slot (spare_of e.slots) (known old.slot_b) (known old.slot_a)
  newest-same e old new a b = ap₂ (λ (x y : D). by_slot (spare_of e.slots) (known y) (known x)) a b

  pub newest-then : (e mid : EngineParts) → mid ≡ committed_parts e → (old middle new : Devices D) → middle.slot_a ≡ old.slot_a → middle.slot_b ≡ old.slot_b
      → by_slot (spare_of mid.slots) (known new.slot_b) (known new.slot_a) ≡ by_slot (spare_of mid.slots) (known middle.slot_b) (known middle.slot_a)
      → by_slot (spare_of e.slots) (known new.slot_b) (known new.slot_a) ≡ by_slot (spare_of e.slots) (known old.slot_b) (known old.slot_a)
  newest-then e mid closed old middle new a b is =
      subst (λ (p : EngineParts). by_slot (spare_of p.slots) (known new.slot_b) (known new.slot_a) ≡ by_slot (spare_of p.slots) (known middle.slot_b) (known middle.slot_a)) closed is ∙ newest-same e old middle a b
