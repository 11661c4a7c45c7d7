-- What an engine keeps while the log is called, where the devices' histories are known.
use Rattle.std.proofs.Common.{◌≡◌, ℕ, List, [], ◌++◌, length, Option, Some, None, sym, ap, subst}
use Rattle.std.proofs.lemmas.List.{append-nil}
use Rattle.pac_ops.specs.declared.transaction.Txn.{Txn}
use Rattle.pac_outside.specs.Disk.{DiskHistory, BothKnown}
use Rattle.pac_outside.specs.Devices.{RunLeaves, WhileAllKnown, WhileKnown, all_known, each, log_at, log_named, with_device}
use Rattle.pac_outside.specs.Devices.RunLeaves.{rests}
use Rattle.pac_outside.proofs.Histories.{both_and}
use Rattle.pac_outside.proofs.KnownDevices.{one-known, rest-known}
use Rattle.pac_outside.specs.declared.devices.Devices.{Devices}
use Rattle.pac_outside.specs.declared.devices.LogName.{LogName}
use Rattle.pac_types.specs.Typing.{CatalogueState}
use Rattle.pac_log.specs.declared.header.Header.{Header}
use Rattle.pac_log.specs.Logs.{header_with}
use Rattle.pac_log.specs.declared.position.NextGate.{NextGate}
use Rattle.pac_log.specs.Places.{IsAfter}
use Rattle.pac_check.specs.SlotStates.{active_of}
use Rattle.pac_engine.specs.declared.parts.EngineParts.{EngineParts}
use Rattle.pac_engine.specs.Committing.{HasAdded, MayAdd, gate_past, with_batch}
use Rattle.pac_engine.specs.Moves.{committed_parts}
use Rattle.pac_engine.specs.Standing.{KeepsHistory, StandsOn, durable_of, saved_of}
use Rattle.pac_engine.proofs.DeviceLemmas.{log-each, put-each}
use Rattle.pac_engine.proofs.StandingLemmas.{commit-fails, commit-keeps, commit-stands, leave-same, stands-now}

-- what is said of each list of batches holds of all of them at once
all-report : (R : Header → List (List Txn) → DiskHistory → DiskHistory → Type 0) (gate : NextGate) (l n : Option DiskHistory) → ((header : Header) (batches : List (List Txn)) → IsAfter header batches gate → BothKnown (R header batches) l n)
    → (header : Header) (batches : List (List Txn)) → IsAfter header batches gate → BothKnown (λ x y. (h : Header) (bs : List (List Txn)) → IsAfter h bs gate → R h bs x y) l n
all-report R gate None None f header batches is = tt
all-report R gate None (Some n) f header batches is = f header batches is
all-report R gate (Some l) None f header batches is = f header batches is
all-report R gate (Some l) (Some n) f header batches is = λ t bs after. f t bs after

-- ---- a commit on the device of the active segment

module _ {D : Type 0} (see : D → Option DiskHistory) (text : List ℕ) (history : List Txn) (e : EngineParts) (same : e.log.gate.catalogue ≡ e.session.catalogue) (txns : List Txn) (txns_is : txns ≡ e.session.txns)
    (name : LogName) (named : name ≡ active_of e.slots) (old new : Devices D) (others : new ≡ with_device (log_named name) (log_at name new) old) where
  may-here : (header : Header) (batches : List (List Txn)) (x y : DiskHistory) → MayAdd header e.log.gate.catalogue batches txns x y → MayAdd header e.session.catalogue batches e.session.txns x y
  may-here header batches x y may = subst (λ (t : List Txn). MayAdd header e.session.catalogue batches t x y) txns_is (subst (λ (c : CatalogueState). MayAdd header c batches txns x y) same may)

  added-here : (header : Header) (batches : List (List Txn)) (x y : DiskHistory) → HasAdded header e.log.gate.catalogue batches txns x y → HasAdded header e.session.catalogue batches e.session.txns x y
  added-here header batches x y added = subst (λ (t : List Txn). HasAdded header e.session.catalogue batches t x y) txns_is (subst (λ (c : CatalogueState). HasAdded header c batches txns x y) same added)

  -- what the active device's histories have leads to what all have
  by-log : (R : Devices DiskHistory → Devices DiskHistory → Type 0) (S : DiskHistory → DiskHistory → Type 0) → ((d : Devices DiskHistory) (n : DiskHistory) → StandsOn text history e d → S (log_at (active_of e.slots) d) n → R d (with_device (log_named (active_of e.slots)) n d))
      → ((d : Devices DiskHistory) → StandsOn text history e d → BothKnown S (see (log_at name old)) (see (log_at name new))) → WhileAllKnown (StandsOn text history e) R (each see old) (each see new)
  by-log R S step both =
      subst (λ (d : Devices D). WhileAllKnown (StandsOn text history e) R (each see old) (each see d)) (sym others)
      (subst (λ (d : Devices (Option DiskHistory)). WhileAllKnown (StandsOn text history e) R (each see old) d) (sym (put-each see name (log_at name new) old))
      (one-known (StandsOn text history e) R S (log_named name) here (each see old) (see (log_at name new))
      (λ d is. subst (λ (l : Option DiskHistory). BothKnown S l (see (log_at name new))) (sym (log-each see name old)) (both d is))))
    where
      here : (d : Devices DiskHistory) (n : DiskHistory) → StandsOn text history e d → S (log_at name d) n → R d (with_device (log_named name) n d)
      here d n is has = subst (λ (m : LogName). R d (with_device (log_named m) n d)) (sym named) (step d n is (subst (λ (m : LogName). S (log_at m d) n) named has))

  module _ (may : (t : Header) (bs : List (List Txn)) → IsAfter t bs e.log.gate → BothKnown (MayAdd t e.log.gate.catalogue bs txns) (see (log_at name old)) (see (log_at name new))) where
    abbrev MayAll : DiskHistory → DiskHistory → Type 0
    MayAll x y = (t : Header) (bs : List (List Txn)) → IsAfter t bs e.log.gate → MayAdd t e.log.gate.catalogue bs txns x y

    pub closed-fails : (now : EngineParts) → durable_of now ≡ durable_of e → saved_of now ≡ saved_of e → WhileAllKnown (StandsOn text history e) (KeepsHistory text (history ++ []) e now) (each see old) (each see new)
    closed-fails now durable saved = by-log (KeepsHistory text (history ++ []) e now) MayAll
        (λ d y is all. subst (λ (h : List Txn). KeepsHistory text h e now d (with_device (log_named (active_of e.slots)) y d)) (sym (append-nil history))
        (commit-fails text history e d is y (may-here (header_with is.form text) is.batches (log_at (active_of e.slots) d) y (all (header_with is.form text) is.batches is.after)) now durable saved))
        (λ d is. all-report (λ t bs x y. MayAdd t e.log.gate.catalogue bs txns x y) e.log.gate (see (log_at name old)) (see (log_at name new)) may (header_with is.form text) is.batches is.after)

    module _ (added : (t : Header) (bs : List (List Txn)) → IsAfter t bs e.log.gate → BothKnown (HasAdded t e.log.gate.catalogue bs txns) (see (log_at name old)) (see (log_at name new)))
        (gate : NextGate) (after : (t : Header) (bs : List (List Txn)) → IsAfter t bs e.log.gate → IsAfter t (with_batch bs txns) gate) (gate_is : gate ≡ gate_past txns e.log.gate) (now : EngineParts) (becomes : now ≡ committed_parts e) where
      abbrev AddsAll : DiskHistory → DiskHistory → Type 0
      AddsAll x y = (t : Header) (bs : List (List Txn)) → IsAfter t bs e.log.gate → MayAdd t e.log.gate.catalogue bs txns x y × HasAdded t e.log.gate.catalogue bs txns x y

      after-here : (header : Header) (batches : List (List Txn)) → IsAfter header batches e.log.gate → IsAfter header (with_batch batches e.session.txns) (gate_past e.session.txns e.log.gate)
      after-here header batches is = subst (λ (t : List Txn). IsAfter header (with_batch batches t) (gate_past t e.log.gate)) txns_is (subst (λ (g : NextGate). IsAfter header (with_batch batches txns) g) gate_is (after header batches is))

      both-report : (d : Devices DiskHistory) → StandsOn text history e d → BothKnown AddsAll (see (log_at name old)) (see (log_at name new))
      both-report d is = all-report (λ t bs x y. MayAdd t e.log.gate.catalogue bs txns x y × HasAdded t e.log.gate.catalogue bs txns x y) e.log.gate (see (log_at name old)) (see (log_at name new))
          (λ t bs b. both_and (MayAdd t e.log.gate.catalogue bs txns) (HasAdded t e.log.gate.catalogue bs txns) (see (log_at name old)) (see (log_at name new)) (may t bs b) (added t bs b)) (header_with is.form text) is.batches is.after

      pub closed-keeps : WhileAllKnown (StandsOn text history e) (KeepsHistory text (history ++ []) e now) (each see old) (each see new)
      closed-keeps = by-log (KeepsHistory text (history ++ []) e now) AddsAll
          (λ d y is all.
          let facts = all (header_with is.form text) is.batches is.after in
          subst (λ (p : EngineParts). KeepsHistory text (history ++ []) e p d (with_device (log_named (active_of e.slots)) y d)) (sym becomes)
          (subst (λ (h : List Txn). KeepsHistory text h e (committed_parts e) d (with_device (log_named (active_of e.slots)) y d)) (sym (append-nil history))
          (commit-keeps text history e d is y (may-here (header_with is.form text) is.batches (log_at (active_of e.slots) d) y facts.0) (added-here (header_with is.form text) is.batches (log_at (active_of e.slots) d) y facts.1) (after-here (header_with is.form text) is.batches is.after))))
          both-report

      pub closed-stands : WhileAllKnown (StandsOn text history e) (λ was is. StandsOn text (history ++ []) now is) (each see old) (each see new)
      closed-stands = by-log (λ was is. StandsOn text (history ++ []) now is) AddsAll
          (λ d y is all.
          let facts = all (header_with is.form text) is.batches is.after in
          subst (λ (p : EngineParts). StandsOn text (history ++ []) p (with_device (log_named (active_of e.slots)) y d)) (sym becomes)
          (subst (λ (h : List Txn). StandsOn text h (committed_parts e) (with_device (log_named (active_of e.slots)) y d)) (sym (append-nil history))
          (commit-stands text history e d is y (may-here (header_with is.form text) is.batches (log_at (active_of e.slots) d) y facts.0) (added-here (header_with is.form text) is.batches (log_at (active_of e.slots) d) y facts.1) (after-here (header_with is.form text) is.batches is.after))))
          both-report

-- ---- no device is called

module _ (text : List ℕ) (history : List Txn) (e now : EngineParts) (known : Option (Devices DiskHistory)) where
  pub refused-keeps : durable_of now ≡ durable_of e → saved_of now ≡ saved_of e → WhileKnown (StandsOn text history e) (KeepsHistory text (history ++ []) e now) known known
  refused-keeps durable saved = rest-known (StandsOn text history e) (KeepsHistory text (history ++ []) e now) of known
    where
      of : (devices : Devices DiskHistory) → StandsOn text history e devices → KeepsHistory text (history ++ []) e now devices devices
      of devices is =
          let leaves = stands-now text history e devices is in
          subst (λ (h : List Txn). KeepsHistory text h e now devices devices) (sym (append-nil history))
          (record { executes = is.still.executes; moments = rests devices leaves; end = leave-same text e.session.catalogue history e now devices durable saved leaves })

  pub unsaved-stands : now ≡ e → WhileKnown (StandsOn text history e) (λ was is. StandsOn text (history ++ []) now is) known known
  unsaved-stands same = rest-known (StandsOn text history e) (λ was is. StandsOn text (history ++ []) now is)
      (λ devices is. subst (λ (p : EngineParts). StandsOn text (history ++ []) p devices) (sym same) (subst (λ (h : List Txn). StandsOn text h e devices) (sym (append-nil history)) is)) known
