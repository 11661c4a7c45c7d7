-- An engine that begins over a store.
use Rattle.std.proofs.Common.{◌≡◌, ◌∙◌, ℕ, List, [], length, take, Option, Some, None, option_map, Result, Ok, Err, refl, sym, ap, subst, arith}
use Rattle.std.specs.Prelude.{IfErr, IfOk}
use Rattle.pac_ops.specs.declared.transaction.Txn.{Txn}
use Rattle.pac_outside.specs.declared.devices.Devices.{Devices}
use Rattle.pac_outside.specs.declared.devices.LogName.{LogName}
use Rattle.pac_outside.specs.declared.devices.LogName.TheVariants as name
use Rattle.pac_outside.specs.Devices.{AreImages, AreSettled, RunsAsBefore, IfAllKnown, each, log_at}
use Rattle.pac_outside.specs.Disk.{DiskHistory, IsImage, IfKnown, after_sync, settled}
use Rattle.pac_outside.specs.GateByte.{OneImage}
use Rattle.pac_outside.specs.Parts.{reads_of}
use Rattle.pac_outside.proofs.Runs.{run_end}
use Rattle.pac_types.specs.declared.table.Table.{Table}
use Rattle.pac_types.specs.Typing.{CatalogueState}
use Rattle.pac_log.specs.declared.position.NextGate.{NextGate}
use Rattle.pac_log.specs.Logs.{HoldsLog}
use Rattle.pac_log.specs.Places.{LogEndsAt}
use Rattle.pac_check.specs.declared.state.SlotState.{SlotState}
use Rattle.pac_check.specs.SlotStates.{active_of, IsSlot}
use Rattle.pac_store.specs.FirstRefusals.{IsFirstRefusal, Refused as refused_as}
use Rattle.pac_store.specs.Images.{Images, IfImagesKnown}
use Rattle.pac_store.proofs.ImageLemmas.{each-becomes, where-known}
use Rattle.pac_store.specs.Stands.{EndsWith, StandsFor}
use Rattle.pac_restore.specs.declared.errors.Damage.TheVariants.{Log, Slot}
use Rattle.pac_restore.specs.declared.errors.LoadError.TheVariants as load
use Rattle.pac_restore.specs.declared.errors.RecoverError.{RecoverError}
use Rattle.pac_restore.specs.declared.errors.RecoverError.TheVariants as recover
use Rattle.pac_restore.specs.Loading.{HoldsLogUpTo}
use Rattle.pac_restore.specs.Prefixes.{IsRecoveredPrefix}
use Rattle.pac_restore.specs.Restoring.{AbortsIn, AreRefused, IsOverIn}
use Rattle.pac_restore.proofs.StandsLemmas.{recovers-prefix}
use Rattle.pac_engine.specs.declared.parts.EngineParts.{EngineParts}
use Rattle.pac_engine.specs.Standing.{HasDevices, IsOpenedOn, durable_of}
use Rattle.pac_engine.proofs.DeviceLemmas.{log-each}
use Rattle.pac_engine.proofs.OpeningLemmas.{opened-stands}
use Rattle.pac_run.specs.Opening.{BeginsOver, IsFresh, IsOpenedFrom, StandsForPrefix}

-- ---- each device by itself

-- what a segment holds after a sync is its one image
pub one-log : (gate : NextGate) (old mid now : Option DiskHistory) → mid ≡ option_map after_sync old → now ≡ mid → IfKnown (λ h. HoldsLogUpTo gate h.now.seen) mid → IfKnown (λ h. LogEndsAt gate h.now) now
one-log gate None mid now synced same known = subst (λ (t : Option DiskHistory). IfKnown (λ h. LogEndsAt gate h.now) t) (sym (same ∙ synced)) tt
one-log gate (Some h) mid now synced same known =
    let up : HoldsLogUpTo gate h.now.seen = subst (λ (t : Option DiskHistory). IfKnown (λ x. HoldsLogUpTo gate x.now.seen) t) synced known in
    let ends : LogEndsAt gate (settled h.now.seen) = record { header = gate.header; batches = up.batches; holds = record { one = refl; has = up.log }; after = up.end } in
    subst (λ (t : Option DiskHistory). IfKnown (λ x. LogEndsAt gate x.now) t) (sym (same ∙ synced)) ends

-- and so it is of a slot
pub one-slot : (tables : List Table) (state : SlotState) (old mid now : Option DiskHistory) → mid ≡ option_map after_sync old → now ≡ mid → IfKnown (λ h. IsSlot tables state h.now.seen) mid → IfKnown (λ h. OneImage (IsSlot tables state) h.now) now
one-slot tables state None mid now synced same known = subst (λ (t : Option DiskHistory). IfKnown (λ h. OneImage (IsSlot tables state) h.now) t) (sym (same ∙ synced)) tt
one-slot tables state (Some h) mid now synced same known =
    let is : IsSlot tables state h.now.seen = subst (λ (t : Option DiskHistory). IfKnown (λ x. IsSlot tables state x.now.seen) t) synced known in
    let one : OneImage (IsSlot tables state) (settled h.now.seen) = record { one = refl; has = is } in
    subst (λ (t : Option DiskHistory). IfKnown (λ x. OneImage (IsSlot tables state) x.now) t) (sym (same ∙ synced)) one

-- ---- all of them

own-image : (bytes : List ℕ) → IsImage (settled bytes) bytes
own-image bytes = record { no_shorter = omega arith; no_longer = omega arith; stays = λ place below none. refl }

-- devices that are synced
abbrev pub synced : Devices (Option DiskHistory) → Devices (Option DiskHistory)
synced devices = each (option_map after_sync) devices

module _ (engine : EngineParts) (entry : Devices DiskHistory) (none : engine.session.txns ≡ []) where
  abbrev images : Images
  images = reads_of entry

  abbrev now : Devices DiskHistory
  now = each after_sync entry

  -- what a sync leaves of a device
  synced-log : (which : LogName) → ((log_at which (each after_sync entry)).now ≡ settled (log_at which (each after_sync entry)).now.seen) × ((log_at which (each after_sync entry)).now.seen ≡ log_at which (reads_of entry))
  synced-log name.Log = (refl, refl)
  synced-log name.LogB = (refl, refl)

  module _ (opened : IsOpenedFrom engine (reads_of entry)) (text : List ℕ) (catalogue : CatalogueState) (history : List Txn) (least : ℕ) (is : StandsFor text catalogue history least (reads_of entry)) where
    prefix : IsRecoveredPrefix catalogue history least engine.session.catalogue engine.session.tables (durable_of engine)
    prefix = recovers-prefix text catalogue history least images is engine.session.catalogue engine.session.tables (durable_of engine) opened.recovered

    stands-here : StandsFor text engine.session.catalogue history least (reads_of (each after_sync entry))
    stands-here = subst (λ (c : CatalogueState). StandsFor text c history least images) (sym prefix.same) is

    opened-on : IsOpenedOn history engine (each after_sync entry)
    opened-on = record {
      log_settled = (synced-log (active_of engine.slots)).0;
      a_settled = refl;
      b_settled = refl;
      batches = opened.batches;
      log = subst (λ (i : List ℕ). HoldsLog engine.log.gate.header engine.session.catalogue opened.batches i) (sym (synced-log (active_of engine.slots)).1) opened.log;
      after = opened.after;
      known_a = opened.is_a;
      known_b = opened.is_b;
      none = none;
      ends = subst (λ (c : CatalogueState). EndsWith c (take (durable_of engine) history) engine.session.tables) (sym prefix.same) prefix.ends;
    }

    for-prefix : StandsForPrefix text catalogue history least engine now
    for-prefix = record { same = prefix.same; enough = prefix.enough; within = prefix.within; stands = opened-stands text history least engine (each after_sync entry) stands-here opened-on }

  begins-all : RunsAsBefore entry now → IsOpenedFrom engine (reads_of entry) → BeginsOver engine entry now
  begins-all moments opened = λ text catalogue history least every.
      let are : AreImages entry images = run_end (AreImages entry) entry now moments images (record { log = own-image entry.log.now.seen; log_b = own-image entry.log_b.now.seen; slot_a = own-image entry.slot_a.now.seen; slot_b = own-image entry.slot_b.now.seen }) in
      for-prefix opened text catalogue history least (every images are)

-- ---- where they are known

-- what an engine is read from
pub record IsReadFrom (engine : EngineParts) (entry middle : Devices (Option DiskHistory)) : Type 0 where
  pub runs : IfAllKnown RunsAsBefore entry middle
  pub opened : IfImagesKnown (IsOpenedFrom engine) middle

begins-synced : (engine : EngineParts) → engine.session.txns ≡ [] → (entry : Devices (Option DiskHistory)) → IsReadFrom engine entry (synced entry) → IfAllKnown (BeginsOver engine) entry (synced entry)
begins-synced engine none = each-becomes after_sync (BeginsOver engine) (λ d. IsReadFrom engine d (synced d)) (λ known is. begins-all engine known none is.runs is.opened)

-- a crash now leaves what a read gave at entry
settled-known : (entry : Devices (Option DiskHistory)) → IfAllKnown AreSettled entry (synced entry)
settled-known entry = each-becomes after_sync AreSettled (λ d. Unit {0}) (λ known is. record { log = refl; log_b = refl; slot_a = refl; slot_b = refl }) entry tt

-- what is read after a sync is what was read before
pub read-before : (P : Images → Type 0) (entry : Devices (Option DiskHistory)) → IfImagesKnown P (synced entry) → IfImagesKnown P entry
read-before P entry = where-known (λ d. IfImagesKnown P (synced d)) P (λ known of. of) entry

-- what is refused of the devices after a sync is refused of what they held before it
refused-before : (limit : ℕ) (entry : Devices (Option DiskHistory)) (error : RecoverError) → AreRefused limit (synced entry) error → AreRefused limit entry error
refused-before limit entry (recover.Load load.NoStore) refused = read-before (IsFirstRefusal refused_as.NoStore) entry refused
refused-before limit entry (recover.Load (load.Damaged (Log name at kind))) refused = read-before (IsFirstRefusal (refused_as.InLog name at kind)) entry refused
refused-before limit entry (recover.Load (load.Damaged (Slot slot at kind))) refused = read-before (IsFirstRefusal (refused_as.InSlot slot at kind)) entry refused
refused-before limit entry (recover.Load load.DiskFault) refused = tt
refused-before limit entry (recover.Load load.NoMemory) refused = tt
refused-before limit entry (recover.AbortInLog note) refused = read-before (AbortsIn note) entry refused
refused-before limit entry (recover.RowsOver table rows most) refused = (refused.0, read-before (IsOverIn table rows limit) entry refused.1)

-- ---- what is opened

module _ (entry middle now : Devices (Option DiskHistory)) (as_synced : middle ≡ synced entry) (same : now ≡ middle) where
  now_is : now ≡ synced entry
  now_is = same ∙ as_synced

  pub opened-ready : {D : Type 0} (known : D → Option DiskHistory) (devices : Devices D) → each known devices ≡ now → (r : Result EngineParts RecoverError) → IfOk r (λ e. IfKnown (λ h. HoldsLogUpTo e.log.gate h.now.seen) (log_at (active_of e.slots) middle))
      → IfOk r (λ e. IfKnown (λ h. IsSlot e.session.catalogue.tables e.slots.a h.now.seen) middle.slot_a) → IfOk r (λ e. IfKnown (λ h. IsSlot e.session.catalogue.tables e.slots.b h.now.seen) middle.slot_b) → IfOk r (λ e. HasDevices known e devices)
  opened-ready known devices are (Err error) log slot_a slot_b = tt
  opened-ready known devices are (Ok e) log slot_a slot_b =
      let all : each known devices ≡ middle = are ∙ same in
      record {
        log = one-log e.log.gate (log_at (active_of e.slots) entry) (log_at (active_of e.slots) middle) (known (log_at (active_of e.slots) devices))
            (ap (λ (d : Devices (Option DiskHistory)). log_at (active_of e.slots) d) as_synced ∙ log-each (option_map after_sync) (active_of e.slots) entry)
            (sym (log-each known (active_of e.slots) devices) ∙ ap (λ (d : Devices (Option DiskHistory)). log_at (active_of e.slots) d) all) log;
        slot_a = one-slot e.session.catalogue.tables e.slots.a entry.slot_a middle.slot_a (known devices.slot_a) (ap (λ (d : Devices (Option DiskHistory)). d.slot_a) as_synced) (ap (λ (d : Devices (Option DiskHistory)). d.slot_a) all) slot_a;
        slot_b = one-slot e.session.catalogue.tables e.slots.b entry.slot_b middle.slot_b (known devices.slot_b) (ap (λ (d : Devices (Option DiskHistory)). d.slot_b) as_synced) (ap (λ (d : Devices (Option DiskHistory)). d.slot_b) all) slot_b;
      }

  pub opened-begins : (batch limit : ℕ) (r : Result EngineParts RecoverError) → IfOk r (IsFresh batch limit) → IfAllKnown RunsAsBefore entry middle → IfOk r (λ e. IfImagesKnown (IsOpenedFrom e) middle) → IfOk r (λ e. IfAllKnown (BeginsOver e) entry now)
  opened-begins batch limit (Err error) fresh moments opened = tt
  opened-begins batch limit (Ok e) fresh moments opened =
      let read : IsReadFrom e entry middle = record { runs = moments; opened = opened } in
      subst (λ (d : Devices (Option DiskHistory)). IfAllKnown (BeginsOver e) entry d) (sym now_is) (begins-synced e fresh.txns entry (subst (λ (d : Devices (Option DiskHistory)). IsReadFrom e entry d) as_synced read))

  pub opened-before : (r : Result EngineParts RecoverError) → IfOk r (λ e. IfImagesKnown (IsOpenedFrom e) middle) → IfOk r (λ e. IfImagesKnown (IsOpenedFrom e) entry)
  opened-before (Err error) opened = tt
  opened-before (Ok e) opened = read-before (IsOpenedFrom e) entry (subst (λ (d : Devices (Option DiskHistory)). IfImagesKnown (IsOpenedFrom e) d) as_synced opened)

  pub settled-before : IfAllKnown AreSettled entry now
  settled-before = subst (λ (d : Devices (Option DiskHistory)). IfAllKnown AreSettled entry d) (sym now_is) (settled-known entry)

  pub refused-opened : (limit : ℕ) (r : Result EngineParts RecoverError) → IfErr r (AreRefused limit middle) → IfErr r (AreRefused limit entry)
  refused-opened limit (Ok e) refused = tt
  refused-opened limit (Err error) refused = refused-before limit entry error (subst (λ (d : Devices (Option DiskHistory)). AreRefused limit d error) as_synced refused)
