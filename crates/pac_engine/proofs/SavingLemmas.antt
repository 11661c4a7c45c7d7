-- What an engine stands for while a save writes a checkpoint, and begins a segment.
use Rattle.std.proofs.Common.{◌≡◌, ◌∙◌, ⊎_elim, ℕ, ◌+◌, ◌≤◌, ◌<◌, true, List, [], ◌∷◌, ◌++◌, length, take, Option, Some, None, refl, sym, ap, ap₂, subst, arith, length-append}
use Rattle.std.proofs.lemmas.List.{append-nil, take_all}
use Rattle.pac_ops.specs.declared.transaction.Txn.{Txn}
use Rattle.pac_outside.specs.Disk.{DiskHistory}
use Rattle.pac_outside.specs.Devices.{AllLeave, RunLeaves, WhileAllKnown, WhileKnown, all_known, other_log}
use Rattle.pac_outside.proofs.Runs.{run_end, weaken_run}
use Rattle.pac_outside.specs.declared.devices.Devices.{Devices}
use Rattle.pac_types.specs.Fits.{FitTables}
use Rattle.pac_types.specs.Typing.{CatalogueState}
use Rattle.pac_log.specs.declared.header.Header.{Header}
use Rattle.pac_log.specs.declared.header.HeaderForm.{HeaderForm}
use Rattle.pac_log.specs.declared.header.HeaderForm.TheVariants.{Later}
use Rattle.pac_log.specs.declared.position.NextGate.{NextGate}
use Rattle.pac_log.specs.Gates.{next_segment}
use Rattle.pac_log.specs.Logs.{all_txns, header_bytes, header_with, log_prefix}
use Rattle.pac_log.specs.Places.{IsAfter}
use Rattle.pac_check.specs.declared.head.Head.{Head}
use Rattle.pac_check.specs.declared.info.SlotInfo.{SlotInfo}
use Rattle.pac_check.specs.declared.info.SlotName.{SlotName}
use Rattle.pac_check.specs.declared.info.SlotName.TheVariants.{A, B}
use Rattle.pac_check.specs.declared.slots.ReadyText.{ReadyText}
use Rattle.pac_check.specs.declared.slots.Slots.{Slots}
use Rattle.pac_check.specs.declared.state.SlotState.TheVariants.{Closed, Open}
use Rattle.pac_check.specs.Checkpoints.{IsCheckpoint, checkpoint_bytes, head_with}
use Rattle.pac_check.specs.Saved.{checkpoint_of}
use Rattle.pac_check.specs.SlotStates.{IsAbove, HasReadyText, active_of, by_slot, closed_slots, info_with, newest_of, published_slots, spare_beside, spare_of, with_ready}
use Rattle.pac_check.proofs.NewestLemmas.{opened_a, opened_b}
use Rattle.pac_store.specs.Saving.{KeepsBy, KnownStore, StandsStill, active_by, closed_by, last_number, published_by, published_bytes, published_head, spare_by}
use Rattle.pac_store.specs.Stands.{EndsWith, reach_of}
use Rattle.pac_store.specs.Writing.{CanPublish, KeepsEither, known_with}
use Rattle.pac_store.proofs.StepLemmas.{closed-newest-of}
use Rattle.pac_store.proofs.WriteLemmas.{closed-head, closed-number, known-closed}
use Rattle.pac_engine.specs.declared.parts.EngineParts.{EngineParts}
use Rattle.pac_engine.specs.Moves.{saved_bytes, saved_head, written_parts}
use Rattle.pac_engine.specs.Standing.{KeepsHistory, MayLeave, StandsOn, durable_of, saved_of}
use Rattle.pac_engine.proofs.StandingLemmas.{leave-same, long-is, may-of, stands-now}

-- ---- a slot that was closed, and then published

-- the published checkpoint is the newest
pub published-newest : (slots : Slots) (head : Head) → IsAbove (newest_of slots) head.txns → newest_of (published_slots head slots) ≡ Some (info_with (spare_of slots) head)
published-newest slots head above = go (spare_of slots) refl
  where
    go : (s : SlotName) → spare_of slots ≡ s → newest_of (by_slot s (record slots { a = Open head; ready = None }) (record slots { b = Open head; ready = None })) ≡ Some (info_with s head)
    go A spare = opened_a slots.a slots.b head spare above
    go B spare = opened_b slots.a slots.b head spare above

pub written-newest : (slots : Slots) (head : Head) → IsAbove (newest_of slots) head.txns → newest_of (published_slots head (closed_slots slots)) ≡ Some (info_with (spare_of slots) head)
written-newest slots head above =
    published-newest (closed_slots slots) head (subst (λ (n : Option SlotInfo). IsAbove n head.txns) (sym (closed-newest-of slots)) above)
    ∙ ap (λ (n : Option SlotInfo). Some (info_with (spare_beside n) head)) (closed-newest-of slots)

-- the slots, by the one that is written
pub written-slots : (slots : Slots) (head : Head) (s : SlotName) → spare_of slots ≡ s → published_slots head (closed_slots slots) ≡ by_slot s (record slots { a = Open head; ready = None }) (record slots { b = Open head; ready = None })
written-slots slots head s spare =
    ap (λ (n : SlotName). by_slot n (record (closed_slots slots) { a = Open head; ready = None }) (record (closed_slots slots) { b = Open head; ready = None })) (ap spare_beside (closed-newest-of slots) ∙ spare)
    ∙ ap (λ (n : SlotName). put s (by_slot n (record slots { a = Closed }) (record slots { b = Closed }))) spare ∙ same s
  where
    put : SlotName → Slots → Slots
    put n other = by_slot n (record other { a = Open head; ready = None }) (record other { b = Open head; ready = None })

    same : (n : SlotName) → put n (by_slot n (record slots { a = Closed }) (record slots { b = Closed })) ≡ by_slot n (record slots { a = Open head; ready = None }) (record slots { b = Open head; ready = None })
    same A = refl
    same B = refl

-- what was ready is no longer
pub ready-gone : (slots : Slots) (head : Head) (ready : Option ReadyText) → published_slots head (closed_slots (record slots { ready = ready })) ≡ published_slots head (closed_slots slots)
ready-gone slots head ready = go (spare_of slots) refl
  where
    go : (s : SlotName) → spare_of slots ≡ s → published_slots head (closed_slots (record slots { ready = ready })) ≡ published_slots head (closed_slots slots)
    go A spare = written-slots (record slots { ready = ready }) head A spare ∙ sym (written-slots slots head A spare)
    go B spare = written-slots (record slots { ready = ready }) head B spare ∙ sym (written-slots slots head B spare)

pub written-works : (slots : Slots) (head : Head) → (published_slots head (closed_slots slots)).has_failed ≡ slots.has_failed
written-works slots head = go (spare_of slots) refl
  where
    go : (s : SlotName) → spare_of slots ≡ s → (published_slots head (closed_slots slots)).has_failed ≡ slots.has_failed
    go A spare = ap (λ (x : Slots). x.has_failed) (written-slots slots head A spare)
    go B spare = ap (λ (x : Slots). x.has_failed) (written-slots slots head B spare)

-- with another header's form and other batches the store that is known is so
abbrev put-known : Head → HeaderForm → KnownStore → KnownStore
put-known head form known = by_slot (spare_by known) (record known { a = Open head; form = form; batches = [] }) (record known { b = Open head; form = form; batches = [] })

known-published : (slots : Slots) (head : Head) (form now : HeaderForm) (batches : List (List Txn)) → known_with (published_slots head slots) now [] ≡ put-known head now (known_with slots form batches)
known-published slots head form now batches = go (spare_of slots)
  where
    go : (s : SlotName) → known_with (by_slot s (record slots { a = Open head; ready = None }) (record slots { b = Open head; ready = None })) now []
        ≡ by_slot s (record (known_with slots form batches) { a = Open head; form = now; batches = [] }) (record (known_with slots form batches) { b = Open head; form = now; batches = [] })
    go A = refl
    go B = refl

known-written : (text : List ℕ) (slots : Slots) (head : Head) (form : HeaderForm) (batches : List (List Txn)) → head ≡ published_head text (known_with slots form batches)
    → known_with (published_slots head (closed_slots slots)) (Later (last_number text (known_with slots form batches))) [] ≡ published_by text (closed_by (known_with slots form batches))
known-written text slots head form batches is =
    let known = known_with slots form batches in
    known-published (closed_slots slots) head form (Later (last_number text known)) batches
    ∙ ap (λ (k : KnownStore). put-known head (Later (last_number text known)) k) (known-closed slots form batches)
    ∙ ap₂ (λ (h : Head) (n : ℕ). put-known h (Later n) (closed_by known)) (is ∙ sym (closed-head known text)) (sym (closed-number known text))

-- ---- what holds for each store that is known

module _ {I : Type 0} (P : Devices DiskHistory → Type 0) (R : Devices DiskHistory → Devices DiskHistory → Type 0) (Ready : I → Type 0) (Q : I → Devices DiskHistory → Type 0) (S : I → Devices DiskHistory → Devices DiskHistory → Type 0)
    (pick : (u : Devices DiskHistory) → P u → I) (ready : (u : Devices DiskHistory) (p : P u) → Ready (pick u p)) (has : (u : Devices DiskHistory) (p : P u) → Q (pick u p) u) (step : (u v : Devices DiskHistory) (p : P u) → S (pick u p) u v → R u v) where
  by-choice : (x y : Option (Devices DiskHistory)) → ((i : I) → Ready i → WhileKnown (Q i) (S i) x y) → WhileKnown P R x y
  by-choice None y holds = tt
  by-choice (Some u) None holds = λ p. holds (pick u p) (ready u p) (has u p)
  by-choice (Some u) (Some v) holds = λ p. step u v p (holds (pick u p) (ready u p) (has u p))

-- no transaction is left where there is room for none
none-left : (txns : List Txn) → length txns ≡ 0 → txns ≡ []
none-left [] none = refl
none-left (txn ∷ txns) none = absurd (omega (arith, none))

-- ---- a save

module _ (text : List ℕ) (history : List Txn) (e : EngineParts) (above : IsAbove (newest_of e.slots) e.log.gate.txns) (same : e.log.gate.catalogue ≡ e.session.catalogue) (none : e.session.txns ≡ [])
    (fit : FitTables e.session.catalogue.tables e.session.tables) (form : IsCheckpoint e.session.catalogue.tables (checkpoint_of (length e.session.catalogue.tables) (saved_head e) e.session.tables)) where
  abbrev cat : CatalogueState
  cat = e.session.catalogue

  abbrev ready_slots : Slots
  ready_slots = with_ready (saved_head e) (saved_bytes e) e.slots

  module _ (devices : Devices DiskHistory) (is : StandsOn text history e devices) where
    abbrev known : KnownStore
    known = known_with e.slots is.form is.batches

    text-is : e.log.gate.header.text ≡ text
    text-is = ap (λ (h : Header). h.text) is.after.headed

    number-is : e.log.gate.txns ≡ last_number text known
    number-is = is.after.txns

    head-is : saved_head e ≡ published_head text known
    head-is = ap (λ (t : List ℕ). head_with e.log.gate.txns (length (header_bytes (header_with (Later e.log.gate.txns) t))) (other_log (active_of e.slots))) text-is
        ∙ ap (λ (n : ℕ). head_with n (length (header_bytes (header_with (Later n) text))) (other_log (active_of e.slots))) number-is

    next-is : header_with (Later e.log.gate.txns) e.log.gate.header.text ≡ header_with (Later (last_number text known)) text
    next-is = ap₂ (λ (n : ℕ) (t : List ℕ). header_with (Later n) t) number-is text-is

    long : length history ≡ last_number text known
    long = omega (arith, long-is text history e devices is, number-is, ap (λ (t : List Txn). length t) none)

    can : CanPublish text cat history known e.session.tables
    can = record {
      above = subst (λ (n : ℕ). IsAbove (newest_of e.slots) n) number-is above;
      fit = fit;
      form = subst (λ (head : Head). IsCheckpoint cat.tables (checkpoint_of (length cat.tables) head e.session.tables)) head-is form;
      ends = subst (λ (h : List Txn). EndsWith cat h e.session.tables) (sym (take_all (last_number text known) history (omega (arith, long)))) is.ends;
    }

    is-ready : HasReadyText ready_slots (published_head text known) (published_bytes text cat e.session.tables known)
    is-ready = ap the_ready head-is
      where
        the_ready : Head → Option ReadyText
        the_ready head = Some (record { head = head; text = checkpoint_bytes (checkpoint_of (length cat.tables) head e.session.tables) })

    -- afterwards the engine stands at the first gate of the next segment
    written-stands : (new : Devices DiskHistory) → StandsStill text cat history (published_by text (closed_by known)) new → StandsOn text history (written_parts e) new
    written-stands new still =
        let here : StandsStill text cat history (known_with (written_parts e).slots (Later (last_number text known)) []) new = subst (λ (k : KnownStore). StandsStill text cat history k new) (sym (known-written text e.slots (saved_head e) is.form is.batches head-is)) still in
        record {
          form = Later (last_number text known);
          batches = [];
          still = here;
          after = record {
            headed = next-is;
            place = ap (λ (h : Header). length (header_bytes h)) next-is ∙ sym (ap (λ (l : List ℕ). length l) (append-nil (header_bytes (header_with (Later (last_number text known)) text))));
            txns = omega (arith, number-is);
          };
          later = none-left here.later (omega (arith, ap (λ (t : List Txn). length t) here.split, length-append here.earlier here.later, here.before, long)) ∙ sym none;
          ends = is.ends;
        }

    run-of : (new : Devices DiskHistory) → RunLeaves (KeepsEither text cat history known) devices new → RunLeaves (MayLeave text cat history e) devices new
    run-of new run = weaken_run (KeepsEither text cat history known) (MayLeave text cat history e)
        (λ images which. ⊎_elim (λ one. may-of text history e devices is (active_by known) images one) (λ other. may-of text history e devices is (other_log (active_by known)) images other) which) devices new run

  -- ---- what the calls say, where it is said of each store

  -- with this form and these batches all is ready
  abbrev IsReady : Slots → NextGate → HeaderForm × List (List Txn) → Type 0
  IsReady slots gate parts = CanPublish text cat history (known_with slots parts.0 parts.1) e.session.tables
      × HasReadyText slots (published_head text (known_with slots parts.0 parts.1)) (published_bytes text cat e.session.tables (known_with slots parts.0 parts.1))
      × (gate.header ≡ header_with (Later (last_number text (known_with slots parts.0 parts.1))) text) × (gate.catalogue ≡ cat)

  abbrev Said : Slots → NextGate → (KnownStore → Devices DiskHistory → Devices DiskHistory → Type 0) → Devices (Option DiskHistory) → Devices (Option DiskHistory) → Type 0
  Said slots gate R old new = (parts : HeaderForm × List (List Txn)) → IsReady slots gate parts → WhileAllKnown (StandsStill text cat history (known_with slots parts.0 parts.1)) (R (known_with slots parts.0 parts.1)) old new

  module _ (slots : Slots) (gate : NextGate) (slots_are : slots ≡ with_ready (saved_head e) (saved_bytes e) e.slots) (gate_is : gate ≡ next_segment e.log.gate) (old new : Devices (Option DiskHistory)) where
    -- what is said of each store leads to what the engine keeps
    by-said : (R : KnownStore → Devices DiskHistory → Devices DiskHistory → Type 0) (T : Devices DiskHistory → Devices DiskHistory → Type 0) → ((u v : Devices DiskHistory) (is : StandsOn text history e u) → R (known_with e.slots is.form is.batches) u v → T u v) → Said slots gate R old new
        → WhileAllKnown (StandsOn text history e) T old new
    by-said R T step said = by-choice (StandsOn text history e) T (IsReady ready_slots (next_segment e.log.gate)) (λ parts u. StandsStill text cat history (known_with e.slots parts.0 parts.1) u) (λ parts u v. R (known_with e.slots parts.0 parts.1) u v)
        (λ u is. (is.form, is.batches)) (λ u is. (can u is, is-ready u is, next-is u is, same)) (λ u is. is.still) step (all_known old) (all_known new)
        (subst (λ (s : Slots). Said s (next_segment e.log.gate) R old new) slots_are (subst (λ (g : NextGate). Said slots g R old new) gate_is said))

    abbrev Keeps : KnownStore → Devices DiskHistory → Devices DiskHistory → Type 0
    Keeps known u v = RunLeaves (KeepsEither text e.session.catalogue history known) u v

    abbrev Stands : KnownStore → Devices DiskHistory → Devices DiskHistory → Type 0
    Stands known u v = StandsStill text e.session.catalogue history (published_by text (closed_by known)) v

    -- a call failed
    pub write-fails : (now : EngineParts) → durable_of now ≡ durable_of e → saved_of now ≡ saved_of e
        → ((form : HeaderForm) (batches : List (List Txn)) → CanPublish text e.session.catalogue history (known_with slots form batches) e.session.tables → HasReadyText slots (published_head text (known_with slots form batches)) (published_bytes text e.session.catalogue e.session.tables (known_with slots form batches))
        → gate.header ≡ header_with (Later (last_number text (known_with slots form batches))) text → gate.catalogue ≡ e.session.catalogue
        → WhileAllKnown (StandsStill text e.session.catalogue history (known_with slots form batches)) (RunLeaves (KeepsEither text e.session.catalogue history (known_with slots form batches))) old new)
        → WhileAllKnown (StandsOn text history e) (KeepsHistory text (history ++ []) e now) old new
    write-fails now durable saved keeps = by-said Keeps (KeepsHistory text (history ++ []) e now)
        (λ u v is run.
        let moments = run-of u is v run in
        subst (λ (h : List Txn). KeepsHistory text h e now u v) (sym (append-nil history))
        (record { executes = is.still.executes; moments = moments; end = leave-same text cat history e now v durable saved (run_end (MayLeave text cat history e) u v moments) }))
        (λ parts is. keeps parts.0 parts.1 is.0 is.1 is.2 is.3)

    module _ (now : EngineParts) (becomes : now ≡ written_parts e)
        (stands : (form : HeaderForm) (batches : List (List Txn)) → CanPublish text e.session.catalogue history (known_with slots form batches) e.session.tables → HasReadyText slots (published_head text (known_with slots form batches)) (published_bytes text e.session.catalogue e.session.tables (known_with slots form batches))
        → gate.header ≡ header_with (Later (last_number text (known_with slots form batches))) text → gate.catalogue ≡ e.session.catalogue
        → WhileAllKnown (StandsStill text e.session.catalogue history (known_with slots form batches)) (λ u v. StandsStill text e.session.catalogue history (published_by text (closed_by (known_with slots form batches))) v) old new) where
      stands-with : (h : List Txn) → h ≡ history → (u v : Devices DiskHistory) (is : StandsOn text history e u) → Stands (known_with e.slots is.form is.batches) u v → StandsOn text h now v
      stands-with h same_history u v is still = subst (λ (p : EngineParts). StandsOn text h p v) (sym becomes) (subst (λ (k : List Txn). StandsOn text k (written_parts e) v) (sym same_history) (written-stands u is v still))

      pub written-stands-known : WhileAllKnown (StandsOn text history e) (λ was is. StandsOn text (history ++ []) now is) old new
      written-stands-known = by-said Stands (λ was is. StandsOn text (history ++ []) now is) (λ u v is still. stands-with (history ++ []) (append-nil history) u v is still)
          (λ parts is. stands parts.0 parts.1 is.0 is.1 is.2 is.3)

      pub written-keeps-known : ((form : HeaderForm) (batches : List (List Txn)) → CanPublish text e.session.catalogue history (known_with slots form batches) e.session.tables → HasReadyText slots (published_head text (known_with slots form batches)) (published_bytes text e.session.catalogue e.session.tables (known_with slots form batches))
          → gate.header ≡ header_with (Later (last_number text (known_with slots form batches))) text → gate.catalogue ≡ e.session.catalogue
          → WhileAllKnown (StandsStill text e.session.catalogue history (known_with slots form batches)) (RunLeaves (KeepsEither text e.session.catalogue history (known_with slots form batches))) old new)
          → WhileAllKnown (StandsOn text history e) (KeepsHistory text (history ++ []) e now) old new
      written-keeps-known keeps = by-said (λ k u v. Keeps k u v × Stands k u v) (KeepsHistory text (history ++ []) e now)
          (λ u v is both. subst (λ (h : List Txn). KeepsHistory text h e now u v) (sym (append-nil history)) (record { executes = is.still.executes; moments = run-of u is v both.0; end = of-catalogue v (stands-now text history now v (stands-with history refl u v is both.1)) }))
          (λ parts is. known-both (StandsStill text cat history (known_with slots parts.0 parts.1)) (Keeps (known_with slots parts.0 parts.1)) (Stands (known_with slots parts.0 parts.1)) (all_known old) (all_known new)
          (keeps parts.0 parts.1 is.0 is.1 is.2 is.3) (stands parts.0 parts.1 is.0 is.1 is.2 is.3))
        where
          known-both : (P : Devices DiskHistory → Type 0) (R S : Devices DiskHistory → Devices DiskHistory → Type 0) → (x y : Option (Devices DiskHistory)) → WhileKnown P R x y → WhileKnown P S x y → WhileKnown P (λ u v. R u v × S u v) x y
          known-both P R S None y one two = tt
          known-both P R S (Some u) None one two = one
          known-both P R S (Some u) (Some v) one two = λ is. (one is, two is)

          of-catalogue : (v : Devices DiskHistory) → AllLeave (MayLeave text now.session.catalogue history now) v → AllLeave (MayLeave text cat history now) v
          of-catalogue v = subst (λ (c : CatalogueState). AllLeave (MayLeave text c history now) v) (ap (λ (p : EngineParts). p.session.catalogue) becomes)
