-- When a save writes a checkpoint, and where the log stands after it.
use Rattle.std.proofs.Common.{◌≡◌, ◌≢◌, ◌∙◌, ℕ, zero, suc, ◌+◌, ◌^◌, ◌<◌, ◌≤◌, Bool, true, false, List, [], ◌∷◌, ◌++◌, length, not, ◌&&◌, nat_eq, nat_le, nat_lt, Option, Some, None, refl, sym, ap, ap₂, subst, arith, length-append}
use Rattle.std.specs.Int.{w16, w64, to_le_bytes}
use Rattle.std.specs.List.{flat_map}
use Rattle.std.specs.Option.{option_or}
use Rattle.std.specs.Prelude.{if◌then◌else◌, codes}
use Rattle.std.proofs.lemmas.Bool.{and_parts, eqb-false, eqb-true, leb-false, leb-true, ltb-false}
use Rattle.pac_value.specs.State.{Tables, keys_of}
use Rattle.pac_ops.specs.declared.transaction.Txn.{Txn}
use Rattle.pac_outside.specs.Devices.{log_at, other_log}
use Rattle.pac_outside.specs.Disk.{DiskHistory, IfKnown}
use Rattle.pac_outside.specs.GateByte.{IsOpen, OneImage}
use Rattle.pac_outside.specs.declared.devices.Devices.{Devices}
use Rattle.pac_outside.specs.declared.devices.LogName.{LogName}
use Rattle.pac_outside.specs.declared.devices.LogName.TheVariants.{Log, LogB}
use Rattle.pac_bytes.proofs.Numbers.{width64}
use Rattle.pac_types.specs.Accepted.{IsAccepted}
use Rattle.pac_types.specs.Execution.{first_over, if_over}
use Rattle.pac_types.specs.Typing.{CatalogueState}
use Rattle.pac_log.specs.declared.header.HeaderForm.TheVariants.{Later}
use Rattle.pac_log.specs.declared.limits.TheConstants.{MAX_BASE}
use Rattle.pac_log.specs.declared.log.LogParts.{LogParts}
use Rattle.pac_log.specs.declared.log.Stage.TheVariants.{Waiting}
use Rattle.pac_log.specs.declared.position.NextGate.{NextGate}
use Rattle.pac_log.specs.Gates.{next_segment}
use Rattle.pac_log.specs.Logs.{header_bytes, header_with, start_bytes}
use Rattle.pac_log.specs.Places.{LogEndsAt}
use Rattle.pac_log.proofs.HeaderLemmas.{form_long, head_long}
use Rattle.pac_check.specs.declared.head.Head.{Head}
use Rattle.pac_check.specs.declared.info.SlotInfo.{SlotInfo}
use Rattle.pac_check.specs.declared.info.SlotName.{SlotName}
use Rattle.pac_check.specs.declared.info.SlotName.TheVariants.{A, B}
use Rattle.pac_check.specs.declared.slots.Slots.{Slots}
use Rattle.pac_check.specs.declared.state.SlotState.{SlotState}
use Rattle.pac_check.specs.declared.state.SlotState.TheVariants.{Open}
use Rattle.pac_check.specs.Checkpoints.{Checkpoint, IsCheckpoint, checkpoint_bytes, checkpoint_name, front_bytes, head_bytes, head_with, rows_bytes, segment_bytes}
use Rattle.pac_check.specs.Saved.{checkpoint_of}
use Rattle.pac_check.specs.SlotStates.{IsAbove, HasReadyText, IsSlot, active_in, active_of, by_slot, closed_slots, info_with, newest_of, coming_head, published_slots, spare_of, with_ready}
use Rattle.pac_check.proofs.SlotLemmas.{read_held}
use Rattle.pac_store.specs.Stands.{reach_of}
use Rattle.pac_store.proofs.StandsLemmas.{few-tables}
use Rattle.pac_session.specs.Groups.{LogSpot, saves_anew, spot_committed, spot_saved}
use Rattle.pac_engine.specs.declared.parts.EngineParts.{EngineParts}
use Rattle.pac_session.specs.Open.{Open as ASession, rules_of, state_now}
use Rattle.pac_engine.specs.Closing.{slot_len}
use Rattle.pac_engine.specs.Committing.{gate_past}
use Rattle.pac_engine.specs.Moves.{IsLive, IsWorking, committed_parts, saved_bytes, saved_head, saved_parts, written_parts}
use Rattle.pac_engine.specs.Standing.{HasDevices, OnlyGrows, durable_of, saved_of, spot_of}
use Rattle.pac_engine.proofs.BodyLemmas.{place-after, txns-after}
use Rattle.pac_engine.proofs.SavingLemmas.{ready-gone, written-newest, written-slots, written-works}

-- ---- no table is over the limit

none-both : {A : Type 0} (x y : Option A) → option_or x y ≡ None → (x ≡ None) × (y ≡ None)
none-both None y e = (refl, e)
none-both (Some a) y e = absurd cc

rows-few : (limit number : ℕ) (held : Tables) → first_over limit number held ≡ None → (table : ℕ) → table < number → length (keys_of held table) ≤ limit
rows-few limit zero held none table below = absurd (omega (arith, below))
rows-few limit (suc number) held none table below = go (nat_lt table number) refl (rows-few limit number held parts.0 table)
  where
    parts : (first_over limit number held ≡ None) × (if_over limit number (length (keys_of held number)) ≡ None)
    parts = none-both (first_over limit number held) (if_over limit number (length (keys_of held number))) none

    last : (b : Bool) → nat_lt limit (length (keys_of held number)) ≡ b → if_over limit number (length (keys_of held number)) ≡ None → length (keys_of held number) ≤ limit
    last true e none_over = let some = rw e at none_over in absurd (cc some)
    last false e none_over = ltb-false _ _ e

    go : (b : Bool) → nat_lt table number ≡ b → (table < number → length (keys_of held table) ≤ limit) → length (keys_of held table) ≤ limit
    go true e rest = rest (grind (arith, e))
    go false e rest =
        let more : number ≤ table = ltb-false _ _ e in
        let same : number ≡ table = omega (arith, below) in
        subst (λ (t : ℕ). length (keys_of held t) ≤ limit) same (last (nat_lt limit (length (keys_of held number))) refl parts.1)

pub few-rows : (limit most tables count : ℕ) (held rows : Tables) → first_over limit count held ≡ None → tables ≡ count → rows ≡ held → limit ≤ most → (table : ℕ) → table < tables → length (keys_of rows table) ≤ most
few-rows limit most tables count held rows none counted same le table below =
    let few = rows-few limit count held none table (omega (arith, below, counted)) in
    omega (arith, few, ap (λ (t : Tables). length (keys_of t table)) same)

-- ---- a save that writes has more transactions than the newest slot

pub anew-above : (newest : Option SlotInfo) (number : ℕ) → reach_of newest ≤ number + 1 → saves_anew (reach_of newest) number ≡ true → IsAbove newest number
anew-above None number within is = tt
anew-above (Some info) number within is = go (nat_eq (info.txns + 1) (number + 1)) refl (and_parts (not (nat_eq (info.txns + 1) (number + 1))) _ is).0
  where
    go : (b : Bool) → nat_eq (info.txns + 1) (number + 1) ≡ b → not b ≡ true → info.txns < number
    go true e none = absurd cc
    go false e some = let differ : info.txns + 1 ≢ number + 1 = eqb-false _ _ e in omega (arith, within, differ)

pub anew-few : (reach number : ℕ) → saves_anew reach number ≡ true → number ≤ MAX_BASE
anew-few reach number is = leb-true _ _ (and_parts (not (nat_eq reach (number + 1))) _ is).1

-- ---- how long a header and a slot are

-- the header of a later segment is as long, whatever its base
pub header-long : (text : List ℕ) (m n : ℕ) → length (header_bytes (header_with (Later m) text)) ≡ length (header_bytes (header_with (Later n) text))
header-long text m n = omega (arith, length-append (start_bytes (Later m) (length text)) text, length-append (start_bytes (Later n) (length text)) text, head_long (Later m) (length text), head_long (Later n) (length text), form_long m, form_long n)

front-long : (txns place : ℕ) (segment : LogName) → length (front_bytes (head_with txns place segment)) ≡ 25
front-long txns place segment = omega (
  arith,
  length-append (codes "PACMSLT2") (to_le_bytes w64 txns ++ (to_le_bytes w64 place ++ segment_bytes (head_with txns place segment).form)),
  length-append (to_le_bytes w64 txns) (to_le_bytes w64 place ++ segment_bytes (head_with txns place segment).form),
  length-append (to_le_bytes w64 place) (segment_bytes (head_with txns place segment).form),
  width64.len txns,
  width64.len place,
)

-- a checkpoint is as long, whichever segment it names, and at whichever offset
pub slot-long : (tables txns place other : ℕ) (segment log : LogName) (held : Tables) → length (checkpoint_bytes (checkpoint_of tables (head_with txns place segment) held)) ≡ length (checkpoint_bytes (checkpoint_of tables (head_with txns other log) held))
slot-long tables txns place other segment log held =
    let rows = checkpoint_of tables (head_with txns place segment) held in
    let count = to_le_bytes w16 (length rows.tables) in
    omega (
      arith,
      length-append (head_bytes (length rows.tables) (head_with txns place segment)) (flat_map rows_bytes rows.tables),
      length-append (head_bytes (length rows.tables) (head_with txns other log)) (flat_map rows_bytes rows.tables),
      length-append (front_bytes (head_with txns place segment)) count,
      length-append (front_bytes (head_with txns other log)) count,
      front-long txns place segment,
      front-long txns other log,
    )

-- ---- where the log stands

spot-same : (one two : LogSpot) → one.place ≡ two.place → one.reach ≡ two.reach → one.next ≡ two.next → one ≡ two
spot-same one two p r n = ap (λ (x : ℕ). the_spot x one.reach one.next) p ∙ ap (λ (x : ℕ). the_spot two.place x one.next) r ∙ ap (λ (x : ℕ). the_spot two.place two.reach x) n
  where
    the_spot : ℕ → ℕ → ℕ → LogSpot
    the_spot a b c = record { place = a; reach = b; next = c }

next-past : (txns : List Txn) (gate : NextGate) → (next_segment (gate_past txns gate)).place ≡ (next_segment gate).place
next-past [] gate = refl
next-past (txn ∷ txns) gate = header-long gate.header.text (gate.txns + length (txn ∷ txns)) gate.txns

pub spot-committed : (e : EngineParts) → spot_of (committed_parts e) ≡ spot_committed (spot_of e) e.session.txns
spot-committed e = spot-same (spot_of (committed_parts e)) (spot_committed (spot_of e) e.session.txns) (place-after e.session.txns e.log.gate) refl (next-past e.session.txns e.log.gate)

module _ (e : EngineParts) (within : saved_of e ≤ durable_of e + 1) where
  -- after a checkpoint is written it reaches so far
  pub written-reach : saves_anew (saved_of e) (durable_of e) ≡ true → saved_of (written_parts e) ≡ durable_of e + 1
  written-reach anew = ap reach_of (written-newest e.slots (saved_head e) (anew-above (newest_of e.slots) (durable_of e) within anew))

  pub spot-saved : spot_of (saved_parts e) ≡ spot_saved (spot_of e) (durable_of e)
  spot-saved = go (saves_anew (saved_of e) (durable_of e)) refl
    where
      go : (b : Bool) → saves_anew (saved_of e) (durable_of e) ≡ b → spot_of (if b then written_parts e else e) ≡ (if b then record (spot_of e) { place = (spot_of e).next; reach = durable_of e + 1 } else spot_of e)
      go true anew = spot-same (spot_of (written_parts e)) (record (spot_of e) { place = (spot_of e).next; reach = durable_of e + 1 }) refl (written-reach anew) (header-long e.log.gate.header.text (next_segment e.log.gate).txns e.log.gate.txns)
      go false anew = refl

  -- what is saved only grows
  pub saved-grows : saved_of e ≤ saved_of (saved_parts e)
  saved-grows = go (saves_anew (saved_of e) (durable_of e)) refl
    where
      go : (b : Bool) → saves_anew (saved_of e) (durable_of e) ≡ b → saved_of e ≤ saved_of (if b then written_parts e else e)
      go true anew = omega (arith, written-reach anew, within)
      go false anew = omega arith

  -- and reaches no further than the log
  pub saved-within : saved_of (saved_parts e) ≤ durable_of e + 1
  saved-within = go (saves_anew (saved_of e) (durable_of e)) refl
    where
      go : (b : Bool) → saves_anew (saved_of e) (durable_of e) ≡ b → saved_of (if b then written_parts e else e) ≤ durable_of e + 1
      go true anew = omega (arith, written-reach anew)
      go false anew = within

  -- of few transactions all are saved
  pub saves-all : durable_of e ≤ MAX_BASE → durable_of e < saved_of (saved_parts e)
  saves-all few = go (saves_anew (saved_of e) (durable_of e)) refl
    where
      go : (b : Bool) → saves_anew (saved_of e) (durable_of e) ≡ b → durable_of e < saved_of (if b then written_parts e else e)
      go true anew = omega (arith, written-reach anew)
      go false anew = not-anew (nat_eq (saved_of e) (durable_of e + 1)) refl anew
        where
          not-anew : (b : Bool) → nat_eq (saved_of e) (durable_of e + 1) ≡ b → (not b && nat_le (durable_of e) (2 ^ 62)) ≡ false → durable_of e < saved_of e
          not-anew true is_so other = omega (arith, eqb-true _ _ is_so)
          not-anew false is_so other = let much : 2 ^ 62 < durable_of e = leb-false _ _ other in absurd (omega (arith, few, much))

pub saved-session : (e : EngineParts) → (saved_parts e).session ≡ e.session
saved-session e = go (saves_anew (saved_of e) (durable_of e))
  where
    go : (b : Bool) → (if b then written_parts e else e).session ≡ e.session
    go true = refl
    go false = refl

pub saved-durable : (e : EngineParts) → durable_of (saved_parts e) ≡ durable_of e
saved-durable e = go (saves_anew (saved_of e) (durable_of e))
  where
    go : (b : Bool) → durable_of (if b then written_parts e else e) ≡ durable_of e
    go true = refl
    go false = refl

-- whether a checkpoint is written
pub anew-parts : (e : EngineParts) → saves_anew (saved_of e) (durable_of e) ≡ true → saved_parts e ≡ written_parts e
anew-parts e anew = ap (λ (b : Bool). if b then written_parts e else e) anew

pub same-parts : (e : EngineParts) → saves_anew (saved_of e) (durable_of e) ≡ false → saved_parts e ≡ e
same-parts e anew = ap (λ (b : Bool). if b then written_parts e else e) anew

-- ---- what a call that prepares the checkpoint says of the values that it is given, said of the engine's

module _ (e : EngineParts) (catalogue : CatalogueState) (txns place : ℕ) (held : Tables)
    (same_catalogue : catalogue ≡ e.session.catalogue) (same_txns : txns ≡ e.log.gate.txns) (same_place : place ≡ (next_segment e.log.gate).place) (same_held : held ≡ e.session.tables) where
  here : (P : CatalogueState → ℕ → ℕ → Tables → Type 0) → P catalogue txns place held → P e.session.catalogue e.log.gate.txns (next_segment e.log.gate).place e.session.tables
  here P is = subst (λ (t : Tables). P e.session.catalogue e.log.gate.txns (next_segment e.log.gate).place t) same_held (subst (λ (p : ℕ). P e.session.catalogue e.log.gate.txns p held) same_place
      (subst (λ (n : ℕ). P e.session.catalogue n place held) same_txns (subst (λ (c : CatalogueState). P c txns place held) same_catalogue is)))

  pub ready-here : (slots : Slots) → slots ≡ with_ready (coming_head e.slots txns place) (checkpoint_bytes (checkpoint_of (length catalogue.tables) (coming_head e.slots txns place) held)) e.slots → slots ≡ with_ready (saved_head e) (saved_bytes e) e.slots
  ready-here slots is = here (λ c n p t. slots ≡ with_ready (coming_head e.slots n p) (checkpoint_bytes (checkpoint_of (length c.tables) (coming_head e.slots n p) t)) e.slots) is

  pub form-here : IsCheckpoint catalogue.tables (checkpoint_of (length catalogue.tables) (coming_head e.slots txns place) held) → IsCheckpoint e.session.catalogue.tables (checkpoint_of (length e.session.catalogue.tables) (saved_head e) e.session.tables)
  form-here form = here (λ c n p t. IsCheckpoint c.tables (checkpoint_of (length c.tables) (coming_head e.slots n p) t)) form

  module _ (counted : e.log.gate.txns ≡ e.session.before) (none : e.session.txns ≡ []) where
    pub slot-here : 1 + length (checkpoint_bytes (checkpoint_of (length catalogue.tables) (coming_head e.slots txns place) held)) ≡ slot_len (rules_of e.session) (state_now e.session)
    slot-here =
        let number : e.log.gate.txns ≡ (state_now e.session).number = omega (arith, counted, ap (λ (t : List Txn). length t) none) in
        here (λ c n p t. 1 + length (checkpoint_bytes (checkpoint_of (length catalogue.tables) (coming_head e.slots txns place) held)) ≡ 1 + length (checkpoint_bytes (checkpoint_of (length c.tables) (coming_head e.slots n p) t))) refl
        ∙ ap (λ (n : ℕ). 1 + n) (slot-long (length e.session.catalogue.tables) e.log.gate.txns (next_segment e.log.gate).place 0 (other_log (active_of e.slots)) Log e.session.tables)
        ∙ ap (λ (n : ℕ). 1 + length (checkpoint_bytes (checkpoint_of (length e.session.catalogue.tables) (head_with n 0 Log) e.session.tables))) number

-- ---- what the engine knows of the devices afterwards

module _ {D : Type 0} (known : D → Option DiskHistory) (e : EngineParts) (old new : Devices D) (above : IsAbove (newest_of e.slots) e.log.gate.txns) (accepted : IsAccepted e.log.gate.header.text e.log.gate.catalogue) (same : e.log.gate.catalogue ≡ e.session.catalogue)
    (form : IsCheckpoint e.session.catalogue.tables (checkpoint_of (length e.session.catalogue.tables) (saved_head e) e.session.tables)) (ready : HasDevices known e old) where
  -- what the call says, for the slots and the gate that it is given
  abbrev Said : Slots → NextGate → Type 0
  Said slots gate = IfKnown (λ h. LogEndsAt gate h.now) (known (log_at (other_log (active_of slots)) new))
      × IfKnown (λ h. OneImage (IsOpen [] (saved_bytes e)) h.now) (by_slot (spare_of slots) (known new.slot_a) (known new.slot_b))
      × (by_slot (spare_of slots) (known new.slot_b) (known new.slot_a) ≡ by_slot (spare_of slots) (known old.slot_b) (known old.slot_a))

  tables-few : length e.session.catalogue.tables < 65536
  tables-few = subst (λ (c : CatalogueState). length c.tables < 65536) same (few-tables e.log.gate.header.text e.log.gate.catalogue accepted.has)

  opened : (device : Option DiskHistory) → IfKnown (λ h. OneImage (IsOpen [] (saved_bytes e)) h.now) device
      → IfKnown (λ h. OneImage (IsSlot e.session.catalogue.tables (Open (saved_head e))) h.now) device
  opened None opens = tt
  opened (Some h) opens = record { one = opens.one; has = read_held e.session.catalogue.tables tables-few h.now.seen (checkpoint_of (length e.session.catalogue.tables) (saved_head e) e.session.tables) (record { form = form; opens = opens.has }) }

  abbrev Slot : SlotState → Option DiskHistory → Type 0
  Slot state device = IfKnown (λ h. OneImage (IsSlot e.session.catalogue.tables state) h.now) device

  both : Said e.slots (next_segment e.log.gate) → Slot (written_parts e).slots.a (known new.slot_a) × Slot (written_parts e).slots.b (known new.slot_b)
  both said = go (spare_of e.slots) refl said.1 said.2
    where
      go : (s : SlotName) → spare_of e.slots ≡ s → IfKnown (λ h. OneImage (IsOpen [] (saved_bytes e)) h.now) (by_slot s (known new.slot_a) (known new.slot_b))
          → by_slot s (known new.slot_b) (known new.slot_a) ≡ by_slot s (known old.slot_b) (known old.slot_a) → Slot (written_parts e).slots.a (known new.slot_a) × Slot (written_parts e).slots.b (known new.slot_b)
      go A spare opens rest = (
        subst (λ (s : Slots). Slot s.a (known new.slot_a)) (sym (written-slots e.slots (saved_head e) A spare)) (opened (known new.slot_a) opens),
        subst (λ (s : Slots). Slot s.b (known new.slot_b)) (sym (written-slots e.slots (saved_head e) A spare)) (subst (λ (d : Option DiskHistory). Slot e.slots.b d) (sym rest) ready.slot_b),
      )
      go B spare opens rest = (
        subst (λ (s : Slots). Slot s.a (known new.slot_a)) (sym (written-slots e.slots (saved_head e) B spare)) (subst (λ (d : Option DiskHistory). Slot e.slots.a d) (sym rest) ready.slot_a),
        subst (λ (s : Slots). Slot s.b (known new.slot_b)) (sym (written-slots e.slots (saved_head e) B spare)) (opened (known new.slot_b) opens),
      )

  pub written-ready : (slots : Slots) (gate : NextGate) → slots ≡ with_ready (saved_head e) (saved_bytes e) e.slots → gate ≡ next_segment e.log.gate
      → IfKnown (λ h. LogEndsAt gate h.now) (known (log_at (other_log (active_of slots)) new)) → IfKnown (λ h. OneImage (IsOpen [] (saved_bytes e)) h.now) (by_slot (spare_of slots) (known new.slot_a) (known new.slot_b))
      → by_slot (spare_of slots) (known new.slot_b) (known new.slot_a) ≡ by_slot (spare_of slots) (known old.slot_b) (known old.slot_a) → (now : EngineParts) → now ≡ written_parts e → HasDevices known now new
  written-ready slots gate slots_are gate_is log published other now becomes =
      let said : Said e.slots (next_segment e.log.gate) = subst (λ (s : Slots). Said s (next_segment e.log.gate)) slots_are (subst (λ (g : NextGate). Said slots g) gate_is (log, published, other)) in
      subst (λ (p : EngineParts). HasDevices known p new) (sym becomes) (record {
        log = subst (λ (name : LogName). IfKnown (λ h. LogEndsAt (next_segment e.log.gate) h.now) (known (log_at name new))) (sym (ap active_in (written-newest e.slots (saved_head e) above))) said.0;
        slot_a = (both said).0;
        slot_b = (both said).1;
      })

-- ---- the engine afterwards

pub written-is : (e p : EngineParts) (log : LogParts) (slots : Slots) (gate : NextGate) → p ≡ record e { slots = with_ready (saved_head e) (saved_bytes e) e.slots } → gate ≡ next_segment e.log.gate → log ≡ record { gate = gate; stage = Waiting }
    → ((head : Head) (text : List ℕ) → HasReadyText p.slots head text → slots ≡ published_slots head (closed_slots p.slots)) → record { session = p.session; log = log; slots = slots; ended = p.ended } ≡ written_parts e
written-is e p log slots gate p_is gate_is log_is slots_are =
    ap (λ (q : EngineParts). the q.session log slots q.ended) p_is
    ∙ ap (λ (l : LogParts). the e.session l slots e.ended) (log_is ∙ ap (λ (g : NextGate). at_gate g) gate_is)
    ∙ ap (λ (s : Slots). the e.session (at_gate (next_segment e.log.gate)) s e.ended) slots_here
  where
    the : ASession → LogParts → Slots → Bool → EngineParts
    the session l s ended = record { session = session; log = l; slots = s; ended = ended }

    at_gate : NextGate → LogParts
    at_gate g = record { gate = g; stage = Waiting }

    slots_here : slots ≡ published_slots (saved_head e) (closed_slots e.slots)
    slots_here = slots_are (saved_head e) (saved_bytes e) (ap (λ (q : EngineParts). q.slots.ready) p_is)
        ∙ ap (λ (q : EngineParts). published_slots (saved_head e) (closed_slots q.slots)) p_is
        ∙ ready-gone e.slots (saved_head e) (Some (record { head = saved_head e; text = saved_bytes e }))

past-catalogue : (txns : List Txn) (gate : NextGate) → (gate_past txns gate).catalogue ≡ gate.catalogue
past-catalogue [] gate = refl
past-catalogue (txn ∷ txns) gate = refl

-- it works on, in a new group
pub saved-live : (e mid new : EngineParts) → IsWorking e → mid ≡ committed_parts e → new ≡ saved_parts mid → IsLive new
saved-live e mid new is closed saved = subst IsLive (sym (saved ∙ ap saved_parts closed)) (go (saves_anew (saved_of e) (durable_of (committed_parts e))) refl)
  where
    within : saved_of (committed_parts e) ≤ durable_of (committed_parts e) + 1
    within = omega (arith, is.saved, txns-after e.session.txns e.log.gate)

    same : (committed_parts e).log.gate.catalogue ≡ e.session.catalogue
    same = past-catalogue e.session.txns e.log.gate ∙ is.same

    counted : (committed_parts e).log.gate.txns ≡ e.session.before + length e.session.txns
    counted = txns-after e.session.txns e.log.gate ∙ ap (λ (n : ℕ). n + length e.session.txns) is.counted

    go : (b : Bool) → saves_anew (saved_of e) (durable_of (committed_parts e)) ≡ b → IsLive (if b then written_parts (committed_parts e) else committed_parts e)
    go true anew = record {
      working = record {
        waits = refl;
        works = written-works e.slots (saved_head (committed_parts e)) ∙ is.works;
        same = same;
        counted = counted;
        some = is.some;
        fewer = omega arith;
        held = tt;
        limit = is.limit;
        saved = omega (arith, written-reach (committed_parts e) within anew);
      };
      unfull = is.some;
    }
    go false anew = record {
      working = record {
        waits = refl;
        works = is.works;
        same = same;
        counted = counted;
        some = is.some;
        fewer = omega arith;
        held = tt;
        limit = is.limit;
        saved = within;
      };
      unfull = is.some;
    }

pub grows-then : (e mid new : EngineParts) → mid ≡ committed_parts e → OnlyGrows mid new → OnlyGrows e new
grows-then e mid new closed grows = record { durable = omega (arith, ap durable_of closed, txns-after e.session.txns e.log.gate, grows.durable); saved = omega (arith, ap saved_of closed, grows.saved) }
