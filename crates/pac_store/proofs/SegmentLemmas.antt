-- The active segment is known by its device and its base, and what is read of it goes on in the history.
use Rattle.std.proofs.Common.{◌≡◌, ◌∙◌, inl, inr, ⊎_elim, ℕ, ◌≤◌, ◌<◌, ◌+◌, ◌-◌, List, [], ◌∷◌, ◌++◌, length, take, drop, Option, Some, None, Ok, refl, sym, ap, subst, arith, append_assoc}
use Rattle.std.specs.FinMap.{empty}
use Rattle.std.specs.Prelude.{Bool, true, false, nat_lt, if◌then◌else◌}
use Rattle.std.proofs.lemmas.List.{append_cancel_left, take_at, take-append-drop, take-append-le, take-take}
use Rattle.pac_value.specs.State.{Tables}
use Rattle.pac_ops.specs.declared.transaction.Txn.{Txn}
use Rattle.pac_outside.specs.Devices.{log_at, other_log}
use Rattle.pac_outside.specs.declared.devices.LogName.{LogName}
use Rattle.pac_outside.specs.declared.devices.LogName.TheVariants.{Log, LogB}
use Rattle.pac_types.specs.Execution.{serial}
use Rattle.pac_types.specs.Typing.{CatalogueState}
use Rattle.pac_log.specs.declared.header.HeaderForm.TheVariants.{First, Later}
use Rattle.pac_log.specs.Logs.{base_in, header_with, number_after, HasGate, HoldsLog, all_txns}
use Rattle.pac_log.proofs.OneGate.{begun, few}
use Rattle.pac_check.specs.declared.head.Head.{Head}
use Rattle.pac_check.specs.declared.head.SlotForm.TheVariants as slot_form
use Rattle.pac_check.specs.declared.info.SlotInfo.{SlotInfo}
use Rattle.pac_check.specs.declared.info.SlotName.{SlotName}
use Rattle.pac_check.specs.declared.info.SlotName.TheVariants.{A, B}
use Rattle.pac_check.specs.declared.state.SlotState.{SlotState}
use Rattle.pac_check.specs.declared.state.SlotState.TheVariants.{Empty, Closed, Open}
use Rattle.pac_check.specs.Checkpoints.{segment_in}
use Rattle.pac_check.specs.SlotStates.{active_in, by_slot, info_of, info_with, newest_among, spare_beside, IsAbove}
use Rattle.pac_check.proofs.NewestLemmas.{opened_a, opened_b}
use Rattle.pac_store.specs.Saving.{KnownStore, active_by, last_number, published_by, published_head, spare_by}
use Rattle.pac_store.specs.Images.{Images}
use Rattle.pac_store.specs.OldStands.{StoodFor, WasShutOrPrefix}
use Rattle.pac_store.specs.Segments.{Segment, CanBePublished, IsAboveNewest, IsPossible, IsWithinSegment, after_each, after_one, saved_number, segment_by}
use Rattle.pac_store.specs.Stands.{EndsWith, IsShutOrPrefix, StandsFor}
use Rattle.pac_store.specs.Stored.{IsPlaced}
use Rattle.pac_store.proofs.StandsLemmas.{after-prefix, drop-past, history-parts, newest-one, prefix-ends, same-info, so-many, take-last, take-more}

-- ---- a store of three devices

-- what was in a slot, as a state
record WasIn (text : List ℕ) (catalogue : CatalogueState) (history : List Txn) (batches : List (List Txn)) (image : List ℕ) : Type 0 where
  state : SlotState
  is : IsShutOrPrefix catalogue history (number_after (header_with First text) batches) state image
  first : (head : Head) → state ≡ Open head → (head.form ≡ slot_form.First) × HasGate (header_with First text) batches head.place head.txns

was-in : (text : List ℕ) (catalogue : CatalogueState) (history : List Txn) (batches : List (List Txn)) (later : List Txn) (image : List ℕ) → history ≡ all_txns batches ++ later → WasShutOrPrefix text catalogue batches image → WasIn text catalogue history batches image
was-in text catalogue history batches later image prefix (inl shut) = record { state = Closed; is = shut; first = λ head e. absurd (no head e) }
  where
    no : (head : Head) → Closed ≡ Open head → ⊥
    no head e = cc
was-in text catalogue history batches later image prefix (inr was) =
    let within : was.head.txns ≤ number_after (header_with First text) batches = few (header_with First text) batches was.head.place was.head.txns was.gate in
    record {
      state = Open was.head;
      is = record {
        held = was.held;
        fit = was.fit;
        rows = was.rows;
        within = within;
        ends = subst (λ (l : List Txn). EndsWith catalogue l was.held) (sym (ap (λ (h : List Txn). take was.head.txns h) prefix ∙ take-more was.head.txns (all_txns batches) later (omega (arith, within)))) was.ends;
      };
      first = λ head e. subst (λ (h : Head). (h.form ≡ slot_form.First) × HasGate (header_with First text) batches h.place h.txns) (same was.head head e) (was.first, was.gate);
    }
  where
    same : (a b : Head) → Open a ≡ Open b → a ≡ b
    same a b e = cc

-- the newest of two such slots names the log, and is placed in it
module _ (text : List ℕ) (catalogue : CatalogueState) (history : List Txn) (batches : List (List Txn)) (x y : List ℕ) (a : WasIn text catalogue history batches x) (b : WasIn text catalogue history batches y) where
  first-of : (slot : SlotName) (state : SlotState) → ((head : Head) → state ≡ Open head → (head.form ≡ slot_form.First) × HasGate (header_with First text) batches head.place head.txns) → (info : SlotInfo) → info_of slot state ≡ Some info
      → HasGate (header_with First text) batches info.place info.txns × (info.segment ≡ Log)
  first-of slot state first info e =
      let found = same-info slot state info e in
      let of = first found.0 found.1 in (
        subst (λ (i : SlotInfo). HasGate (header_with First text) batches i.place i.txns) (sym found.2) of.1,
        ap (λ (i : SlotInfo). i.segment) found.2 ∙ ap segment_in of.0,
      )

  of-first : (newest : Option SlotInfo) → newest_among a.state b.state ≡ newest → IsPlaced (header_with First text) batches newest × (active_in newest ≡ Log)
  of-first None e = (refl, refl)
  of-first (Some info) e = ⊎_elim (λ one. first-of A a.state a.first info one) (λ other. first-of B b.state b.first info other) (newest-one (info_of A a.state) (info_of B b.state) info e)

-- with any second log device they stand for the same history
pub upgraded : (text : List ℕ) (catalogue : CatalogueState) (history : List Txn) (least : ℕ) (log log_b a b : List ℕ) → StoodFor text catalogue history least log a b → StandsFor text catalogue history least (record { log = log; log_b = log_b; slot_a = a; slot_b = b })
upgraded text catalogue history least log log_b a b was =
    let x = was-in text catalogue history was.batches was.later a was.prefix was.slot_a in
    let y = was-in text catalogue history was.batches was.later b was.prefix was.slot_b in
    let newest = of-first text catalogue history was.batches a b x y (newest_among x.state y.state) refl in
    record {
      executes = was.executes;
      form = First;
      batches = was.batches;
      a = x.state;
      b = y.state;
      slot_a = x.is;
      slot_b = y.is;
      log = subst (λ (n : LogName). HoldsLog (header_with First text) catalogue was.batches (log_at n (record { log = log; log_b = log_b; slot_a = a; slot_b = b }))) (sym newest.1) was.holds;
      placed = newest.0;
      earlier = [];
      later = was.later;
      before = refl;
      split = was.prefix;
      enough = omega (arith, was.enough);
    }

-- ---- a segment that grows

-- two lists that begin with as many items
fronts : {T : Type 0} (a b xs ys : List T) → length a ≡ length b → a ++ xs ≡ b ++ ys → (a ≡ b) × (xs ≡ ys)
fronts {T} a b xs ys long e =
    let same : a ≡ b = sym (take_at a xs (length a) refl) ∙ ap (λ (l : List T). take (length a) l) e ∙ take_at b ys (length a) (sym long) in
    (same, append_cancel_left a xs ys (e ∙ ap (λ (l : List T). l ++ ys) (sym same)))

-- of two lists that begin alike the longer one begins with the other
goes-further : {T : Type 0} (a b xs ys : List T) → length a ≤ length b → a ++ xs ≡ b ++ ys → b ≡ a ++ drop (length a) b
goes-further {T} a b xs ys le e =
    let front : take (length a) b ≡ a = sym (take-append-le (length a) b ys le) ∙ ap (λ (l : List T). take (length a) l) (sym e) ∙ take_at a xs (length a) refl in
    sym (take-append-drop (length a) b) ∙ ap (λ (l : List T). l ++ drop (length a) b) front

pub grows : (s : List ℕ) (catalogue : CatalogueState) (history more : List Txn) (k l : ℕ) (i j : Images) → (is : StandsFor s catalogue history k i) → (after : StandsFor s catalogue (history ++ more) l j)
    → base_in is.form ≡ base_in after.form → length (all_txns is.batches) ≤ length (all_txns after.batches)
    → all_txns after.batches ≡ all_txns is.batches ++ drop (length (all_txns is.batches)) (all_txns after.batches)
grows s catalogue history more k l i j is after base le =
    let whole : is.earlier ++ (all_txns is.batches ++ (is.later ++ more)) ≡ after.earlier ++ (all_txns after.batches ++ after.later)
    = sym (append_assoc is.earlier (all_txns is.batches ++ is.later) more ∙ ap (λ (h : List Txn). is.earlier ++ h) (append_assoc (all_txns is.batches) is.later more)) ∙ ap (λ (h : List Txn). h ++ more) (sym is.split) ∙ after.split in
    let parts = fronts is.earlier after.earlier (all_txns is.batches ++ (is.later ++ more)) (all_txns after.batches ++ after.later) (omega (arith, is.before, after.before, base)) whole in
    goes-further (all_txns is.batches) (all_txns after.batches) (is.later ++ more) after.later le parts.1

-- ---- who has some of the history goes on with the segment

pub follows-on : (text : List ℕ) (catalogue : CatalogueState) (history : List Txn) (least : ℕ) (images : Images) (is : StandsFor text catalogue history least images) (number : ℕ) (tables : Tables)
    → base_in is.form ≤ number → number ≤ number_after (header_with is.form text) is.batches → EndsWith catalogue (take number history) tables
    → (held : Tables) × (serial catalogue.procs (number + 1) (drop (number - base_in is.form) (all_txns is.batches)) tables ≡ Ok held) × EndsWith catalogue (take (number_after (header_with is.form text) is.batches) history) held
follows-on text catalogue history least images is number tables begins within ends =
    let last : ℕ = number_after (header_with is.form text) is.batches in
    let far : List Txn = is.earlier ++ all_txns is.batches in
    let whole = prefix-ends catalogue.procs 1 far is.later empty is.executes.held (ap (λ (h : List Txn). serial catalogue.procs 1 h empty) (sym (history-parts text catalogue history least images is)) ∙ is.executes.ends) in
    let many : number ≤ length far = omega (arith, within, so-many text catalogue history least images is) in
    let base_ends : EndsWith catalogue (take number far) tables
    = subst (λ (l : List Txn). EndsWith catalogue l tables) (sym (ap (λ (l : List Txn). take number l) (sym (take-last text catalogue history least images is)) ∙ take-take number last history within)) ends in
    let left : drop number far ≡ drop (number - base_in is.form) (all_txns is.batches)
    = drop-past number is.earlier (all_txns is.batches) (omega (arith, is.before, begins)) ∙ ap (λ (n : ℕ). drop (number - n) (all_txns is.batches)) is.before in (
      whole.0,
      ap (λ (l : List Txn). serial catalogue.procs (number + 1) l tables) (sym left) ∙ after-prefix catalogue.procs number far tables whole.0 many base_ends whole.1,
      ap (λ (h : List Txn). serial catalogue.procs 1 h empty) (take-last text catalogue history least images is) ∙ whole.1,
    )

-- ---- each segment has a name and a base of its own

-- what devices that stand for a history have is possible
pub possible : (text : List ℕ) (catalogue : CatalogueState) (history : List Txn) (least : ℕ) (images : Images) → (is : StandsFor text catalogue history least images) → IsPossible (segment_by is.a is.b (base_in is.form))
possible text catalogue history least images is = go (newest_among is.a is.b) is.placed
  where
    go : (newest : Option SlotInfo) → IsPlaced (header_with is.form text) is.batches newest → IsWithinSegment (active_in newest) (base_in is.form) (saved_number newest)
    go None placed = (refl, placed)
    go (Some info) placed = begun (header_with is.form text) is.batches info.place info.txns placed

-- another device
other-differs : (name : LogName) → other_log name ≡ name → ⊥
other-differs Log e = absurd cc
other-differs LogB e = absurd cc

-- from a segment with an open slot on, each checkpoint begins one with a greater base
rises : (numbers : List ℕ) (segment : Segment) (number : ℕ) → segment.newest ≡ Some number → segment.base ≡ number → CanBePublished numbers segment → number ≤ (after_each numbers segment).base
rises [] segment number newest base can = omega (arith, base)
rises (next ∷ numbers) segment number newest base can =
    let more : number < next = subst (λ (n : Option ℕ). IsAboveNewest n next) newest can.0 in
    let rest = rises numbers (after_one next segment) next refl refl can.1 in
    omega (arith, more, rest)

begins-after : (segment : Segment) (first : ℕ) → IsPossible segment → IsAboveNewest segment.newest first → segment.base ≤ first
begins-after segment first possible above = go segment.newest refl possible above
  where
    go : (newest : Option ℕ) → segment.newest ≡ newest → IsWithinSegment segment.name segment.base newest → IsAboveNewest newest first → segment.base ≤ first
    go None e is more = omega (arith, is.1)
    go (Some number) e is more = omega (arith, is, more)

pub changes : (segment : Segment) (first : ℕ) (numbers : List ℕ) → IsPossible segment → CanBePublished (first ∷ numbers) segment → (after_each (first ∷ numbers) segment).name ≡ segment.name → (after_each (first ∷ numbers) segment).base ≡ segment.base → ⊥
changes segment first [] possible can name base = other-differs segment.name name
changes segment first (second ∷ numbers) possible can name base =
    let begins = begins-after segment first possible can.0 in
    let rest = rises numbers (after_one second (after_one first segment)) second refl refl can.1.1 in
    absurd (omega (arith, begins, can.1.0, rest, base))

-- ---- the published checkpoint

pub newest-published : (text : List ℕ) (known : KnownStore) → IsAbove (newest_among known.a known.b) (last_number text known) → newest_among (published_by text known).a (published_by text known).b ≡ Some (info_with (spare_by known) (published_head text known))
newest-published text known above = go (spare_by known) refl
  where
    go : (slot : SlotName) → spare_by known ≡ slot
        → newest_among (by_slot slot (record known { a = Open (published_head text known); form = Later (last_number text known); batches = [] }) (record known { b = Open (published_head text known); form = Later (last_number text known); batches = [] })).a
        (by_slot slot (record known { a = Open (published_head text known); form = Later (last_number text known); batches = [] }) (record known { b = Open (published_head text known); form = Later (last_number text known); batches = [] })).b ≡ Some (info_with slot (published_head text known))
    go A spare = opened_a known.a known.b (published_head text known) spare above
    go B spare = opened_b known.a known.b (published_head text known) spare above

pub other-active : (text : List ℕ) (known : KnownStore) → IsAbove (newest_among known.a known.b) (last_number text known) → active_by (published_by text known) ≡ other_log (active_by known)
other-active text known above = ap active_in (newest-published text known above)

-- its number is above that of the other slot, where that is open
above-b : (a : SlotState) (h : Head) (number : ℕ) → spare_beside (newest_among a (Open h)) ≡ A → IsAbove (newest_among a (Open h)) number → h.txns < number
above-b Empty h number spare above = above
above-b Closed h number spare above = above
above-b (Open g) h number spare above = go (nat_lt g.txns h.txns) spare above
  where
    go : (t : Bool) → spare_beside (if t then Some (info_with B h) else Some (info_with A g)) ≡ A → IsAbove (if t then Some (info_with B h) else Some (info_with A g)) number → h.txns < number
    go true s more = more
    go false s more = absurd cc

above-a : (g : Head) (b : SlotState) (number : ℕ) → spare_beside (newest_among (Open g) b) ≡ B → IsAbove (newest_among (Open g) b) number → g.txns < number
above-a g Empty number spare above = above
above-a g Closed number spare above = above
above-a g (Open h) number spare above = go (nat_lt g.txns h.txns) spare above
  where
    go : (t : Bool) → spare_beside (if t then Some (info_with B h) else Some (info_with A g)) ≡ B → IsAbove (if t then Some (info_with B h) else Some (info_with A g)) number → g.txns < number
    go true s more = absurd cc
    go false s more = more

pub differ : (text : List ℕ) (known : KnownStore) (g h : Head) → IsAbove (newest_among known.a known.b) (last_number text known) → (published_by text known).a ≡ Open g → (published_by text known).b ≡ Open h → g.txns ≡ h.txns → ⊥
differ text known g h above is_a is_b same = go (spare_by known) refl is_a is_b
  where
    one : (x y : Head) → Open x ≡ Open y → x ≡ y
    one x y e = cc

    go : (slot : SlotName) → spare_by known ≡ slot
        → (by_slot slot (record known { a = Open (published_head text known); form = Later (last_number text known); batches = [] }) (record known { b = Open (published_head text known); form = Later (last_number text known); batches = [] })).a ≡ Open g
        → (by_slot slot (record known { a = Open (published_head text known); form = Later (last_number text known); batches = [] }) (record known { b = Open (published_head text known); form = Later (last_number text known); batches = [] })).b ≡ Open h → ⊥
    go A spare first second =
        let less : h.txns < last_number text known = above-b known.a h (last_number text known) (ap (λ (b : SlotState). spare_beside (newest_among known.a b)) (sym second) ∙ spare) (subst (λ (b : SlotState). IsAbove (newest_among known.a b) (last_number text known)) second above) in
        absurd (omega (arith, less, same, ap (λ (x : Head). x.txns) (one (published_head text known) g first)))
    go B spare first second =
        let less : g.txns < last_number text known = above-a g known.b (last_number text known) (ap (λ (a : SlotState). spare_beside (newest_among a known.b)) (sym first) ∙ spare) (subst (λ (a : SlotState). IsAbove (newest_among a known.b) (last_number text known)) first above) in
        absurd (omega (arith, less, same, ap (λ (x : Head). x.txns) (one (published_head text known) h second)))
