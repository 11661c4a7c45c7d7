-- What the devices stand for: which histories they may stand for, and how what is stored goes on in these.
use Rattle.std.proofs.Common.{◌≡◌, ◌∙◌, inl, inr, ◌⊎◌, ⊎_elim, ℕ, ◌≤◌, ◌<◌, ◌+◌, ◌-◌, List, [], ◌∷◌, ◌++◌, length, take, drop, Option, Some, None, Result, Ok, Err, refl, sym, ap, ap₂, subst, arith, append_assoc}
use Rattle.std.specs.Prelude.{Bool, true, false, nat_lt, if◌then◌else◌, eqb}
use Rattle.std.specs.FinMap.{empty}
use Rattle.std.proofs.lemmas.Bool.{eqb-true}
use Rattle.std.proofs.lemmas.List.{length-append, length-drop, length-take-le, take_at, take-append-le, take-append-drop, take-take}
use Rattle.std.proofs.Math.Seq.{drop-append-add}
use Rattle.pac_value.specs.Expressions.{◌>>=◌}
use Rattle.pac_value.specs.State.{Tables}
use Rattle.pac_ops.specs.declared.note.Note.{Note}
use Rattle.pac_ops.specs.declared.transaction.Txn.{Txn}
use Rattle.pac_outside.specs.Devices.{log_at}
use Rattle.pac_outside.specs.GateByte.{IsShut, IsOpen}
use Rattle.pac_outside.specs.declared.devices.LogName.{LogName}
use Rattle.pac_types.specs.declared.procedure.Proc.{Proc}
use Rattle.pac_types.specs.declared.table.Table.{Table}
use Rattle.pac_types.specs.Execution.{serial}
use Rattle.pac_types.specs.Fits.{FitTables}
use Rattle.pac_types.specs.Typing.{CatalogueState}
use Rattle.pac_types.specs.CatalogueText.{HasCatalogue}
use Rattle.pac_types.proofs.ExecutionLemmas.{serial-parts}
use Rattle.pac_types.proofs.TypingLemmas.{tables_few}
use Rattle.pac_log.specs.declared.header.Header.{Header}
use Rattle.pac_log.specs.Logs.{base_in, base_of, header_with, number_after, HoldsLog, all_txns}
use Rattle.pac_log.proofs.OneGate.{few, begun}
use Rattle.pac_log.proofs.OneLog.{one_log}
use Rattle.pac_check.specs.declared.damage.SlotFault.{SlotFault}
use Rattle.pac_check.specs.declared.head.Head.{Head}
use Rattle.pac_check.specs.declared.head.SlotForm.{SlotForm}
use Rattle.pac_check.specs.declared.info.SlotInfo.{SlotInfo}
use Rattle.pac_check.specs.declared.info.SlotName.{SlotName}
use Rattle.pac_check.specs.declared.info.SlotName.TheVariants.{A, B}
use Rattle.pac_check.specs.declared.state.SlotState.{SlotState}
use Rattle.pac_check.specs.declared.state.SlotState.TheVariants.{Empty, Closed, Open}
use Rattle.pac_check.specs.Checkpoints.{Checkpoint, segment_in}
use Rattle.pac_check.specs.Saved.{checkpoint_of}
use Rattle.pac_check.specs.SlotStates.{by_slot, info_of, newest_among, slot_read, with_more, HoldsRows, IsSlotFront, IsSlot}
use Rattle.pac_check.proofs.FrontLemmas.{front_of_slot}
use Rattle.pac_check.proofs.OnceLemmas.{one-checkpoint, one-state}
use Rattle.pac_check.proofs.SlotLemmas.{read_held}
use Rattle.pac_store.specs.Images.{Images}
use Rattle.pac_store.specs.Stored.{Stored, IsPlaced, IsStored, AreNewest, active_among}
use Rattle.pac_store.specs.Stands.{EndsWith, HoldsPrefix, IsHistory, HasSaved, HoldsSaved, IsShutOrPrefix, StandsFor}
use Rattle.pac_store.specs.Prefixes.{ContinuesPrefix}

-- ---- a prefix of the history

-- the first n of a longer list
pub take-more : {T : Type 0} (n : ℕ) (xs ys : List T) → n ≤ length xs → take n (xs ++ ys) ≡ take n xs
take-more n xs ys le = take-append-le n xs ys le

-- what is left after n of a list, where its front has no more
pub drop-past : {T : Type 0} (n : ℕ) (xs ys : List T) → length xs ≤ n → drop n (xs ++ ys) ≡ drop (n - length xs) ys
drop-past {T} n xs ys le =
    let parts : n ≡ length xs + (n - length xs) = omega (arith, le) in
    ap (λ (k : ℕ). drop k (xs ++ ys)) parts ∙ drop-append-add xs ys (n - length xs)

-- a checkpoint of a prefix is one of the longer history's
pub prefix-longer : (catalogue : CatalogueState) (history more : List Txn) (most : ℕ) (state : SlotState) (image : List ℕ) → most ≤ length history → IsShutOrPrefix catalogue history most state image → IsShutOrPrefix catalogue (history ++ more) most state image
prefix-longer catalogue history more most Empty image le is = is
prefix-longer catalogue history more most Closed image le is = is
prefix-longer catalogue history more most (Open head) image le is = record {
  held = is.held;
  fit = is.fit;
  rows = is.rows;
  within = is.within;
  ends = subst (λ (l : List Txn). EndsWith catalogue l is.held) (sym (take-more head.txns history more (omega (arith, is.within, le)))) is.ends;
}

-- where more transactions are there, it is one of no more than these
pub prefix-within : (catalogue : CatalogueState) (history : List Txn) (most more : ℕ) (state : SlotState) (image : List ℕ) → most ≤ more → IsShutOrPrefix catalogue history most state image → IsShutOrPrefix catalogue history more state image
prefix-within catalogue history most more Empty image le is = is
prefix-within catalogue history most more Closed image le is = is
prefix-within catalogue history most more (Open head) image le is = record { held = is.held; fit = is.fit; rows = is.rows; within = omega (arith, is.within, le); ends = is.ends }

-- ---- the transactions of the active segment in the history

module _ (text : List ℕ) (catalogue : CatalogueState) (history : List Txn) (least : ℕ) (images : Images) (is : StandsFor text catalogue history least images) where
  abbrev the_header : Header
  the_header = header_with is.form text

  abbrev so_far : List Txn
  so_far = is.earlier ++ all_txns is.batches

  abbrev last : ℕ
  last = number_after the_header is.batches

  pub so-many : length so_far ≡ last
  so-many = omega (arith, is.before, length-append is.earlier (all_txns is.batches))

  pub history-parts : history ≡ so_far ++ is.later
  history-parts = is.split ∙ sym (append_assoc is.earlier (all_txns is.batches) is.later)

  pub last-within : last ≤ length history
  last-within = omega (arith, so-many, ap (λ (h : List Txn). length h) history-parts, length-append so_far is.later)

  pub take-last : take last history ≡ so_far
  take-last = ap (λ (h : List Txn). take last h) history-parts ∙ take_at so_far is.later last so-many

-- ---- more and fewer

pub fewer : (text : List ℕ) (catalogue : CatalogueState) (history : List Txn) (least lesser : ℕ) (images : Images) → lesser ≤ least → StandsFor text catalogue history least images → StandsFor text catalogue history lesser images
fewer text catalogue history least lesser images le is = record {
  executes = is.executes;
  form = is.form;
  batches = is.batches;
  a = is.a;
  b = is.b;
  slot_a = is.slot_a;
  slot_b = is.slot_b;
  log = is.log;
  placed = is.placed;
  earlier = is.earlier;
  later = is.later;
  before = is.before;
  split = is.split;
  enough = omega (arith, le, is.enough);
}

fewer-here : (catalogue : CatalogueState) (saved lesser : ℕ) (image : List ℕ) → lesser ≤ saved → HasSaved catalogue saved image → HasSaved catalogue lesser image
fewer-here catalogue saved lesser image le has = record { checkpoint = has.checkpoint; holds = has.holds; enough = omega (arith, le, has.enough) }

pub fewer-saved : (catalogue : CatalogueState) (saved lesser : ℕ) (images : Images) → lesser ≤ saved → HoldsSaved catalogue saved images → HoldsSaved catalogue lesser images
fewer-saved catalogue saved lesser images le (inl none) = inl (omega (arith, le, none))
fewer-saved catalogue saved lesser images le (inr (inl a)) = inr (inl (fewer-here catalogue saved lesser images.slot_a le a))
fewer-saved catalogue saved lesser images le (inr (inr b)) = inr (inr (fewer-here catalogue saved lesser images.slot_b le b))

pub longer : (text : List ℕ) (catalogue : CatalogueState) (history more : List Txn) (least : ℕ) (images : Images) → IsHistory catalogue (history ++ more) → StandsFor text catalogue history least images → StandsFor text catalogue (history ++ more) least images
longer text catalogue history more least images executes is = record {
  executes = executes;
  form = is.form;
  batches = is.batches;
  a = is.a;
  b = is.b;
  slot_a = prefix-longer catalogue history more _ is.a images.slot_a (last-within text catalogue history least images is) is.slot_a;
  slot_b = prefix-longer catalogue history more _ is.b images.slot_b (last-within text catalogue history least images is) is.slot_b;
  log = is.log;
  placed = is.placed;
  earlier = is.earlier;
  later = is.later ++ more;
  before = is.before;
  split = ap (λ (h : List Txn). h ++ more) is.split ∙ append_assoc is.earlier (all_txns is.batches ++ is.later) more ∙ ap (λ (h : List Txn). is.earlier ++ h) (append_assoc (all_txns is.batches) is.later more);
  enough = is.enough;
}

-- ---- one checkpoint

-- so few tables that their number fits its field
pub few-tables : (text : List ℕ) (catalogue : CatalogueState) → HasCatalogue text catalogue → length catalogue.tables < 65536
few-tables text catalogue has = omega (arith, tables_few catalogue (has.tree, (text, has.reads), has.typed))

-- a slot holds rows of one state of the tables
one-saved : (tables : List Table) → length tables < 65536 → (image : List ℕ) (c d : Head) (s t : Tables) → FitTables tables s → FitTables tables t → HoldsRows tables c s image → HoldsRows tables d t image → (c ≡ d) × (s ≡ t)
one-saved tables few image c d s t fits_s fits_t first second =
    let same = one-checkpoint tables few image (checkpoint_of (length tables) c s) (checkpoint_of (length tables) d t) first second in
    (ap (λ (x : Checkpoint). x.head) same, one-state tables s t fits_s fits_t (ap (λ (x : Checkpoint). x.tables) same))

-- a gate that is open isn't shut
open-shut : (piece image : List ℕ) → IsOpen [] piece image → IsShut [] image → ⊥
open-shut piece image opens shut = shut.shut (heads (sym shut.split ∙ opens.split))
  where
    heads : {x y : ℕ} {xs ys : List ℕ} → x ∷ xs ≡ y ∷ ys → x ≡ y
    heads e = cc

-- the newest of two is one of them
pub newest-one : (x y : Option SlotInfo) (info : SlotInfo) → with_more x y ≡ Some info → (x ≡ Some info) ⊎ (y ≡ Some info)
newest-one None y info e = inr e
newest-one (Some a) None info e = inl e
newest-one (Some a) (Some b) info e = go (nat_lt a.txns b.txns) e
  where
    go : (t : Bool) → (if t then Some b else Some a) ≡ Some info → (Some a ≡ Some info) ⊎ (Some b ≡ Some info)
    go true h = inr h
    go false h = inl h

-- ---- the states of the slots

shut-read : (tables : List Table) (image : List ℕ) → IsShut [] image → slot_read tables image ≡ Ok Closed
shut-read tables image shut = ap (slot_read tables) shut.split ∙ go (eqb shut.gate 1) refl
  where
    go : (t : Bool) → eqb shut.gate 1 ≡ t → slot_read tables (shut.gate ∷ shut.rest) ≡ Ok Closed
    go true e = absurd (shut.shut (eqb-true shut.gate 1 e))
    go false e = rw e refl

-- a slot in a state is read so
pub read-state : (catalogue : CatalogueState) → length catalogue.tables < 65536 → (history : List Txn) (most : ℕ) (state : SlotState) (image : List ℕ) → IsShutOrPrefix catalogue history most state image → IsSlot catalogue.tables state image
read-state catalogue few_tables history most Empty image is = absurd is
read-state catalogue few_tables history most Closed image is = shut-read catalogue.tables image is
read-state catalogue few_tables history most (Open head) image is = read_held catalogue.tables few_tables image (checkpoint_of (length catalogue.tables) head is.held) is.rows

-- an image begins as one state
pub one-front : (image : List ℕ) (a b : SlotState) → IsSlotFront a image → IsSlotFront b image → a ≡ b
one-front image a b is other = go (sym is ∙ other)
  where
    go : ◌≡◌ {A = Result SlotState SlotFault} (Ok a) (Ok b) → a ≡ b
    go e = cc

-- an open slot by its name
pub same-info : (slot : SlotName) (state : SlotState) (info : SlotInfo) → info_of slot state ≡ Some info → (head : Head) × (state ≡ Open head) × (info ≡ record { slot = slot; txns = head.txns; place = head.place; segment = segment_in head.form })
same-info slot Empty info e = absurd cc
same-info slot Closed info e = absurd cc
same-info slot (Open head) info e = (head, refl, cc)

abbrev pub head_by : SlotInfo → SlotForm → Head
head_by info form = record { txns = info.txns; place = info.place; form = form }

-- the newest slot has a checkpoint of a prefix
pub record IsNewestPrefix (catalogue : CatalogueState) (history : List Txn) (most : ℕ) (info : SlotInfo) (image : List ℕ) : Type 0 where
  pub form : SlotForm
  pub names : info.segment ≡ segment_in form
  pub prefix : HoldsPrefix catalogue history most (head_by info form) image

module _ (catalogue : CatalogueState) (history : List Txn) (most : ℕ) (a b : SlotState) (images : Images) (is_a : IsShutOrPrefix catalogue history most a images.slot_a) (is_b : IsShutOrPrefix catalogue history most b images.slot_b) where
  of-slot : (slot : SlotName) (state : SlotState) (image : List ℕ) → IsShutOrPrefix catalogue history most state image → (info : SlotInfo) → info_of slot state ≡ Some info → (info.slot ≡ slot) × IsNewestPrefix catalogue history most info image
  of-slot slot state image is info e =
      let found = same-info slot state info e in
      let head : Head = found.0 in
      let whole : IsShutOrPrefix catalogue history most (Open head) image = subst (λ (s : SlotState). IsShutOrPrefix catalogue history most s image) found.1 is in (
        ap (λ (i : SlotInfo). i.slot) found.2,
        record {
          form = head.form;
          names = ap (λ (i : SlotInfo). i.segment) found.2;
          prefix = subst (λ (h : Head). HoldsPrefix catalogue history most h image) (ap₂ (λ (n p : ℕ). record { txns = n; place = p; form = head.form }) (sym (ap (λ (i : SlotInfo). i.txns) found.2)) (sym (ap (λ (i : SlotInfo). i.place) found.2))) whole;
        },
      )

  pub newest-prefix : (info : SlotInfo) → newest_among a b ≡ Some info → IsNewestPrefix catalogue history most info (by_slot info.slot images.slot_a images.slot_b)
  newest-prefix info e = ⊎_elim (λ first. here A images.slot_a refl (of-slot A a images.slot_a is_a info first)) (λ second. here B images.slot_b refl (of-slot B b images.slot_b is_b info second)) (newest-one (info_of A a) (info_of B b) info e)
    where
      here : (slot : SlotName) (image : List ℕ) → image ≡ by_slot slot images.slot_a images.slot_b → (info.slot ≡ slot) × IsNewestPrefix catalogue history most info image → IsNewestPrefix catalogue history most info (by_slot info.slot images.slot_a images.slot_b)
      here slot image at found = subst (λ (i : List ℕ). IsNewestPrefix catalogue history most info i) (at ∙ ap (λ (s : SlotName). by_slot s images.slot_a images.slot_b) (sym found.0)) found.1

-- ---- what is stored goes on

-- where the whole ends, its prefix does
pub prefix-ends : (procs : List Proc) (n : ℕ) (xs ys : List Txn) (t u : Tables) → serial procs n (xs ++ ys) t ≡ Ok u → (v : Tables) × (serial procs n xs t ≡ Ok v)
prefix-ends procs n xs ys t u e = go (serial procs n xs t) refl
  where
    go : (r : Result Tables Note) → serial procs n xs t ≡ r → (v : Tables) × (serial procs n xs t ≡ Ok v)
    go (Ok v) is = (v, is)
    go (Err note) is =
        let no : ◌≡◌ {A = Result Tables Note} (Err note) (Ok u) = ap (λ (r : Result Tables Note). r >>= λ w. serial procs (n + length xs) ys w) (sym is) ∙ sym (serial-parts procs n xs ys t) ∙ e in
        absurd cc

-- after a prefix goes on what is after it
pub after-prefix : (procs : List Proc) (k : ℕ) (txns : List Txn) (base end : Tables) → k ≤ length txns → serial procs 1 (take k txns) empty ≡ Ok base → serial procs 1 txns empty ≡ Ok end → serial procs (k + 1) (drop k txns) base ≡ Ok end
after-prefix procs k txns base end le prefix whole =
    let counted : 1 + length (take k txns) ≡ k + 1 = omega (arith, length-take-le k txns le) in
    ap (λ (n : ℕ). serial procs n (drop k txns) base) (sym counted)
    ∙ sym (ap (λ (r : Result Tables Note). r >>= λ u. serial procs (1 + length (take k txns)) (drop k txns) u) prefix)
    ∙ sym (serial-parts procs 1 (take k txns) (drop k txns) empty)
    ∙ ap (λ (l : List Txn). serial procs 1 l empty) (take-append-drop k txns)
    ∙ whole

-- the tables of the newest slot are those of the prefix that it says
record IsPrefixTables (catalogue : CatalogueState) (history : List Txn) (most : ℕ) (number : ℕ) (base : Tables) : Type 0 where
  within : number ≤ most
  ends : EndsWith catalogue (take number history) base

prefix-tables : (catalogue : CatalogueState) → length catalogue.tables < 65536 → (history : List Txn) (most : ℕ) (a b : SlotState) (images : Images)
    → IsShutOrPrefix catalogue history most a images.slot_a → IsShutOrPrefix catalogue history most b images.slot_b
    → (newest : Option SlotInfo) → newest_among a b ≡ newest → (base : Tables) (number : ℕ) → AreNewest catalogue images.slot_a images.slot_b newest base number → IsPrefixTables catalogue history most number base
prefix-tables catalogue few_tables history most a b images is_a is_b None e base number are = record {
  within = omega (arith, are.1);
  ends = subst (λ (n : ℕ). EndsWith catalogue (take n history) base) (sym are.1) (ap (λ (t : Tables). the_end t) (sym are.0));
}
  where
    the_end : Tables → Result Tables Note
    the_end t = Ok t
prefix-tables catalogue few_tables history most a b images is_a is_b (Some info) e base number are =
    let found = newest-prefix catalogue history most a b images is_a is_b info e in
    let same = one-saved catalogue.tables few_tables (by_slot info.slot images.slot_a images.slot_b) (head_by info found.form) (head_by info are.1.0) found.prefix.held base found.prefix.fit are.0 found.prefix.rows are.1.2 in
    subst (λ (n : ℕ). IsPrefixTables catalogue history most n base) (sym are.2) (record {
      within = found.prefix.within;
      ends = subst (λ (t : Tables). EndsWith catalogue (take info.txns history) t) same.1 found.prefix.ends;
    })

-- the active segment begins before the newest slot's number
placed-after : (header : Header) (batches : List (List Txn)) (newest : Option SlotInfo) (catalogue : CatalogueState) (a b : List ℕ) (base : Tables) (number : ℕ) → IsPlaced header batches newest → AreNewest catalogue a b newest base number → base_of header ≤ number
placed-after header batches None catalogue a b base number placed are = omega (arith, placed)
placed-after header batches (Some info) catalogue a b base number placed are = omega (arith, begun header batches info.place info.txns placed, are.2)

module _ (text : List ℕ) (catalogue : CatalogueState) (history : List Txn) (least : ℕ) (images : Images) (is : StandsFor text catalogue history least images) where
  pub few-here : length catalogue.tables < 65536
  few-here = few-tables text catalogue is.log.log.accepted.has

  pub front-a : IsSlotFront is.a images.slot_a
  front-a = front_of_slot catalogue.tables is.a images.slot_a (read-state catalogue few-here history _ is.a images.slot_a is.slot_a)

  pub front-b : IsSlotFront is.b images.slot_b
  front-b = front_of_slot catalogue.tables is.b images.slot_b (read-state catalogue few-here history _ is.b images.slot_b is.slot_b)

  abbrev header_here : Header
  header_here = header_with is.form text

  abbrev last_here : ℕ
  last_here = number_after header_here is.batches

  abbrev here_far : List Txn
  here_far = is.earlier ++ all_txns is.batches

  pub goes-on-here : (stored : Stored) → stored.catalogue ≡ catalogue → AreNewest catalogue images.slot_a images.slot_b (newest_among is.a is.b) stored.base stored.number
      → stored.rest ≡ drop (stored.number - base_in is.form) (all_txns is.batches) → ContinuesPrefix catalogue history least stored
  goes-on-here stored same are after =
      let prefix = prefix-tables catalogue few-here history last_here is.a is.b images is.slot_a is.slot_b (newest_among is.a is.b) refl stored.base stored.number are in
      let begins : base_in is.form ≤ stored.number = placed-after header_here is.batches (newest_among is.a is.b) catalogue images.slot_a images.slot_b stored.base stored.number is.placed are in
      let all : stored.number + length stored.rest ≡ last_here = omega (arith, ap (λ (l : List Txn). length l) after, length-drop (stored.number - base_in is.form) (all_txns is.batches), prefix.within, begins) in
      let first : take (stored.number + length stored.rest) history ≡ here_far = ap (λ (n : ℕ). take n history) all ∙ take-last text catalogue history least images is in
      let whole = prefix-ends catalogue.procs 1 here_far is.later empty is.executes.held (ap (λ (h : List Txn). serial catalogue.procs 1 h empty) (sym (history-parts text catalogue history least images is)) ∙ is.executes.ends) in
      let many : stored.number ≤ length here_far = omega (arith, prefix.within, so-many text catalogue history least images is) in
      let base_ends : EndsWith catalogue (take stored.number here_far) stored.base
      = subst (λ (l : List Txn). EndsWith catalogue l stored.base) (sym (ap (λ (l : List Txn). take stored.number l) (sym (take-last text catalogue history least images is)) ∙ take-take stored.number last_here history prefix.within)) prefix.ends in
      let left : drop stored.number here_far ≡ stored.rest
      = drop-past stored.number is.earlier (all_txns is.batches) (omega (arith, is.before, begins)) ∙ ap (λ (n : ℕ). drop (stored.number - n) (all_txns is.batches)) is.before ∙ sym after in
      record {
        same = same;
        held = whole.0;
        enough = subst (λ (n : ℕ). least ≤ n) (sym all) is.enough;
        within = omega (arith, all, last-within text catalogue history least images is);
        ends = ap (λ (h : List Txn). serial catalogue.procs 1 h empty) first ∙ whole.1;
        from_base = ap (λ (l : List Txn). serial catalogue.procs (stored.number + 1) l stored.base) (sym left) ∙ after-prefix catalogue.procs stored.number here_far stored.base whole.0 many base_ends whole.1;
      }

pub goes-on : (text : List ℕ) (catalogue : CatalogueState) (history : List Txn) (least : ℕ) (images : Images) (stored : Stored) → StandsFor text catalogue history least images → IsStored images stored → ContinuesPrefix catalogue history least stored
goes-on text catalogue history least images stored is there =
    let a : is.a ≡ there.a = one-front images.slot_a is.a there.a (front-a text catalogue history least images is) (front_of_slot stored.catalogue.tables there.a images.slot_a there.is_a) in
    let b : is.b ≡ there.b = one-front images.slot_b is.b there.b (front-b text catalogue history least images is) (front_of_slot stored.catalogue.tables there.b images.slot_b there.is_b) in
    let active : active_among is.a is.b ≡ active_among there.a there.b = ap₂ (λ (x y : SlotState). active_among x y) a b in
    let log : HoldsLog (header_with is.form text) catalogue is.batches (log_at (active_among there.a there.b) images) = subst (λ (n : LogName). HoldsLog (header_with is.form text) catalogue is.batches (log_at n images)) active is.log in
    let one = one_log (header_with is.form text) there.header catalogue stored.catalogue is.batches there.batches (log_at (active_among there.a there.b) images) log there.log in
    goes-on-here text catalogue history least images is stored (sym one.1)
    (subst (λ (newest : Option SlotInfo). AreNewest catalogue images.slot_a images.slot_b newest stored.base stored.number) (sym (ap₂ (λ (x y : SlotState). newest_among x y) a b))
    (subst (λ (c : CatalogueState). AreNewest c images.slot_a images.slot_b (newest_among there.a there.b) stored.base stored.number) (sym one.1) there.newest))
    (there.after ∙ ap₂ (λ (h : Header) (bs : List (List Txn)). drop (stored.number - base_of h) (all_txns bs)) (sym one.0) (sym one.2))

-- ---- what stands is stored

newest-tables : (catalogue : CatalogueState) (history : List Txn) (most : ℕ) (a b : SlotState) (images : Images) → IsShutOrPrefix catalogue history most a images.slot_a → IsShutOrPrefix catalogue history most b images.slot_b
    → (newest : Option SlotInfo) → newest_among a b ≡ newest → (base : Tables) × (number : ℕ) × AreNewest catalogue images.slot_a images.slot_b newest base number
newest-tables catalogue history most a b images is_a is_b None e = (empty, 0, (refl, refl))
newest-tables catalogue history most a b images is_a is_b (Some info) e =
    let found = newest-prefix catalogue history most a b images is_a is_b info e in
    (found.prefix.held, info.txns, (found.prefix.fit, (found.form, found.names, found.prefix.rows), refl))

pub is-stored : (text : List ℕ) (catalogue : CatalogueState) (history : List Txn) (least : ℕ) (images : Images) → StandsFor text catalogue history least images → (stored : Stored) × IsStored images stored
is-stored text catalogue history least images is =
    let few_tables = few-tables text catalogue is.log.log.accepted.has in
    let found = newest-tables catalogue history (number_after (header_with is.form text) is.batches) is.a is.b images is.slot_a is.slot_b (newest_among is.a is.b) refl in (
      record { catalogue = catalogue; base = found.0; number = found.1; rest = drop (found.1 - base_in is.form) (all_txns is.batches) },
      record {
        a = is.a;
        b = is.b;
        is_a = read-state catalogue few_tables history _ is.a images.slot_a is.slot_a;
        is_b = read-state catalogue few_tables history _ is.b images.slot_b is.slot_b;
        header = header_with is.form text;
        batches = is.batches;
        log = is.log;
        placed = is.placed;
        newest = found.2;
        after = refl;
      },
    )

-- ---- one store

-- devices stand for one text, one catalogue, one segment, and one list of the segment's transactions
pub one-segment : (s t : List ℕ) (c d : CatalogueState) (h g : List Txn) (k l : ℕ) (images : Images) (is : StandsFor s c h k images) (other : StandsFor t d g l images)
    → (s ≡ t) × (c ≡ d) × (is.form ≡ other.form) × (is.batches ≡ other.batches)
one-segment s t c d h g k l images is other =
    let a : is.a ≡ other.a = one-front images.slot_a is.a other.a (front-a s c h k images is) (front-a t d g l images other) in
    let b : is.b ≡ other.b = one-front images.slot_b is.b other.b (front-b s c h k images is) (front-b t d g l images other) in
    let active : active_among is.a is.b ≡ active_among other.a other.b = ap₂ (λ (x y : SlotState). active_among x y) a b in
    let log : HoldsLog (header_with is.form s) c is.batches (log_at (active_among other.a other.b) images) = subst (λ (n : LogName). HoldsLog (header_with is.form s) c is.batches (log_at n images)) active is.log in
    let one = one_log (header_with is.form s) (header_with other.form t) c d is.batches other.batches (log_at (active_among other.a other.b) images) log other.log in
    (ap (λ (x : Header). x.text) one.0, one.1, ap (λ (x : Header). x.form) one.0, one.2)

-- two histories that devices stand for end with the same tables, where what is stored ends
pub one-end : (s t : List ℕ) (c d : CatalogueState) (h g : List Txn) (k l : ℕ) (images : Images) (stored : Stored) → IsStored images stored → StandsFor s c h k images → StandsFor t d g l images
    → (held : Tables) × EndsWith c (take (stored.number + length stored.rest) h) held × EndsWith d (take (stored.number + length stored.rest) g) held
one-end s t c d h g k l images stored there is other =
    let first = goes-on s c h k images stored is there in
    let second = goes-on t d g l images stored other there in
    let catalogue : d ≡ c = sym second.same ∙ first.same in
    let same : second.held ≡ first.held = one first.held second.held (sym first.from_base ∙ ap (λ (k : CatalogueState). serial k.procs (stored.number + 1) stored.rest stored.base) (sym catalogue) ∙ second.from_base) in
    (first.held, first.ends, subst (λ (u : Tables). EndsWith d (take (stored.number + length stored.rest) g) u) same second.ends)
  where
    one : (a b : Tables) → ◌≡◌ {A = Result Tables Note} (Ok a) (Ok b) → b ≡ a
    one a b e = cc
