-- What a slot begins with, as it is read alone and with the rest.
use Rattle.std.proofs.Common.{◌≡◌, ◌≢◌, ◌∙◌, inl, inr, ℕ, ◌+◌, Bool, true, false, if◌then◌else◌, eqb, List, [], ◌∷◌, length, take, drop, Option, Some, None, Result, Ok, Err, refl, sym, ap, ap₂, subst, arith}
use Rattle.std.proofs.lemmas.Bool.{cases_lt, eqb-true, eqb-false}
use Rattle.std.proofs.lemmas.List.{drop_all, length-take, take-append-drop}
use Rattle.pac_value.specs.Expressions.{◌>>=◌}
use Rattle.pac_outside.specs.Disk.{DiskHistory, IfKnown}
use Rattle.pac_types.specs.declared.table.Table.{Table}
use Rattle.pac_bytes.specs.Reading.{Rest, along}
use Rattle.pac_bytes.proofs.Results.{bind_ok}
use Rattle.std.specs.Prelude.{IsErrOf}
use Rattle.pac_value.specs.State.{Tables}
use Rattle.pac_check.specs.declared.damage.SlotDamageKind.{SlotDamageKind}
use Rattle.pac_check.specs.declared.damage.SlotFault.{SlotFault}
use Rattle.pac_check.specs.declared.errors.SlotError.{SlotError}
use Rattle.pac_check.specs.declared.errors.SlotError.TheVariants.{Damaged}
use Rattle.pac_check.specs.declared.info.SlotInfo.{SlotInfo}
use Rattle.pac_check.specs.declared.info.SlotName.{SlotName}
use Rattle.pac_check.specs.declared.info.SlotName.TheVariants.{A, B}
use Rattle.pac_check.specs.declared.slots.Slots.{Slots}
use Rattle.pac_check.specs.Kinds.{slot_fault}
use Rattle.pac_check.specs.declared.head.Head.{Head}
use Rattle.pac_check.specs.declared.state.SlotState.{SlotState}
use Rattle.pac_check.specs.declared.state.SlotState.TheVariants.{Empty, Closed, Open}
use Rattle.pac_check.specs.Checkpoints.{Checkpoint, KeyedRow}
use Rattle.pac_check.specs.CheckpointReading.{next_checkpoint, next_count, next_front, next_head, next_table}
use Rattle.pac_check.specs.SlotStates.{by_slot, front_read, info_of, info_with, newest_of, slot_read, HoldsInfo, HoldsRows, IsSlotFront, IsSlot, OpensExactly}
use Rattle.pac_check.proofs.AlikeLemmas.{slot_placed, whole, HasEnough, Alike}
use Rattle.pac_check.proofs.RowAlikeLemmas.{front_alike}
use Rattle.pac_check.specs.Replacing.{BeginsAs}
use Rattle.pac_check.proofs.NewestLemmas.{of_a, of_b}
use Rattle.pac_check.proofs.ShutLemmas.{shut_slot}

abbrev the_state : SlotState → Result SlotState SlotFault
the_state state = Ok state

-- ---- the front of a head, and of a checkpoint

head_of_fault : (tables : ℕ) (s : Rest) (f : SlotFault) → next_front s ≡ Err f → next_head tables s ≡ Err f
unfolding next_head
head_of_fault tables s f e = rw e refl

head_of_front : (tables : ℕ) (s : Rest) (x : Head × Rest) → next_head tables s ≡ Ok x → (t : Rest) × (next_front s ≡ Ok (x.0, t))
unfolding next_head
head_of_front tables s x e =
    let steps = bind_ok (next_front s) (λ front. next_count tables front.1 >>= λ count. Ok (front.0, count.1)) x e in
    let last = bind_ok (next_count tables steps.0.1) (λ count. Ok (steps.0.0, count.1)) x steps.2 in
    let same : steps.0.0 ≡ x.0 = one (steps.0.0, last.0.1) x last.2 in
    (steps.0.1, steps.1 ∙ ap (λ (h : Head). the_front h steps.0.1) same)
  where
    one : (a b : Head × Rest) → ◌≡◌ {A = Result (Head × Rest) SlotFault} (Ok a) (Ok b) → a.0 ≡ b.0
    one a b h = cc

    the_front : Head → Rest → Result (Head × Rest) SlotFault
    the_front h t = Ok (h, t)

checkpoint_of_fault : (tables : List Table) (s : Rest) (f : SlotFault) → next_front s ≡ Err f → next_checkpoint tables s ≡ Err f
unfolding next_checkpoint
checkpoint_of_fault tables s f e = let head = head_of_fault (length tables) s f e in rw head refl

checkpoint_of_front : (tables : List Table) (s : Rest) (x : Checkpoint × Rest) → next_checkpoint tables s ≡ Ok x → (t : Rest) × (next_front s ≡ Ok (x.0.head, t))
unfolding next_checkpoint
checkpoint_of_front tables s x e =
    let steps = bind_ok (next_head (length tables) s) (λ head. along next_table tables head.1 >>= λ rows. the_checkpoint head.0 rows) x e in
    let last = bind_ok (along next_table tables steps.0.1) (λ rows. the_checkpoint steps.0.0 rows) x steps.2 in
    let same : steps.0.0 ≡ x.0.head = one (record { head = steps.0.0; tables = last.0.0 }, last.0.1) x last.2 in
    let front = head_of_front (length tables) s steps.0 steps.1 in
    (front.0, front.1 ∙ ap (λ (h : Head). the_front h front.0) same)
  where
    the_checkpoint : Head → List (List KeyedRow) × Rest → Result (Checkpoint × Rest) SlotFault
    the_checkpoint head rows = Ok (record { head = head; tables = rows.0 }, rows.1)

    one : (a b : Checkpoint × Rest) → ◌≡◌ {A = Result (Checkpoint × Rest) SlotFault} (Ok a) (Ok b) → a.0.head ≡ b.0.head
    one a b h = cc

    the_front : Head → Rest → Result (Head × Rest) SlotFault
    the_front h t = Ok (h, t)

-- ---- the front of a slot

-- a slot begins as what it is
pub front_of_slot : (tables : List Table) (state : SlotState) (image : List ℕ) → IsSlot tables state image → IsSlotFront state image
front_of_slot tables state [] is = is
front_of_slot tables state (gate ∷ bytes) is = go (eqb gate 1) refl is
  where
    open_front : (r : Result (Checkpoint × Rest) SlotFault) → next_checkpoint tables (record { at = 1; bytes = bytes }) ≡ r → (r >>= λ found. Ok found.0.head) >>= (λ (head : Head). the_state (Open head)) ≡ Ok state
        → (next_front (record { at = 1; bytes = bytes }) >>= λ front. Ok (Open front.0)) ≡ Ok state
    open_front (Ok x) read h = let front = checkpoint_of_front tables (record { at = 1; bytes = bytes }) x read in rw front.1 h
    open_front (Err f) read h = absurd cc

    go : (b : Bool) → eqb gate 1 ≡ b → (if b then ((next_checkpoint tables (record { at = 1; bytes = bytes }) >>= λ found. Ok found.0.head) >>= λ head. Ok (Open head)) else Ok Closed) ≡ Ok state
        → (if b then (next_front (record { at = 1; bytes = bytes }) >>= λ front. Ok (Open front.0)) else Ok Closed) ≡ Ok state
    go true e h = open_front (next_checkpoint tables (record { at = 1; bytes = bytes })) refl h
    go false e h = h

-- a fault there is the slot's first
pub fault_of_front : (tables : List Table) (fault : SlotFault) (image : List ℕ) → front_read image ≡ Err fault → slot_read tables image ≡ Err fault
fault_of_front tables fault [] e = absurd cc
fault_of_front tables fault (gate ∷ bytes) e = go (eqb gate 1) refl e
  where
    found : (r : Result (Head × Rest) SlotFault) → (r >>= λ front. the_state (Open front.0)) ≡ Err fault → r ≡ Err fault
    found (Ok x) h = absurd cc
    found (Err g) h = cc

    go : (b : Bool) → eqb gate 1 ≡ b → (if b then (next_front (record { at = 1; bytes = bytes }) >>= λ front. Ok (Open front.0)) else Ok Closed) ≡ Err fault
        → (if b then ((next_checkpoint tables (record { at = 1; bytes = bytes }) >>= λ found. Ok found.0.head) >>= λ head. Ok (Open head)) else Ok Closed) ≡ Err fault
    go true is h = let read = checkpoint_of_fault tables (record { at = 1; bytes = bytes }) fault (found (next_front (record { at = 1; bytes = bytes })) h) in rw read refl
    go false is h = absurd cc

-- and of a device that is known
pub known_of_front : (tables : List Table) (fault : SlotFault) (known : Option DiskHistory) → IfKnown (λ old. front_read old.now.seen ≡ Err fault) known → IfKnown (λ old. slot_read tables old.now.seen ≡ Err fault) known
known_of_front tables fault None is = tt
known_of_front tables fault (Some old) is = fault_of_front tables fault old.now.seen is

-- no more than 26 bytes are looked at
pub front_within : (image : List ℕ) → front_read (take 26 image) ≡ front_read image
front_within [] = refl
front_within (gate ∷ bytes) = go (eqb gate 1) refl
  where
    more : List ℕ
    more = drop 25 bytes

    piece : Rest
    piece = record { at = 1; bytes = take 25 bytes }

    enough : HasEnough 0 more 25 piece
    enough = elim (cases_lt (length bytes) 25) [
      | inl short ↦ inr (drop_all 25 bytes (omega (arith, short)))
      | inr long ↦ inl (omega (arith, long, length-take 25 bytes))
    ]

    all : whole 0 more piece ≡ record { at = 1; bytes = bytes }
    all = ap (λ (l : List ℕ). the_rest l) (take-append-drop 25 bytes)
      where
        the_rest : List ℕ → Rest
        the_rest l = record { at = 1; bytes = l }

    alike : (r r' : Result (Head × Rest) SlotFault) → Alike 0 more slot_placed 25 piece r r' → (r >>= λ front. the_state (Open front.0)) ≡ (r' >>= λ front. the_state (Open front.0))
    alike (Ok p) r' a = sym (ap (λ (q : Result (Head × Rest) SlotFault). q >>= λ front. the_state (Open front.0)) a.0)
    alike (Err f) r' a = ap (λ (n : ℕ). the_fault n) (let e : f.at ≡ 0 + f.at = omega arith in e) ∙ sym (ap (λ (q : Result (Head × Rest) SlotFault). q >>= λ front. the_state (Open front.0)) a.0)
      where
        the_fault : ℕ → Result SlotState SlotFault
        the_fault n = Err (slot_fault f.kind n)

    go : (b : Bool) → eqb gate 1 ≡ b → (if b then (next_front piece >>= λ front. Ok (Open front.0)) else Ok Closed) ≡ (if b then (next_front (record { at = 1; bytes = bytes }) >>= λ front. Ok (Open front.0)) else Ok Closed)
    go true is = alike (next_front piece) (next_front (record { at = 1; bytes = bytes })) (subst (λ (s : Rest). Alike 0 more slot_placed 25 piece (next_front piece) (next_front s)) all (front_alike 0 more piece enough))
    go false is = refl

-- a slot begins as its front says
pub begins_front : (state : SlotState) (image : List ℕ) → front_read image ≡ Ok state → BeginsAs state image
begins_front Empty [] is = refl
begins_front Closed [] is = absurd cc
begins_front (Open head) [] is = absurd cc
begins_front state (gate ∷ bytes) is = go (eqb gate 1) refl state is
  where
    opened : (r : Result (Head × Rest) SlotFault) (state : SlotState) → (r >>= λ front. the_state (Open front.0)) ≡ Ok state → gate ≡ 1 → BeginsAs state (gate ∷ bytes)
    opened (Ok x) Empty h is_open = absurd cc
    opened (Ok x) Closed h is_open = absurd cc
    opened (Ok x) (Open head) h is_open = (bytes, ap (λ (g : ℕ). g ∷ bytes) is_open)
    opened (Err f) state h is_open = absurd cc

    go : (b : Bool) → eqb gate 1 ≡ b → (state : SlotState) → (if b then (next_front (record { at = 1; bytes = bytes }) >>= λ front. Ok (Open front.0)) else Ok Closed) ≡ Ok state → BeginsAs state (gate ∷ bytes)
    go true is state h = opened (next_front (record { at = 1; bytes = bytes })) state h (eqb-true _ _ is)
    go false is Empty h = absurd cc
    go false is Closed h = record { gate = gate; rest = bytes; split = refl; shut = eqb-false _ _ is }
    go false is (Open head) h = absurd cc

-- ---- over what is known of a disk

pub front_known : (known : Option DiskHistory) (bytes : List ℕ) (state : SlotState) → IfKnown (λ old. bytes ≡ take 26 (drop 0 old.now.seen)) known → front_read bytes ≡ Ok state → IfKnown (λ old. IsSlotFront state old.now.seen) known
front_known None bytes state read is = tt
front_known (Some old) bytes state read is = sym (front_within old.now.seen) ∙ ap front_read (sym read) ∙ is

pub fault_known : (known : Option DiskHistory) (bytes : List ℕ) (fault : SlotFault) → IfKnown (λ old. bytes ≡ take 26 (drop 0 old.now.seen)) known → front_read bytes ≡ Err fault → IfKnown (λ old. front_read old.now.seen ≡ Err fault) known
fault_known None bytes fault read is = tt
fault_known (Some old) bytes fault read is = sym (front_within old.now.seen) ∙ ap front_read (sym read) ∙ is

-- an open slot begins with an open gate
pub gate_of_front : (head : Head) (known : Option DiskHistory) → IfKnown (λ old. IsSlotFront (Open head) old.now.seen) known → IfKnown (λ old. take 1 old.now.seen ≡ 1 ∷ []) known
gate_of_front head None is = tt
gate_of_front head (Some old) is = of_image old.now.seen is
  where
    of_image : (image : List ℕ) → front_read image ≡ Ok (Open head) → take 1 image ≡ 1 ∷ []
    of_image [] e = absurd cc
    of_image (gate ∷ bytes) e = go (eqb gate 1) refl e
      where
        go : (b : Bool) → eqb gate 1 ≡ b → (if b then (next_front (record { at = 1; bytes = bytes }) >>= λ front. Ok (Open front.0)) else Ok Closed) ≡ Ok (Open head) → gate ∷ [] ≡ 1 ∷ []
        go true is h = ap (λ (g : ℕ). g ∷ []) (eqb-true _ _ is)
        go false is h = absurd cc

-- a slot that is read whole is in the state that it begins with
pub whole_known : (tables : List Table) (state : SlotState) (known : Option DiskHistory) → IfKnown (λ old. IsSlotFront state old.now.seen) known → IfKnown (λ old. (head : Head) × IsSlot tables (Open head) old.now.seen × OpensExactly tables (Open head) old.now.seen) known
    → IfKnown (λ old. IsSlot tables state old.now.seen × OpensExactly tables state old.now.seen) known
whole_known tables state None front whole = tt
whole_known tables state (Some old) front whole =
    let same : Open whole.0 ≡ state = one (Open whole.0) state (sym (front_of_slot tables (Open whole.0) old.now.seen whole.1) ∙ front) in
    subst (λ (s : SlotState). IsSlot tables s old.now.seen × OpensExactly tables s old.now.seen) same (whole.1, whole.2)
  where
    one : (a b : SlotState) → ◌≡◌ {A = Result SlotState SlotFault} (Ok a) (Ok b) → a ≡ b
    one a b h = cc

-- a slot that is shut is known by that
pub shut_whole : (tables : List Table) (state : SlotState) → ((head : Head) → state ≢ Open head) → (known : Option DiskHistory) → IfKnown (λ old. IsSlotFront state old.now.seen) known → IfKnown (λ old. IsSlot tables state old.now.seen × OpensExactly tables state old.now.seen) known
shut_whole tables state shut None front = tt
shut_whole tables state shut (Some old) front = shut_slot tables state old.now.seen shut (begins_front state old.now.seen front)

-- a slot that was read whole has some head
pub some_head : (tables : List Table) (head : Head) (known : Option DiskHistory) → IfKnown (λ old. IsSlot tables (Open head) old.now.seen × OpensExactly tables (Open head) old.now.seen) known
    → IfKnown (λ old. (head : Head) × IsSlot tables (Open head) old.now.seen × OpensExactly tables (Open head) old.now.seen) known
some_head tables head None is = tt
some_head tables head (Some old) is = (head, is.0, is.1)

-- the damage that is reported is this fault of this slot
pub same_damage : (known : Option DiskHistory) (slot name : SlotName) (at : ℕ) (kind : SlotDamageKind) (fault : SlotFault) → IsErrOf {T = SlotState} {E = SlotError} (Err (Damaged slot fault.at fault.kind)) (Damaged name at kind)
    → IfKnown (λ old. front_read old.now.seen ≡ Err fault) known → (name ≡ slot) × IfKnown (λ old. front_read old.now.seen ≡ Err (slot_fault kind at)) known
same_damage known slot name at kind fault is found = (names is, subst (λ (f : SlotFault). IfKnown (λ old. front_read old.now.seen ≡ Err f) known) (ap₂ (λ (k : SlotDamageKind) (a : ℕ). slot_fault k a) (kinds is) (places is)) found)
  where
    names : IsErrOf {T = SlotState} {E = SlotError} (Err (Damaged slot fault.at fault.kind)) (Damaged name at kind) → name ≡ slot
    names e = cc

    kinds : IsErrOf {T = SlotState} {E = SlotError} (Err (Damaged slot fault.at fault.kind)) (Damaged name at kind) → fault.kind ≡ kind
    kinds e = cc

    places : IsErrOf {T = SlotState} {E = SlotError} (Err (Damaged slot fault.at fault.kind)) (Damaged name at kind) → fault.at ≡ at
    places e = cc

-- ---- the newest slot

-- the tables that were loaded are those of what is known of it
loaded_info : (tables : List Table) (slot : SlotName) (state : SlotState) (info : SlotInfo) (held : Tables) → info_of slot state ≡ Some info → (known : Option DiskHistory) → IfKnown (λ old. IsSlot tables state old.now.seen) known
    → IfKnown (λ old. (head : Head) → IsSlot tables (Open head) old.now.seen → HoldsRows tables head held old.now.seen) known → IfKnown (λ old. HoldsInfo tables info held old.now.seen) known
loaded_info tables slot Empty info held e known is loaded = absurd cc
loaded_info tables slot Closed info held e known is loaded = absurd cc
loaded_info tables slot (Open head) info held e None is loaded = tt
loaded_info tables slot (Open head) info held e (Some old) is loaded = subst (λ (i : SlotInfo). HoldsInfo tables i held old.now.seen) (same e) (head.form, refl, loaded head is)
  where
    same : Some (info_with slot head) ≡ Some info → info_with slot head ≡ info
    same h = cc

pub loaded_a : (tables : List Table) (slots : Slots) (info found : SlotInfo) (held : Tables) → newest_of slots ≡ Some info → newest_of slots ≡ Some found → found.slot ≡ A → (a b : Option DiskHistory) → IfKnown (λ old. IsSlot tables slots.a old.now.seen) a
    → IfKnown (λ old. (head : Head) → IsSlot tables (Open head) old.now.seen → HoldsRows tables head held old.now.seen) a → IfKnown (λ old. HoldsInfo tables info held old.now.seen) (by_slot info.slot a b)
loaded_a tables slots info found held newest is at a b known loaded =
    let same : info ≡ found = one (sym newest ∙ is) in
    let in_a : info.slot ≡ A = ap (λ (i : SlotInfo). i.slot) same ∙ at in
    subst (λ (s : SlotName). IfKnown (λ old. HoldsInfo tables info held old.now.seen) (by_slot s a b)) (sym in_a) (loaded_info tables A slots.a info held (of_a slots.a slots.b info newest in_a) a known loaded)
  where
    one : Some info ≡ Some found → info ≡ found
    one e = cc

pub loaded_b : (tables : List Table) (slots : Slots) (info found : SlotInfo) (held : Tables) → newest_of slots ≡ Some info → newest_of slots ≡ Some found → found.slot ≡ B → (a b : Option DiskHistory) → IfKnown (λ old. IsSlot tables slots.b old.now.seen) b
    → IfKnown (λ old. (head : Head) → IsSlot tables (Open head) old.now.seen → HoldsRows tables head held old.now.seen) b → IfKnown (λ old. HoldsInfo tables info held old.now.seen) (by_slot info.slot a b)
loaded_b tables slots info found held newest is at a b known loaded =
    let same : info ≡ found = one (sym newest ∙ is) in
    let in_b : info.slot ≡ B = ap (λ (i : SlotInfo). i.slot) same ∙ at in
    subst (λ (s : SlotName). IfKnown (λ old. HoldsInfo tables info held old.now.seen) (by_slot s a b)) (sym in_b) (loaded_info tables B slots.b info held (of_b slots.a slots.b info newest in_b) b known loaded)
  where
    one : Some info ≡ Some found → info ≡ found
    one e = cc

-- of a slot that stands as it was read no other head is read
not_other : (tables : List Table) (slot : SlotName) (state : SlotState) (info : SlotInfo) → info_of slot state ≡ Some info → (known : Option DiskHistory) → IfKnown (λ old. IsSlot tables state old.now.seen) known
    → IfKnown (λ old. (head : Head) → info_with slot head ≡ info → IsSlot tables (Open head) old.now.seen → ⊥) known → IfKnown (λ old. ⊥) known
not_other tables slot Empty info e known is other = absurd cc
not_other tables slot Closed info e known is other = absurd cc
not_other tables slot (Open head) info e None is other = tt
not_other tables slot (Open head) info e (Some old) is other = other head (same e) is
  where
    same : Some (info_with slot head) ≡ Some info → info_with slot head ≡ info
    same h = cc

pub not_other_a : (tables : List Table) (slots : Slots) (found : SlotInfo) → newest_of slots ≡ Some found → found.slot ≡ A → (a : Option DiskHistory) → IfKnown (λ old. IsSlot tables slots.a old.now.seen) a
    → IfKnown (λ old. (head : Head) → info_with found.slot head ≡ found → IsSlot tables (Open head) old.now.seen → ⊥) a → IfKnown (λ old. ⊥) a
not_other_a tables slots found newest at a known other =
    not_other tables A slots.a found (of_a slots.a slots.b found newest at) a known (subst (λ (s : SlotName). IfKnown (λ old. (head : Head) → info_with s head ≡ found → IsSlot tables (Open head) old.now.seen → ⊥) a) at other)

pub not_other_b : (tables : List Table) (slots : Slots) (found : SlotInfo) → newest_of slots ≡ Some found → found.slot ≡ B → (b : Option DiskHistory) → IfKnown (λ old. IsSlot tables slots.b old.now.seen) b
    → IfKnown (λ old. (head : Head) → info_with found.slot head ≡ found → IsSlot tables (Open head) old.now.seen → ⊥) b → IfKnown (λ old. ⊥) b
not_other_b tables slots found newest at b known other =
    not_other tables B slots.b found (of_b slots.a slots.b found newest at) b known (subst (λ (s : SlotName). IfKnown (λ old. (head : Head) → info_with s head ≡ found → IsSlot tables (Open head) old.now.seen → ⊥) b) at other)
