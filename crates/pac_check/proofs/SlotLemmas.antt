-- What is read of a slot, and what stands in it.
use Rattle.std.proofs.Common.{◌≡◌, ◌∙◌, ℕ, ◌<◌, Bool, true, false, if◌then◌else◌, eqb, List, [], ◌∷◌, ◌++◌, length, take, drop, Option, Some, None, Result, Ok, Err, refl, sym, ap, ap₂, subst}
use Rattle.std.specs.Prelude.{IfErr, IsErrOf, OnErr}
use Rattle.std.proofs.lemmas.Bool.{eqb-true, eqb-false}
use Rattle.std.proofs.lemmas.List.{take-append-drop}
use Rattle.pac_outside.specs.Disk.{DiskState, DiskHistory, IfKnown, SeenAreBytes}
use Rattle.pac_outside.specs.GateByte.{OneImage}
use Rattle.pac_value.specs.State.{Tables}
use Rattle.pac_types.specs.declared.table.Table.{Table}
use Rattle.pac_bytes.specs.Reading.{Rest, from}
use Rattle.pac_bytes.proofs.Bytes.{IsBytes, IsBytes-drop}
use Rattle.pac_check.specs.declared.damage.SlotFault.{SlotFault}
use Rattle.pac_check.specs.declared.damage.SlotDamageKind.{SlotDamageKind}
use Rattle.pac_check.specs.declared.damage.SlotDamageKind.TheVariants.{Place}
use Rattle.pac_check.specs.declared.errors.SlotError.{SlotError}
use Rattle.pac_check.specs.declared.errors.SlotError.TheVariants.{Damaged}
use Rattle.pac_check.specs.declared.head.Head.{Head}
use Rattle.pac_check.specs.declared.info.SlotInfo.{SlotInfo}
use Rattle.pac_check.specs.declared.info.SlotName.{SlotName}
use Rattle.pac_check.specs.declared.state.SlotState.{SlotState}
use Rattle.pac_check.specs.declared.state.SlotState.TheVariants.{Empty, Closed, Open}
use Rattle.pac_check.specs.Checkpoints.{Checkpoint, KeyedRow}
use Rattle.pac_check.specs.CheckpointReading.{next_checkpoint, head_alone}
use Rattle.pac_check.specs.PieceStates.{PiecesState, WasRead}
use Rattle.pac_check.specs.Replacing.{BeginsAs}
use Rattle.pac_check.specs.SlotStates.{info_with, opened, slot_read, IsSlot, HoldsCheckpoint, HoldsRows, OpensExactly}
use Rattle.pac_check.specs.Saved.{checkpoint_of, rows_of_tables}
use Rattle.pac_check.proofs.CheckpointLemmas.{checkpoint_codec}

-- what is read of a slot after an open gate
abbrev Read : Type 0
Read = Result (Checkpoint × Rest) SlotFault

opened_head : (r : Read) (head : Head) → opened (head_alone r) ≡ Ok (Open head) → (p : Checkpoint × Rest) × (r ≡ Ok p) × (p.0.head ≡ head)
opened_head (Ok p) head e = (p, refl, same p.0.head head e)
  where
    same : (a b : Head) → ◌≡◌ {A = Result SlotState SlotFault} (Ok (Open a)) (Ok (Open b)) → a ≡ b
    same a b h = cc
opened_head (Err fault) head e = absurd cc

never_shut : (r : Read) (state : SlotState) → opened (head_alone r) ≡ Ok state → (head : Head) × (state ≡ Open head)
never_shut (Ok p) state e = (p.0.head, same (Open p.0.head) state e)
  where
    same : (a b : SlotState) → ◌≡◌ {A = Result SlotState SlotFault} (Ok a) (Ok b) → b ≡ a
    same a b h = cc
never_shut (Err fault) state e = absurd cc

same_state : (a b : SlotState) → ◌≡◌ {A = Result SlotState SlotFault} (Ok a) (Ok b) → a ≡ b
same_state a b h = cc

-- a slot in a state begins so
pub begins : (tables : List Table) (state : SlotState) (image : List ℕ) → IsSlot tables state image → BeginsAs state image
begins tables state [] is = subst (λ (s : SlotState). BeginsAs s []) (same_state Empty state is) refl
begins tables state (gate ∷ bytes) is = go (eqb gate 1) refl is
  where
    go : (b : Bool) → eqb gate 1 ≡ b → (if b then opened (head_alone (next_checkpoint tables (record { at = 1; bytes = bytes }))) else Ok Closed) ≡ Ok state → BeginsAs state (gate ∷ bytes)
    go true e h =
        let found = never_shut (next_checkpoint tables (record { at = 1; bytes = bytes })) state h in
        subst (λ (s : SlotState). BeginsAs s (gate ∷ bytes)) (sym found.1) (bytes, ap (λ (g : ℕ). g ∷ bytes) (eqb-true _ _ e))
    go false e h = subst (λ (s : SlotState). BeginsAs s (gate ∷ bytes)) (same_state Closed state h) (record { gate = gate; rest = bytes; split = refl; shut = eqb-false _ _ e })

-- an open slot's image begins with the open gate, and what is read after it
pub open_read : (tables : List Table) (head : Head) (image : List ℕ) → IsSlot tables (Open head) image → (p : Checkpoint × Rest) × (next_checkpoint tables (from image 1) ≡ Ok p) × (p.0.head ≡ head) × (image ≡ 1 ∷ drop 1 image)
open_read tables head [] is = absurd (no is)
  where
    no : ◌≡◌ {A = Result SlotState SlotFault} (Ok Empty) (Ok (Open head)) → ⊥
    no e = cc
open_read tables head (gate ∷ bytes) is = go (eqb gate 1) refl is
  where
    no : ◌≡◌ {A = Result SlotState SlotFault} (Ok Closed) (Ok (Open head)) → ⊥
    no e = cc

    go : (b : Bool) → eqb gate 1 ≡ b → (if b then opened (head_alone (next_checkpoint tables (record { at = 1; bytes = bytes }))) else Ok Closed) ≡ Ok (Open head)
        → (p : Checkpoint × Rest) × (next_checkpoint tables (record { at = 1; bytes = bytes }) ≡ Ok p) × (p.0.head ≡ head) × (gate ∷ bytes ≡ 1 ∷ bytes)
    go true e h = let found = opened_head (next_checkpoint tables (record { at = 1; bytes = bytes })) head h in (found.0, found.1, found.2, ap (λ (g : ℕ). g ∷ bytes) (eqb-true _ _ e))
    go false e h = absurd (no h)

module _ (tables : List Table) (few : length tables < 65536) where
  -- what is read after an open gate stands there
  pub holds_read : (image : List ℕ) (checkpoint : Checkpoint) (rest : Rest) → IsBytes image → image ≡ 1 ∷ drop 1 image → next_checkpoint tables (from image 1) ≡ Ok (checkpoint, rest) → HoldsCheckpoint tables checkpoint image
  holds_read image checkpoint rest are gate read =
      let found = (checkpoint_codec tables few).found (from image 1) checkpoint rest (IsBytes-drop 1 image are) read in
      record { form = found.form; opens = record { rest = rest.bytes; split = gate ∙ ap (λ (l : List ℕ). 1 ∷ l) found.bytes } }

  -- what stands after an open gate is read
  pub read_held : (image : List ℕ) (checkpoint : Checkpoint) → HoldsCheckpoint tables checkpoint image → slot_read tables image ≡ Ok (Open checkpoint.head)
  read_held image checkpoint holds =
      let again = (checkpoint_codec tables few).again checkpoint 1 holds.opens.rest holds.form in
      ap (slot_read tables) holds.opens.split ∙ (rw again refl)

  pub opens_exactly : (image : List ℕ) (state : SlotState) → IsBytes image → IsSlot tables state image → OpensExactly tables state image
  opens_exactly image state are is = record {
    there = λ head same.
        let read = open_read tables head image (subst (λ (s : SlotState). IsSlot tables s image) same is) in
        (read.0.0, holds_read image read.0.0 read.0.1 are read.3 read.1, read.2);
    open_there = λ checkpoint holds. same_state state (Open checkpoint.head) (sym is ∙ read_held image checkpoint holds);
  }

-- ---- over what is known of a disk

-- an image that begins with an open gate
open_image : (image : List ℕ) → take 1 image ≡ 1 ∷ [] → image ≡ 1 ∷ drop 1 image
open_image image e = sym (take-append-drop 1 image) ∙ ap (λ (l : List ℕ). l ++ drop 1 image) e

slot_opened : (tables : List Table) (image : List ℕ) → take 1 image ≡ 1 ∷ [] → (place : ℕ) → place ≡ 1 → (r : Read) → next_checkpoint tables (from image place) ≡ r → slot_read tables image ≡ opened (head_alone r)
slot_opened tables image gate place first r read =
    ap (slot_read tables) (open_image image gate) ∙ ap (λ (q : Read). opened (head_alone q)) (ap (λ (n : ℕ). next_checkpoint tables (from image n)) (sym first) ∙ read)

module _ (tables : List Table) (few : length tables < 65536) where
  -- the checkpoint that was read after an open gate stands there
  pub scanned_known : (known : Option DiskHistory) (old new : PiecesState) (head : Head) (rows : List (List KeyedRow)) → old.place ≡ 1 → IfKnown (λ h. take 1 h.now.seen ≡ 1 ∷ []) known → IfKnown SeenAreBytes known
      → IfKnown (λ h. WasRead h.now.seen old new (record { head = head; tables = rows }) (next_checkpoint tables)) known → IfKnown (λ h. IsSlot tables (Open head) h.now.seen × OpensExactly tables (Open head) h.now.seen) known
  scanned_known None old new head rows first gate are read = tt
  scanned_known (Some h) old new head rows first gate are read =
      let is = slot_opened tables h.now.seen gate old.place first _ read.1 in
      (is, opens_exactly tables few h.now.seen (Open head) are is)

  -- so do the rows that were taken
  pub loaded_known : (known : Option DiskHistory) (old new : PiecesState) (own : Head) (rows : List (List KeyedRow)) (held : Tables) → old.place ≡ 1 → rows_of_tables held (length tables) ≡ rows → IfKnown SeenAreBytes known
      → IfKnown (λ h. WasRead h.now.seen old new (record { head = own; tables = rows }) (next_checkpoint tables)) known → IfKnown (λ h. (head : Head) → IsSlot tables (Open head) h.now.seen → HoldsRows tables head held h.now.seen) known
  loaded_known None old new own rows held first taken are read = tt
  loaded_known (Some h) old new own rows held first taken are read = λ head slot.
      let there = open_read tables head h.now.seen slot in
      let same : there.0.0 ≡ record { head = own; tables = rows } = one there.0 (record { head = own; tables = rows }, from h.now.seen new.place) (sym there.1 ∙ ap (λ (n : ℕ). next_checkpoint tables (from h.now.seen n)) (sym first) ∙ read.1) in
      let is : there.0.0 ≡ checkpoint_of (length tables) head held = ap₂ (λ (a : Head) (b : List (List KeyedRow)). record { head = a; tables = b }) there.2 (ap (λ (c : Checkpoint). c.tables) same ∙ sym taken) in
      subst (λ (c : Checkpoint). HoldsCheckpoint tables c h.now.seen) is (holds_read tables few h.now.seen there.0.0 there.0.1 are there.3 there.1)
    where
      one : (a b : Checkpoint × Rest) → ◌≡◌ {A = Read} (Ok a) (Ok b) → a.0 ≡ b.0
      one a b e = cc

  -- a slot whose head was read has no other
  head_known : (old new : PiecesState) (own head : Head) (rows : List (List KeyedRow)) (h : DiskHistory) → old.place ≡ 1 → WasRead h.now.seen old new (record { head = own; tables = rows }) (next_checkpoint tables)
      → IsSlot tables (Open head) h.now.seen → own ≡ head
  head_known old new own head rows h first read slot =
      let there = open_read tables head h.now.seen slot in
      sym (ap (λ (c : Checkpoint). c.head) (one there.0 (record { head = own; tables = rows }, from h.now.seen new.place) (sym there.1 ∙ ap (λ (n : ℕ). next_checkpoint tables (from h.now.seen n)) (sym first) ∙ read.1))) ∙ there.2
    where
      one : (a b : Checkpoint × Rest) → ◌≡◌ {A = Read} (Ok a) (Ok b) → a.0 ≡ b.0
      one a b e = cc

  -- so what is known of it is known of that head alone
  pub info_known : (known : Option DiskHistory) (old new : PiecesState) (own : Head) (rows : List (List KeyedRow)) (slot : SlotName) (info : SlotInfo) → old.place ≡ 1 → info_with slot own ≡ info
      → IfKnown (λ h. WasRead h.now.seen old new (record { head = own; tables = rows }) (next_checkpoint tables)) known → IfKnown (λ h. (head : Head) → IsSlot tables (Open head) h.now.seen → info_with slot head ≡ info) known
  info_known None old new own rows slot info first is read = tt
  info_known (Some h) old new own rows slot info first is read = λ head here. ap (info_with slot) (sym (head_known old new own head rows h first read here)) ∙ is

  pub other_known : (known : Option DiskHistory) (old new : PiecesState) (own : Head) (rows : List (List KeyedRow)) (slot : SlotName) (info : SlotInfo) → old.place ≡ 1 → (info_with slot own ≡ info → ⊥)
      → IfKnown (λ h. WasRead h.now.seen old new (record { head = own; tables = rows }) (next_checkpoint tables)) known → IfKnown (λ h. (head : Head) → info_with slot head ≡ info → IsSlot tables (Open head) h.now.seen → ⊥) known
  other_known None old new own rows slot info first other read = tt
  other_known (Some h) old new own rows slot info first other read = λ head is here. other (ap (info_with slot) (head_known old new own head rows h first read here) ∙ is)

-- what is said of a head that is refused as another is said of the damage that is told
pub damaged_known : {P Q : Type 0} (r : Result (Unit {0}) SlotError) (slot : SlotName) → IfErr r (λ error. error ≡ Damaged slot 9 Place) → (name : SlotName) (at : ℕ) (kind : SlotDamageKind) → IsErrOf r (Damaged name at kind)
    → (P → Q) → OnErr r P → (name ≡ slot) × Q
damaged_known (Ok done) slot cause name at kind is f other = absurd (no is)
  where
    no : ◌≡◌ {A = Result (Unit {0}) SlotError} (Ok done) (Err (Damaged name at kind)) → ⊥
    no e = cc
damaged_known (Err error) slot cause name at kind is f other = (names is cause, f other)
  where
    names : ◌≡◌ {A = Result (Unit {0}) SlotError} (Err error) (Err (Damaged name at kind)) → error ≡ Damaged slot 9 Place → name ≡ slot
    names e h = cc

-- one image that begins as this slot does
pub begins_one : (tables : List Table) (state : SlotState) (disk : DiskState) → OneImage (IsSlot tables state) disk → OneImage (BeginsAs state) disk
begins_one tables state disk alone = record { one = alone.one; has = begins tables state disk.seen alone.has }
