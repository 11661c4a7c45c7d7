-- What is read in the bytes that are held is read in the image of the device.
use Rattle.std.proofs.Common.{◌≡◌, ◌∙◌, ◌⊎◌, inl, inr, ℕ, ◌+◌, ◌-◌, ◌≤◌, ◌<◌, Bool, true, false, leb, List, [], ◌++◌, length, take, drop, min, Option, Some, None, Result, Ok, Err, OnOk, refl, sym, ap, ap₂, subst, arith, append_assoc}
use Rattle.std.specs.Prelude.{IsErrOf}
use Rattle.std.specs.Int.{w64}
use Rattle.std.proofs.lemmas.Bool.{leb-true, leb-false}
use Rattle.std.proofs.lemmas.List.{length-append, length-drop, length-map, length-take, take-append-drop, drop_at, drop-drop, drop-append-le, nil_from_length}
use Rattle.pac_outside.specs.Disk.{DiskHistory, IfKnown}
use Rattle.pac_value.specs.declared.limits.TheConstants.{MAX_COLUMNS}
use Rattle.pac_value.specs.declared.values.Key.{Key}
use Rattle.pac_types.specs.declared.table.Column.{Column}
use Rattle.pac_types.specs.declared.table.Table.{Table}
use Rattle.pac_bytes.specs.Reading.{Rest, from}
use Rattle.pac_bytes.proofs.Results.{ok_same}
use Rattle.pac_check.specs.declared.damage.SlotFault.{SlotFault}
use Rattle.pac_check.specs.declared.damage.CheckpointError.{CheckpointError}
use Rattle.pac_check.specs.declared.damage.CheckpointError.TheVariants.{Fault}
use Rattle.pac_check.specs.declared.limits.TheConstants.{ITEM_LEN, PIECE_LEN}
use Rattle.pac_check.specs.Kinds.{slot_fault}
use Rattle.pac_check.specs.PieceStates.{PiecesState, AreOfImage, HasItem, WasRead, HasFault}
use Rattle.pac_check.specs.CheckpointReading.{slot_number, next_head, next_row}
use Rattle.pac_check.proofs.AlikeLemmas.{HasEnough, Alike, slot_placed, whole}
use Rattle.pac_check.proofs.RowAlikeLemmas.{row_room, wide_alike, head_alike, row_alike}

err_same : {A : Type 0} (f g : SlotFault) → ◌≡◌ {A = Result A SlotFault} (Err f) (Err g) → f ≡ g
err_same f g e = cc

pub stop_same : {A : Type 0} (a b : SlotFault) → IsErrOf {T = A} {E = CheckpointError} (Err (Fault a)) (Fault b) → a ≡ b
stop_same a b e = cc

-- a fault of one answer, as one of another
pub stop_again : {A B : Type 0} (stop : CheckpointError) (fault : SlotFault) → IsErrOf {T = A} {E = CheckpointError} (Err stop) (Fault fault) → IsErrOf {T = B} {E = CheckpointError} (Err stop) (Fault fault)
stop_again stop fault e = cc

-- after that many bytes of the pieces
abbrev pub passed_by : ℕ → PiecesState → PiecesState
passed_by n pieces = record { place = pieces.place + n; bytes = drop n pieces.bytes; len = pieces.len }

-- a reading that looks at no more than n bytes
abbrev pub LooksAt : {A : Type 0} → ℕ → (Rest → Result (A × Rest) SlotFault) → Type 0
LooksAt n read = (base : ℕ) (more : List ℕ) (s : Rest) → HasEnough base more n s → Alike base more slot_placed n s (read s) (read (whole base more s))

module _ {A : Type 0} (n : ℕ) (read : Rest → Result (A × Rest) SlotFault) (looks : LooksAt n read) where
  -- what is read of bytes ends no further than they do
  pub end_within : (bytes : List ℕ) (found : A) (end : ℕ) → read (from bytes 0) ≡ Ok (found, from bytes end) → end ≤ length bytes
  end_within bytes found end e = go (read (from bytes 0)) (read (whole 0 [] (from bytes 0))) (looks 0 [] (from bytes 0) (inr refl)) e
    where
      go : (r r' : Result (A × Rest) SlotFault) → Alike 0 [] slot_placed n (from bytes 0) r r' → r ≡ Ok (found, from bytes end) → end ≤ length bytes
      go (Ok p) r' a e =
          let is : p ≡ (found, from bytes end) = ok_same {F = SlotFault} p (found, from bytes end) e in
          let sums : end + length (drop end bytes) ≡ 0 + length bytes = subst (λ (q : A × Rest). q.1.at + length q.1.bytes ≡ 0 + length bytes) is a.1 in
          omega (arith, sums, length-drop end bytes)
      go (Err f) r' a e = absurd cc

  -- and so does a fault
  pub fault_within : (bytes : List ℕ) (fault : SlotFault) → read (from bytes 0) ≡ Err fault → fault.at ≤ length bytes
  fault_within bytes fault e = go (read (from bytes 0)) (read (whole 0 [] (from bytes 0))) (looks 0 [] (from bytes 0) (inr refl)) e
    where
      go : (r r' : Result (A × Rest) SlotFault) → Alike 0 [] slot_placed n (from bytes 0) r r' → r ≡ Err fault → fault.at ≤ length bytes
      go (Ok p) r' a e = absurd cc
      go (Err f) r' a e = subst (λ (g : SlotFault). g.at ≤ length bytes) (err_same {A = A × Rest} f fault e) (omega (arith, a.1))

  module _ (few : n ≤ ITEM_LEN) (image : List ℕ) (pieces : PiecesState) (of : AreOfImage image pieces) (item : HasItem pieces) where
    enough : HasEnough pieces.place of.rest n (from pieces.bytes 0)
    enough = go item
      where
        none_left : pieces.len ≤ pieces.place + length pieces.bytes → of.rest ≡ []
        none_left le = nil_from_length of.rest (omega (arith, le, of.len, ap (λ (l : List ℕ). length l) of.split, length-append pieces.bytes of.rest, length-drop pieces.place image))

        go : HasItem pieces → HasEnough pieces.place of.rest n (from pieces.bytes 0)
        go (inl long) = inl (omega (arith, few, long))
        go (inr le) = inr (none_left le)

    all : whole pieces.place of.rest (from pieces.bytes 0) ≡ from image pieces.place
    all = ap₂ (λ (n : ℕ) (l : List ℕ). the_rest n l) (omega arith) (sym of.split)
      where
        the_rest : ℕ → List ℕ → Rest
        the_rest n l = record { at = n; bytes = l }

    alike : Alike pieces.place of.rest slot_placed n (from pieces.bytes 0) (read (from pieces.bytes 0)) (read (from image pieces.place))
    alike = subst (λ (s : Rest). Alike pieces.place of.rest slot_placed n (from pieces.bytes 0) (read (from pieces.bytes 0)) (read s)) all (looks pieces.place of.rest (from pieces.bytes 0) enough)

    -- what is left after it
    after : (end : ℕ) → end ≤ length pieces.bytes → drop (pieces.place + end) image ≡ drop end pieces.bytes ++ of.rest
    after end le = sym (drop-drop end pieces.place image) ∙ ap (λ (l : List ℕ). drop end l) of.split ∙ drop-append-le end pieces.bytes of.rest le

    pub read_there : (found : A) (end : ℕ) → read (from pieces.bytes 0) ≡ Ok (found, from pieces.bytes end) → WasRead image pieces (passed_by end pieces) found read
    read_there found end e = (
      record { rest = of.rest; split = after end within; len = of.len },
      go (read (from pieces.bytes 0)) alike e ∙ ap₂ (λ (n : ℕ) (l : List ℕ). found_at n l) refl (sym (after end within)),
    )
      where
        within : end ≤ length pieces.bytes
        within = end_within pieces.bytes found end e

        found_at : ℕ → List ℕ → Result (A × Rest) SlotFault
        found_at n l = Ok (found, record { at = n; bytes = l })

        go : (r : Result (A × Rest) SlotFault) → Alike pieces.place of.rest slot_placed n (from pieces.bytes 0) r (read (from image pieces.place)) → r ≡ Ok (found, from pieces.bytes end)
            → read (from image pieces.place) ≡ found_at (pieces.place + end) (drop end pieces.bytes ++ of.rest)
        go (Ok p) a e =
            let is : p ≡ (found, from pieces.bytes end) = ok_same {F = SlotFault} p (found, from pieces.bytes end) e in
            a.0 ∙ ap (λ (q : A × Rest). the_ok (q.0, whole pieces.place of.rest q.1)) is
          where
            the_ok : A × Rest → Result (A × Rest) SlotFault
            the_ok q = Ok q
        go (Err f) a e = absurd cc

    pub fault_there : (fault : SlotFault) → read (from pieces.bytes 0) ≡ Err fault → HasFault image pieces (slot_fault fault.kind (pieces.place + fault.at)) read
    fault_there fault e = go (read (from pieces.bytes 0)) alike e
      where
        the_err : SlotFault → Result (A × Rest) SlotFault
        the_err g = Err (slot_fault g.kind (pieces.place + g.at))

        go : (r : Result (A × Rest) SlotFault) → Alike pieces.place of.rest slot_placed n (from pieces.bytes 0) r (read (from image pieces.place)) → r ≡ Err fault → read (from image pieces.place) ≡ the_err fault
        go (Ok p) a e = absurd cc
        go (Err f) a e = a.0 ∙ ap (λ (g : SlotFault). the_err g) (err_same {A = A × Rest} f fault e)

  -- ---- over what is known of a disk

  module _ (few : n ≤ ITEM_LEN) (known : Option DiskHistory) (old filled : PiecesState) (held : List ℕ) (ready : IfKnown (λ h. AreOfImage h.now.seen filled × HasItem filled) known) (place : filled.place ≡ old.place) (is : held ≡ filled.bytes) where
    pub read_known : (found : A) (end : ℕ) (new : PiecesState) → new ≡ passed_by end filled → read (from held 0) ≡ Ok (found, from held end) → IfKnown (λ h. WasRead h.now.seen old new found read) known
    read_known found end new passed e = go known ready
      where
        go : (k : Option DiskHistory) → IfKnown (λ h. AreOfImage h.now.seen filled × HasItem filled) k → IfKnown (λ h. WasRead h.now.seen old new found read) k
        go None r = tt
        go (Some h) r =
            let there = read_there few h.now.seen filled r.0 r.1 found end (subst (λ (l : List ℕ). read (from l 0) ≡ Ok (found, from l end)) is e) in (
              subst (λ (p : PiecesState). AreOfImage h.now.seen p) (sym passed) there.0,
              ap (λ (n : ℕ). read (from h.now.seen n)) (sym place) ∙ there.1 ∙ ap (λ (p : PiecesState). found_from (from h.now.seen p.place)) (sym passed),
            )
          where
            found_from : Rest → Result (A × Rest) SlotFault
            found_from t = Ok (found, t)

    pub fault_known : (fault there : SlotFault) → there ≡ slot_fault fault.kind (filled.place + fault.at) → read (from held 0) ≡ Err fault → IfKnown (λ h. HasFault h.now.seen old there read) known
    fault_known fault there same e = go known ready
      where
        err_of : SlotFault → Result (A × Rest) SlotFault
        err_of g = Err g

        go : (k : Option DiskHistory) → IfKnown (λ h. AreOfImage h.now.seen filled × HasItem filled) k → IfKnown (λ h. HasFault h.now.seen old there read) k
        go None r = tt
        go (Some h) r = ap (λ (n : ℕ). read (from h.now.seen n)) (sym place) ∙ fault_there few h.now.seen filled r.0 r.1 fault (subst (λ (l : List ℕ). read (from l 0) ≡ Err fault) is e) ∙ ap err_of (sym same)

-- ---- filling

-- nothing is held yet
pub opened_known : (known : Option DiskHistory) (pieces : PiecesState) → pieces.bytes ≡ [] → IfKnown (λ h. pieces.len ≡ length h.now.seen) known → IfKnown (λ h. AreOfImage h.now.seen pieces) known
opened_known None pieces none len = tt
opened_known (Some h) pieces none len = record { rest = drop pieces.place h.now.seen; split = ap (λ (l : List ℕ). l ++ drop pieces.place h.now.seen) (sym none); len = len }

-- a piece is read after what was held
more_read : (image : List ℕ) (old : PiecesState) (held end count : ℕ) (new : List ℕ) → AreOfImage image old → length old.bytes ≡ held → end ≡ old.place + held → end < old.len → held < ITEM_LEN → count ≡ min (old.len - end) (PIECE_LEN - held) → new ≡ old.bytes ++ take count (drop end image)
    → (new_state : PiecesState) → new_state ≡ record { place = old.place; bytes = new; len = old.len } → AreOfImage image new_state × HasItem new_state
more_read image old held end count new of long ends before few counted is new_state same = subst (λ (p : PiecesState). AreOfImage image p × HasItem p) (sym same) (
  record { rest = drop count of.rest; split = of.split ∙ ap (λ (l : List ℕ). old.bytes ++ l) (sym (take-append-drop count of.rest)) ∙ sym (append_assoc old.bytes (take count of.rest) (drop count of.rest)) ∙ ap (λ (l : List ℕ). l ++ drop count of.rest) (sym joined); len = of.len },
  go (leb (old.len - end) (PIECE_LEN - held)) refl,
)
  where
    left : drop end image ≡ of.rest
    left = ap (λ (n : ℕ). drop n image) ends ∙ sym (drop-drop held old.place image) ∙ ap (λ (l : List ℕ). drop held l) of.split ∙ drop_at old.bytes of.rest held long

    joined : new ≡ old.bytes ++ take count of.rest
    joined = is ∙ ap (λ (l : List ℕ). old.bytes ++ take count l) left

    lengths : length new ≡ held + min count (length of.rest)
    lengths = ap (λ (l : List ℕ). length l) joined ∙ (omega (arith, long, length-append old.bytes (take count of.rest), length-take count of.rest))

    rest_len : length of.rest + end ≡ old.len
    rest_len = omega (arith, of.len, ends, before, long, ap (λ (l : List ℕ). length l) of.split, length-append old.bytes of.rest, length-drop old.place image)

    go : (b : Bool) → leb (old.len - end) (PIECE_LEN - held) ≡ b → (ITEM_LEN ≤ length new) ⊎ (old.len ≤ old.place + length new)
    go true e = let le = leb-true _ _ e in inr (omega (arith, le, counted, lengths, rest_len, ends))
    go false e = let lt = leb-false _ _ e in inl (omega (arith, lt, counted, lengths, rest_len, ends, few))

pub filled_known : {E : Type 0} (result : Result (Unit {0}) E) (known : Option DiskHistory) (old new_state : PiecesState) (held end count : ℕ) (new : List ℕ) → IfKnown (λ h. AreOfImage h.now.seen old) known → length old.bytes ≡ held → end ≡ old.place + held → end < old.len → held < ITEM_LEN
    → count ≡ min (old.len - end) (PIECE_LEN - held) → OnOk result (IfKnown (λ h. new ≡ old.bytes ++ take count (drop end h.now.seen)) known) → new_state ≡ record { place = old.place; bytes = new; len = old.len } → OnOk result (IfKnown (λ h. AreOfImage h.now.seen new_state × HasItem new_state) known)
filled_known (Err e) known old new_state held end count new of long ends before few counted is same = tt
filled_known (Ok x) None old new_state held end count new of long ends before few counted is same = tt
filled_known (Ok x) (Some h) old new_state held end count new of long ends before few counted is same = more_read h.now.seen old held end count new of long ends before few counted is new_state same

-- ---- the items

pub head_looks : (tables : ℕ) → LooksAt 27 (next_head tables)
head_looks tables = λ base more s enough. head_alike base more tables s enough

pub wide_looks : LooksAt 8 (slot_number w64)
wide_looks = λ base more s enough. wide_alike base more s enough

pub row_looks : (table : Table) (before : Option Key) → LooksAt (row_room table) (next_row table before)
row_looks table before = λ base more s enough. row_alike base more table before s enough

pub row_few : (table : Table) → length table.columns ≤ MAX_COLUMNS → row_room table ≤ ITEM_LEN
row_few table few = omega (arith, few, length-map table.columns (λ (column : Column). column.ty))
