-- A record that is read changes the cell that is read of it.
use Rattle.std.proofs.Common.{◌≡◌, ℕ, ◌+◌, ◌≤◌, Bool, true, false, cond, eqb, ltb, ◌||◌, List, [], ◌∷◌, length, drop, take, Result, Ok, Err, IfOk, refl, ap, arith, length-drop}
use Rattle.std.specs.Int.{w16, byte_len, from_le_bytes}
use Rattle.std.proofs.lemmas.Bool.{ltb-false}
use Rattle.std.specs.Prelude.{slice_get, ok_or}
use Rattle.pac_value.specs.Expressions.{◌>>=◌}
use Rattle.pac_value.specs.State.{Cell}
use Rattle.pac_ops.specs.declared.transaction.Change.{Change}
use Rattle.pac_ops.specs.declared.transaction.Change.TheVariants.{Put, Delete}
use Rattle.pac_types.specs.declared.table.Table.{Table}
use Rattle.pac_bytes.specs.declared.fault.Short.{Short}
use Rattle.pac_bytes.specs.Reading.{Rest, from, reported_as, short_at, leading_byte, next_byte, next_bytes, next_uint, advanced}
use Rattle.pac_bytes.specs.Readers.{Answers}
use Rattle.pac_bytes.specs.Typed.{next_key}
use Rattle.pac_bytes.proofs.Results.{bind_ok, bind_of_ok, ok_same, true_ok, false_ok, reported_as_ok}
use Rattle.pac_entry.specs.declared.fault.EntryFault.{EntryFault}
use Rattle.pac_entry.specs.declared.fault.EntryFaultKind.TheVariants.{Tag, UnknownTable, WrongRow}
use Rattle.pac_entry.specs.Kinds.{fault_at, as_entry_fault, as_fault_of}
use Rattle.pac_entry.specs.EntryReading.{entry_byte, entry_number, counted_values, next_put, next_delete, next_change, next_place, next_cell}
use Rattle.pac_serial.specs.Writes.{image_cell}

-- the cell of this image is read here
abbrev CellIs : List Table → Rest → Change → Type 0
CellIs tables s c = (u : Rest) × (next_cell tables s ≡ Ok (image_cell c, u))

abbrev PlaceIs : List Table → Rest → Change → Type 0
PlaceIs tables s c = (u : Rest) × (next_place tables s ≡ Ok (image_cell c, u))

place_of_put : (tables : List Table) (s t : Rest) (c : Change) → next_put tables s ≡ Ok (c, t) → PlaceIs tables s c
unfolding next_put next_place
place_of_put tables s t c e =
    let n = bind_ok (entry_number s) (λ n. ok_or (slice_get tables n.0) (fault_at UnknownTable s.at) >>= λ table. reported_as (as_fault_of WrongRow) (next_key table.key n.1) >>= λ key. counted_values WrongRow table.columns key.1 >>= λ row. Ok (Put n.0 key.0 row.0, row.1)) (c, t) e in
    let table = bind_ok (ok_or (slice_get tables n.0.0) (fault_at UnknownTable s.at)) (λ table. reported_as (as_fault_of WrongRow) (next_key table.key n.0.1) >>= λ key. counted_values WrongRow table.columns key.1 >>= λ row. Ok (Put n.0.0 key.0 row.0, row.1)) (c, t) n.2 in
    let key = bind_ok (reported_as (as_fault_of WrongRow) (next_key table.0.key n.0.1)) (λ key. counted_values WrongRow table.0.columns key.1 >>= λ row. Ok (Put n.0.0 key.0 row.0, row.1)) (c, t) table.2 in
    let row = bind_ok (counted_values WrongRow table.0.columns key.0.1) (λ row. Ok (Put n.0.0 key.0.0 row.0, row.1)) (c, t) key.2 in
    let both : ◌≡◌ {A = Change × Rest} (Put n.0.0 key.0.0 row.0.0, row.0.1) (c, t) = ok_same {F = EntryFault} (Put n.0.0 key.0.0 row.0.0, row.0.1) (c, t) row.2 in
    let is : Put n.0.0 key.0.0 row.0.0 ≡ c = ap (λ (p : Change × Rest). p.0) both in
    (key.0.1, bind_of_ok (entry_number s) n.0 _ _ n.1 (bind_of_ok (ok_or (slice_get tables n.0.0) (fault_at UnknownTable s.at)) table.0 _ _ table.1 (bind_of_ok (reported_as (as_fault_of WrongRow) (next_key table.0.key n.0.1)) key.0 _ _ key.1 (ap (λ (x : Change). Ok (image_cell x, key.0.1)) is))))

place_of_delete : (tables : List Table) (s t : Rest) (c : Change) → next_delete tables s ≡ Ok (c, t) → PlaceIs tables s c
unfolding next_delete next_place
place_of_delete tables s t c e =
    let n = bind_ok (entry_number s) (λ n. ok_or (slice_get tables n.0) (fault_at UnknownTable s.at) >>= λ table. reported_as (as_fault_of WrongRow) (next_key table.key n.1) >>= λ key. Ok (Delete n.0 key.0, key.1)) (c, t) e in
    let table = bind_ok (ok_or (slice_get tables n.0.0) (fault_at UnknownTable s.at)) (λ table. reported_as (as_fault_of WrongRow) (next_key table.key n.0.1) >>= λ key. Ok (Delete n.0.0 key.0, key.1)) (c, t) n.2 in
    let key = bind_ok (reported_as (as_fault_of WrongRow) (next_key table.0.key n.0.1)) (λ key. Ok (Delete n.0.0 key.0, key.1)) (c, t) table.2 in
    let both : ◌≡◌ {A = Change × Rest} (Delete n.0.0 key.0.0, key.0.1) (c, t) = ok_same {F = EntryFault} (Delete n.0.0 key.0.0, key.0.1) (c, t) key.2 in
    let is : Delete n.0.0 key.0.0 ≡ c = ap (λ (p : Change × Rest). p.0) both in
    (key.0.1, bind_of_ok (entry_number s) n.0 _ _ n.1 (bind_of_ok (ok_or (slice_get tables n.0.0) (fault_at UnknownTable s.at)) table.0 _ _ table.1 (bind_of_ok (reported_as (as_fault_of WrongRow) (next_key table.0.key n.0.1)) key.0 _ _ key.1 (ap (λ (x : Change). Ok (image_cell x, key.0.1)) is))))

-- a record that is read changes the cell that is read of it
pub cell_read : (tables : List Table) (s t : Rest) (c : Change) → next_change tables s ≡ Ok (c, t) → CellIs tables s c
unfolding next_change next_cell
cell_read tables s t c e = go (eqb tag.0.0 1) (eqb tag.0.0 2) refl refl tag.2
  where
    tag : (x : ℕ × Rest) × (entry_byte s ≡ Ok x) × (cond (eqb x.0 1) (next_put tables x.1) (cond (eqb x.0 2) (next_delete tables x.1) (Err (fault_at Tag s.at))) ≡ Ok (c, t))
    tag = bind_ok (entry_byte s) (λ tag. cond (eqb tag.0 1) (next_put tables tag.1) (cond (eqb tag.0 2) (next_delete tables tag.1) (Err (fault_at Tag s.at)))) (c, t) e

    there : eqb tag.0.0 1 || eqb tag.0.0 2 ≡ true → PlaceIs tables tag.0.1 c → CellIs tables s c
    there known place = (place.0, bind_of_ok (entry_byte s) tag.0 _ _ tag.1 (rw known place.1))

    go : (one two : Bool) → eqb tag.0.0 1 ≡ one → eqb tag.0.0 2 ≡ two → cond one (next_put tables tag.0.1) (cond two (next_delete tables tag.0.1) (Err (fault_at Tag s.at))) ≡ Ok (c, t) → CellIs tables s c
    go true two a b h = there (rw a refl) (place_of_put tables tag.0.1 t c h)
    go false true a b h = there (rw (a, b) refl) (place_of_delete tables tag.0.1 t c h)
    go false false a b h = absurd cc

-- ---- where the key stands

byte_left : (at : ℕ) (bs : List ℕ) (x : ℕ × Rest) → leading_byte at bs ≡ Ok x → length bs ≡ 1 + length x.1.bytes
byte_left at [] x e = absurd cc
byte_left at (b ∷ bs) x e =
    let both : ◌≡◌ {A = ℕ × Rest} (b, record { at = at + 1; bytes = bs }) x = ok_same {F = Short} (b, record { at = at + 1; bytes = bs }) x e in
    let rest : bs ≡ x.1.bytes = ap (λ (p : ℕ × Rest). p.1.bytes) both in
    omega (arith, ap (λ (l : List ℕ). length l) rest)

number_left : (s : Rest) (x : ℕ × Rest) → next_uint w16 s ≡ Ok x → 2 ≤ length s.bytes
number_left s x e =
    let field = bind_ok (next_bytes (short_at s.at) (byte_len w16) s) (λ field. Ok (from_le_bytes w16 field.0, field.1)) x e in
    let enough = false_ok (ltb (length s.bytes) (byte_len w16)) (short_at s.at) (Ok (take (byte_len w16) s.bytes, advanced (byte_len w16) s)) field.0 field.1 in
    ltb-false _ _ enough.0

-- a key that is read stands within the bytes, after the tag and the table's number
pub cell_within : (tables : List Table) (bytes : List ℕ) (at : ℕ) (result : Result (Cell × ℕ) EntryFault) → Answers bytes result (next_cell tables (from bytes at)) → IfOk result (λ found. at + 3 ≤ length bytes)
unfolding next_cell next_place
cell_within tables bytes at (Err fault) e = tt
cell_within tables bytes at (Ok found) e =
    let s : Rest = from bytes at in
    let tag = bind_ok (entry_byte s) (λ tag. cond (eqb tag.0 1 || eqb tag.0 2) (next_place tables tag.1) (Err (fault_at Tag at))) (found.0, from bytes found.1) e in
    let place = true_ok (eqb tag.0.0 1 || eqb tag.0.0 2) (fault_at Tag at) (next_place tables tag.0.1) (found.0, from bytes found.1) tag.2 in
    let n = bind_ok (entry_number tag.0.1) (λ n. ok_or (slice_get tables n.0) (fault_at UnknownTable tag.0.1.at) >>= λ table. reported_as (as_fault_of WrongRow) (next_key table.key n.1) >>= λ key. Ok ((n.0, key.0), key.1)) (found.0, from bytes found.1) place.1 in
    let one = byte_left at (drop at bytes) tag.0 (reported_as_ok as_entry_fault (next_byte s) tag.0 tag.1) in
    let two = number_left tag.0.1 n.0 (reported_as_ok as_entry_fault (next_uint w16 tag.0.1) n.0 n.1) in
    omega (arith, one, two, length-drop at bytes)
