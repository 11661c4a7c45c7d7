-- Values after their number are a codec.
use Rattle.std.proofs.Common.{◌≡◌, ◌∙◌, ℕ, ◌<◌, ◌≤◌, ◌+◌, ◌∷◌, [], drop, get_or, cond, eqb, List, length, Result, Ok, Err, IfOk, IsTrue, refl, sym, ap, arith}
use Rattle.std.specs.List.{list_all}
use Rattle.std.proofs.lemmas.Bool.{eqb-true, eqb-false}
use Rattle.std.proofs.lemmas.List.{length-map, get_or-map, drop_all}
use Rattle.pac_base.specs.declared.refusal.Refusal.{Refusal}
use Rattle.pac_base.specs.Refusals.{Reports}
use Rattle.pac_value.specs.declared.values.Ty.{Ty}
use Rattle.pac_value.specs.declared.values.Value.{Value}
use Rattle.pac_value.specs.Values.{type_of, is_stored}
use Rattle.pac_types.specs.declared.table.Column.{Column}
use Rattle.pac_types.specs.WellFormed.{types}
use Rattle.pac_bytes.specs.declared.fault.TypedFault.{TypedFault}
use Rattle.pac_bytes.specs.Reading.{from, reported_as, next_byte, next_uint}
use Rattle.pac_bytes.specs.Typed.{HaveTypes, values_bytes, next_values}
use Rattle.pac_bytes.proofs.Bytes.{IsBytes, IsBytes-drop}
use Rattle.pac_bytes.proofs.Codec.{IsCodec, seq, either, never, same, reported_again}
use Rattle.pac_bytes.proofs.Loops.{next_key}
use Rattle.pac_bytes.proofs.Numbers.{IsByte, one_byte, byte_codec, uint_codec, width16}
use Rattle.pac_bytes.proofs.TypedLemmas.{values_codec, all_stored}
use Rattle.std.specs.Int.{w16, to_le_bytes}
use Rattle.pac_entry.specs.declared.fault.EntryFaultKind.{EntryFaultKind}
use Rattle.pac_entry.specs.Kinds.{fault_at, as_entry_fault, as_fault_of}
use Rattle.pac_entry.specs.Entries.{counted_bytes}
use Rattle.pac_entry.specs.EntryReading.{entry_byte, entry_number, counted_values}

-- there are as many values as types
pub as_many : (ts : List Ty) (vs : List Value) → HaveTypes ts vs → length vs ≡ length ts
as_many ts vs h = sym (length-map vs type_of) ∙ ap (λ (x : List Ty). length x) h.0

pub as_many_columns : (columns : List Column) (vs : List Value) → HaveTypes (types columns) vs → length vs ≡ length columns
as_many_columns columns vs h = as_many (types columns) vs h ∙ length-map columns (λ column. column.ty)

-- what a reader of values answers: values seen as a list, and the offset after them
abbrev Found : {V : Type 0} → (V → List Value) → List Ty → List ℕ → ℕ → Result (V × ℕ) (Refusal TypedFault) → Type 0
Found view ts bytes at result = Reports (λ found. (view found.0, from bytes found.1)) result (next_values ts (from bytes at))

-- what is read has the types
values_read : {V : Type 0} (view : V → List Value) (ts : List Ty) (bytes : List ℕ) (at : ℕ) (found : V × ℕ) → IsBytes bytes → Found view ts bytes at (Ok found) → HaveTypes ts (view found.0)
values_read view ts bytes at found are e = ((values_codec ts).found (from bytes at) (view found.0) (from bytes found.1) (IsBytes-drop at bytes are) e).form

pub count_read : {V : Type 0} (view : V → List Value) (columns : List Column) (bytes : List ℕ) (at : ℕ) (result : Result (V × ℕ) (Refusal TypedFault)) → IsBytes bytes → Found view (types columns) bytes at result
    → IfOk result (λ found. length (view found.0) ≡ length columns)
count_read view columns bytes at (Ok found) are e = as_many_columns columns (view found.0) (values_read view (types columns) bytes at found are e)
count_read view columns bytes at (Err refusal) are e = tt

pub stored_read : {V : Type 0} (view : V → List Value) (columns : List Column) (bytes : List ℕ) (at : ℕ) (result : Result (V × ℕ) (Refusal TypedFault)) → IsBytes bytes → Found view (types columns) bytes at result
    → IfOk result (λ found. IsTrue (list_all is_stored (view found.0)))
stored_read view columns bytes at (Ok found) are e = all_stored (view found.0) (values_read view (types columns) bytes at found are e).1
stored_read view columns bytes at (Err refusal) are e = tt

pub entry_byte_codec : IsCodec IsByte one_byte entry_byte
entry_byte_codec = reported_again _ _ next_byte as_entry_fault byte_codec

pub entry_number_codec : IsCodec (λ n. n < 65536) (to_le_bytes w16) entry_number
entry_number_codec = reported_again _ _ (next_uint w16) as_entry_fault (uint_codec w16 65536 width16)

pub counted_codec : (wrong : EntryFaultKind) (columns : List Column) → length columns < 256 → IsCodec (HaveTypes (types columns)) counted_bytes (counted_values wrong columns)
unfolding counted_values
counted_codec wrong columns short = same _ _ _ _ _
    (λ vs h. (h, omega (arith, as_many_columns columns vs h, short)))
    (λ vs h. h.0)
    (λ vs h. refl)
    (seq (λ vs. length vs) IsByte one_byte entry_byte (HaveTypes (types columns)) values_bytes
    (λ at n s. cond (eqb n (length columns)) (reported_as (as_fault_of wrong) (next_values (types columns) s)) (Err (fault_at wrong at)))
    entry_byte_codec
    (λ at n lt. either _ _ (eqb n (length columns)) (λ s. reported_as (as_fault_of wrong) (next_values (types columns) s)) (λ s. Err (fault_at wrong at))
    (λ right. same _ _ _ _ _
    (λ vs h. h.0)
    (λ vs h. (h, as_many_columns columns vs h ∙ sym (eqb-true _ _ right)))
    (λ vs h. refl)
    (reported_again _ _ (next_values (types columns)) (as_fault_of wrong) (values_codec (types columns))))
    (λ other. never _ _ (λ s. fault_at wrong at) (λ vs h. eqb-false _ _ other (sym h.1 ∙ as_many_columns columns vs h.0)))))

-- the type of the column that is next
pub next_type_of : (columns : List Column) (i : ℕ) (column : Column) → i < length columns → column ≡ get_or columns i column → drop i (types columns) ≡ column.ty ∷ drop (i + 1) (types columns)
next_type_of columns i column lt is =
    let within : i < length (types columns) = omega (arith, lt, length-map columns (λ column. column.ty)) in
    let ty_is : get_or (types columns) i column.ty ≡ column.ty = get_or-map (λ column. column.ty) columns i column column.ty lt ∙ ap (λ (x : Column). x.ty) (sym is) in
    next_key (types columns) i column.ty within ∙ ap (λ (t : Ty). t ∷ drop (i + 1) (types columns)) ty_is

-- after the last column no type is left
pub no_type : (columns : List Column) (i : ℕ) → length columns ≤ i → drop i (types columns) ≡ []
no_type columns i le = drop_all i (types columns) (omega (arith, le, length-map columns (λ column. column.ty)))
