-- A fault of what stands after an open gate stands no further than the end of the bytes.
--
-- Each reading ends by the end of its bytes, or its fault stands by there: this is shown of readings one by one, of those
-- that are made of others by `step`, from what is said of these.
use Rattle.std.proofs.Common.{◌≡◌, ℕ, zero, suc, ◌+◌, ◌≤◌, ◌||◌, Bool, true, false, cond, eqb, ltb, List, [], ◌∷◌, length, take, drop, Option, Some, None, Result, Ok, Err, refl, subst, arith}
use Rattle.std.specs.Prelude.{slice_get, ok_or}
use Rattle.std.specs.Int.{w16, w32, w64, Width, byte_len}
use Rattle.std.specs.List.{list_all}
use Rattle.std.proofs.lemmas.Bool.{ltb-false}
use Rattle.std.proofs.lemmas.List.{length-take, length-drop}
use Rattle.pac_base.specs.declared.refusal.Refusal.{Refusal}
use Rattle.pac_base.specs.declared.refusal.Refusal.TheVariants.{Fault}
use Rattle.pac_base.specs.Refusals.{Fails}
use Rattle.pac_value.specs.declared.limits.TheConstants.{MAX_TEXT}
use Rattle.pac_value.specs.declared.values.Ty.{Ty}
use Rattle.pac_value.specs.Expressions.{◌>>=◌}
use Rattle.pac_value.specs.Texts.{is_printable}
use Rattle.pac_ops.specs.declared.limits.TheConstants.{MAX_RECORDS, MAX_TXNS}
use Rattle.pac_types.specs.declared.procedure.Proc.{Proc}
use Rattle.pac_types.specs.declared.table.Column.{Column}
use Rattle.pac_types.specs.declared.table.Table.{Table}
use Rattle.pac_types.specs.WellFormed.{types}
use Rattle.pac_types.specs.Typing.{CatalogueState}
use Rattle.pac_bytes.specs.declared.fault.Short.{Short}
use Rattle.pac_bytes.specs.declared.fault.TypedFault.{TypedFault}
use Rattle.pac_bytes.specs.declared.fault.TypedFault.TheVariants as typed
use Rattle.pac_bytes.specs.declared.fault.ValueFault.{ValueFault}
use Rattle.pac_bytes.specs.declared.fault.ValueFault.TheVariants as value
use Rattle.pac_bytes.specs.Reading.{Rest, from, advanced, reported_as, short_at, leading_byte, next_byte, next_bytes, next_uint, times, along, all_read, within}
use Rattle.pac_bytes.specs.Typed.{as_typed_fault, same_type, next_typed, next_key, next_values}
use Rattle.pac_bytes.specs.Values.{as_value_fault, type_of_tag, next_type, int_body, printable_text, text_of_length, text_body, value_body, next_value}
use Rattle.pac_entry.specs.declared.fault.EntryFault.{EntryFault}
use Rattle.pac_entry.specs.declared.fault.EntryFaultKind.{EntryFaultKind}
use Rattle.pac_entry.specs.declared.fault.EntryFaultKind.TheVariants.{UnknownProc, WrongArgs, UnknownTable, WrongRow}
use Rattle.pac_entry.specs.EntryReading.{entry_byte, entry_number, counted_values, next_call, next_put, next_delete, next_change, next_records, next_entry}
use Rattle.pac_entry.specs.Kinds.{fault_at, as_entry_fault, as_fault_of}
use Rattle.pac_log.specs.declared.damage.LinkFault.{LinkFault}
use Rattle.pac_log.specs.declared.limits.TheConstants.{MAX_ENTRIES_LEN}
use Rattle.pac_log.specs.BodyReading.{link_number, next_entries, entries_and_gate, counted_link, next_link}
use Rattle.pac_log.specs.Damages.{short_from, out_of_range, as_link_fault, of_entry}

-- what was found has P, or the fault stands by the end
abbrev ByEnd : {A F : Type 0} → (F → ℕ) → ℕ → (A → Type 0) → Result A F → Type 0
ByEnd place end P (Ok x) = P x
ByEnd place end P (Err fault) = place fault ≤ end

-- what is left to read ends by there
abbrev EndsBy : {A : Type 0} → ℕ → A × Rest → Type 0
EndsBy end x = x.1.at + length x.1.bytes ≤ end

step : {A B F : Type 0} (place : F → ℕ) (end : ℕ) (P : A → Type 0) (Q : B → Type 0) (r : Result A F) (f : A → Result B F) → ByEnd place end P r → ((x : A) → P x → ByEnd place end Q (f x)) → ByEnd place end Q (r >>= f)
step place end P Q (Ok x) f is next = next x is
step place end P Q (Err fault) f is next = is

reported_again : {A F G : Type 0} (place : F → ℕ) (other : G → ℕ) (end : ℕ) (P : A → Type 0) (report : F → G) (r : Result A F) → ((fault : F) → other (report fault) ≡ place fault) → ByEnd place end P r → ByEnd other end P (reported_as report r)
reported_again place other end P report (Ok x) same is = is
reported_again place other end P report (Err fault) same is = omega (arith, same fault, is)

either : {A F : Type 0} (place : F → ℕ) (end : ℕ) (P : A → Type 0) (test : Bool) (one other : Result A F) → (test ≡ true → ByEnd place end P one) → (test ≡ false → ByEnd place end P other) → ByEnd place end P (cond test one other)
either place end P true one other if_true if_false = if_true refl
either place end P false one other if_true if_false = if_false refl

found_or : {A F : Type 0} (place : F → ℕ) (end : ℕ) (o : Option A) (fault : F) → place fault ≤ end → ByEnd place end (λ (x : A). Unit {0}) (ok_or o fault)
found_or place end None fault le = le
found_or place end (Some x) fault le = tt

-- ---- fields

-- the offset of a field that is cut short
abbrev short_place : Short → ℕ
short_place short = short.at

prefix_ends : (at end : ℕ) (bytes : List ℕ) → at + length bytes ≤ end → ByEnd short_place end (EndsBy end) (leading_byte at bytes)
prefix_ends at end [] le = omega arith
prefix_ends at end (b ∷ bs) le = omega arith

byte_ends : (s : Rest) (end : ℕ) → s.at + length s.bytes ≤ end → ByEnd short_place end (EndsBy end) (next_byte s)
byte_ends s end le = prefix_ends s.at end s.bytes le

bytes_end : {F : Type 0} (place : F → ℕ) (fault : F) (n : ℕ) (s : Rest) (end : ℕ) → place fault ≤ end → s.at + length s.bytes ≤ end → ByEnd place end (EndsBy end) (next_bytes fault n s)
bytes_end place fault n s end low le =
    either place end (EndsBy end) (ltb (length s.bytes) n) (Err fault) (Ok (take n s.bytes, advanced n s)) (λ cut. low)
    (λ there. let many : n ≤ length s.bytes = ltb-false _ _ there in omega (arith, many, le, length-drop n s.bytes))

uint_ends : (w : Width) (s : Rest) (end : ℕ) → s.at + length s.bytes ≤ end → ByEnd short_place end (EndsBy end) (next_uint w s)
uint_ends w s end le = step short_place end (EndsBy end) (EndsBy end) (next_bytes (short_at s.at) (byte_len w) s) _ (bytes_end short_place (short_at s.at) (byte_len w) s end (omega arith) le) (λ field is. is)

-- ---- values

abbrev value_place : ValueFault → ℕ
value_place (value.Short at) = at
value_place (value.Tag at) = at
value_place (value.Bad at) = at

abbrev typed_place : TypedFault → ℕ
typed_place (typed.Short at) = at
typed_place (typed.Tag at) = at
typed_place (typed.Wrong at) = at

typed_same : (fault : ValueFault) → typed_place (as_typed_fault fault) ≡ value_place fault
typed_same (value.Short at) = refl
typed_same (value.Tag at) = refl
typed_same (value.Bad at) = refl

abbrev Any : {A : Type 0} → A → Type 0
Any x = Unit {0}

value_byte_ends : (s : Rest) (end : ℕ) → s.at + length s.bytes ≤ end → ByEnd value_place end (EndsBy end) (reported_as as_value_fault (next_byte s))
value_byte_ends s end le = reported_again short_place value_place end (EndsBy end) as_value_fault (next_byte s) (λ fault. refl) (byte_ends s end le)

tag_ends : (at tag end : ℕ) → at ≤ end → ByEnd value_place end Any (type_of_tag at tag)
tag_ends at tag end le = either value_place end Any (eqb tag 1) _ _ (λ e. tt) (λ e. either value_place end Any (eqb tag 2) _ _ (λ e. tt) (λ e. le))

type_ends : (s : Rest) (end : ℕ) → s.at + length s.bytes ≤ end → ByEnd value_place end Any (next_type s)
type_ends s end le = step value_place end (EndsBy end) Any (reported_as as_value_fault (next_byte s)) _ (value_byte_ends s end le) (λ tag is. tag_ends s.at tag.0 end (omega (arith, le)))

int_ends : (s : Rest) (end : ℕ) → s.at + length s.bytes ≤ end → ByEnd value_place end (EndsBy end) (int_body s)
int_ends s end le = step value_place end (EndsBy end) (EndsBy end) (reported_as as_value_fault (next_uint w64 s)) _ (reported_again short_place value_place end (EndsBy end) as_value_fault (next_uint w64 s) (λ fault. refl) (uint_ends w64 s end le)) (λ n is. is)

printable_ends : (tag end : ℕ) (bytes : List ℕ) (s : Rest) → tag ≤ end → s.at + length s.bytes ≤ end → ByEnd value_place end (EndsBy end) (printable_text tag bytes s)
printable_ends tag end bytes s low le = either value_place end (EndsBy end) (list_all is_printable bytes) _ _ (λ e. le) (λ e. low)

length_ends : (tag field len end : ℕ) (s : Rest) → tag ≤ end → field ≤ end → s.at + length s.bytes ≤ end → ByEnd value_place end (EndsBy end) (text_of_length tag field len s)
length_ends tag field len end s low field_low le =
    either value_place end (EndsBy end) (ltb MAX_TEXT len) _ _ (λ e. low)
    (λ e. step value_place end (EndsBy end) (EndsBy end) (next_bytes (value.Short field) len s) _ (bytes_end value_place (value.Short field) len s end field_low le) (λ t is. printable_ends tag end t.0 t.1 low is))

text_ends : (tag end : ℕ) (s : Rest) → tag ≤ end → s.at + length s.bytes ≤ end → ByEnd value_place end (EndsBy end) (text_body tag s)
text_ends tag end s low le = step value_place end (EndsBy end) (EndsBy end) (reported_as as_value_fault (next_byte s)) _ (value_byte_ends s end le) (λ len is. length_ends tag s.at len.0 end len.1 low (omega (arith, le)) is)

body_ends : (at tag end : ℕ) (s : Rest) → at ≤ end → s.at + length s.bytes ≤ end → ByEnd value_place end (EndsBy end) (value_body at tag s)
body_ends at tag end s low le =
    either value_place end (EndsBy end) (eqb tag 1) _ _ (λ e. int_ends s end le) (λ e. either value_place end (EndsBy end) (eqb tag 2) _ _ (λ e. text_ends at end s low le) (λ e. low))

value_ends : (s : Rest) (end : ℕ) → s.at + length s.bytes ≤ end → ByEnd value_place end (EndsBy end) (next_value s)
unfolding next_value
value_ends s end le = step value_place end (EndsBy end) (EndsBy end) (reported_as as_value_fault (next_byte s)) _ (value_byte_ends s end le) (λ tag is. body_ends s.at tag.0 end tag.1 (omega (arith, le)) is)

typed_ends : (ty : Ty) (s : Rest) (end : ℕ) → s.at + length s.bytes ≤ end → ByEnd typed_place end (EndsBy end) (next_typed ty s)
unfolding next_typed
typed_ends ty s end le =
    step typed_place end Any (EndsBy end) (reported_as as_typed_fault (next_type s)) _ (reported_again value_place typed_place end Any as_typed_fault (next_type s) typed_same (type_ends s end le))
    (λ found is. either typed_place end (EndsBy end) (same_type found ty) _ _ (λ e. reported_again value_place typed_place end (EndsBy end) as_typed_fault (next_value s) typed_same (value_ends s end le)) (λ e. omega (arith, le)))

key_ends : (ty : Ty) (s : Rest) (end : ℕ) → s.at + length s.bytes ≤ end → ByEnd typed_place end (EndsBy end) (next_key ty s)
unfolding next_key
key_ends ty s end le = step typed_place end (EndsBy end) (EndsBy end) (next_typed ty s) _ (typed_ends ty s end le) (λ v is. is)

-- ---- one after another

times_end : {A F : Type 0} (place : F → ℕ) (end : ℕ) (read : Rest → Result (A × Rest) F) → ((s : Rest) → s.at + length s.bytes ≤ end → ByEnd place end (EndsBy end) (read s))
    → (n : ℕ) (s : Rest) → s.at + length s.bytes ≤ end → ByEnd place end (EndsBy end) (times read n s)
unfolding times
times_end place end read each zero s le = le
times_end place end read each (suc n) s le =
    step place end (EndsBy end) (EndsBy end) (read s) _ (each s le) (λ x is. step place end (EndsBy end) (EndsBy end) (times read n x.1) _ (times_end place end read each n x.1 is) (λ xs others. others))

along_end : {K A F : Type 0} (place : F → ℕ) (end : ℕ) (read : K → Rest → Result (A × Rest) F) → ((k : K) (s : Rest) → s.at + length s.bytes ≤ end → ByEnd place end (EndsBy end) (read k s))
    → (ks : List K) (s : Rest) → s.at + length s.bytes ≤ end → ByEnd place end (EndsBy end) (along read ks s)
unfolding along
along_end place end read each [] s le = le
along_end place end read each (k ∷ ks) s le =
    step place end (EndsBy end) (EndsBy end) (read k s) _ (each k s le) (λ x is. step place end (EndsBy end) (EndsBy end) (along read ks x.1) _ (along_end place end read each ks x.1 is) (λ xs others. others))

-- ---- entries

abbrev entry_place : EntryFault → ℕ
entry_place fault = fault.at

entry_same : (wrong : EntryFaultKind) (fault : TypedFault) → entry_place (as_fault_of wrong fault) ≡ typed_place fault
entry_same wrong (typed.Short at) = refl
entry_same wrong (typed.Tag at) = refl
entry_same wrong (typed.Wrong at) = refl

entry_byte_ends : (s : Rest) (end : ℕ) → s.at + length s.bytes ≤ end → ByEnd entry_place end (EndsBy end) (entry_byte s)
entry_byte_ends s end le = reported_again short_place entry_place end (EndsBy end) as_entry_fault (next_byte s) (λ fault. refl) (byte_ends s end le)

entry_number_ends : (s : Rest) (end : ℕ) → s.at + length s.bytes ≤ end → ByEnd entry_place end (EndsBy end) (entry_number s)
entry_number_ends s end le = reported_again short_place entry_place end (EndsBy end) as_entry_fault (next_uint w16 s) (λ fault. refl) (uint_ends w16 s end le)

values_end : (wrong : EntryFaultKind) (columns : List Column) (s : Rest) (end : ℕ) → s.at + length s.bytes ≤ end → ByEnd entry_place end (EndsBy end) (counted_values wrong columns s)
unfolding counted_values
values_end wrong columns s end le =
    step entry_place end (EndsBy end) (EndsBy end) (entry_byte s) _ (entry_byte_ends s end le)
    (λ n is. either entry_place end (EndsBy end) (eqb n.0 (length columns)) _ _
    (λ e. reported_again typed_place entry_place end (EndsBy end) (as_fault_of wrong) (next_values (types columns) n.1) (entry_same wrong) (along_end typed_place end next_typed (λ ty t. typed_ends ty t end) (types columns) n.1 is))
    (λ e. omega (arith, le)))

call_ends : (procs : List Proc) (s : Rest) (end : ℕ) → s.at + length s.bytes ≤ end → ByEnd entry_place end (EndsBy end) (next_call procs s)
unfolding next_call
call_ends procs s end le =
    step entry_place end (EndsBy end) (EndsBy end) (entry_number s) _ (entry_number_ends s end le)
    (λ n is. step entry_place end Any (EndsBy end) (ok_or (slice_get procs n.0) (fault_at UnknownProc s.at)) _ (found_or entry_place end (slice_get procs n.0) (fault_at UnknownProc s.at) (omega (arith, le)))
    (λ proc any. step entry_place end (EndsBy end) (EndsBy end) (counted_values WrongArgs proc.params n.1) _ (values_end WrongArgs proc.params n.1 end is) (λ args done. done)))

key_in_ends : (ty : Ty) (s : Rest) (end : ℕ) → s.at + length s.bytes ≤ end → ByEnd entry_place end (EndsBy end) (reported_as (as_fault_of WrongRow) (next_key ty s))
key_in_ends ty s end le = reported_again typed_place entry_place end (EndsBy end) (as_fault_of WrongRow) (next_key ty s) (entry_same WrongRow) (key_ends ty s end le)

put_ends : (tables : List Table) (s : Rest) (end : ℕ) → s.at + length s.bytes ≤ end → ByEnd entry_place end (EndsBy end) (next_put tables s)
unfolding next_put
put_ends tables s end le =
    step entry_place end (EndsBy end) (EndsBy end) (entry_number s) _ (entry_number_ends s end le)
    (λ n is. step entry_place end Any (EndsBy end) (ok_or (slice_get tables n.0) (fault_at UnknownTable s.at)) _ (found_or entry_place end (slice_get tables n.0) (fault_at UnknownTable s.at) (omega (arith, le)))
    (λ table any. step entry_place end (EndsBy end) (EndsBy end) (reported_as (as_fault_of WrongRow) (next_key table.key n.1)) _ (key_in_ends table.key n.1 end is)
    (λ key done. step entry_place end (EndsBy end) (EndsBy end) (counted_values WrongRow table.columns key.1) _ (values_end WrongRow table.columns key.1 end done) (λ row all. all))))

delete_ends : (tables : List Table) (s : Rest) (end : ℕ) → s.at + length s.bytes ≤ end → ByEnd entry_place end (EndsBy end) (next_delete tables s)
unfolding next_delete
delete_ends tables s end le =
    step entry_place end (EndsBy end) (EndsBy end) (entry_number s) _ (entry_number_ends s end le)
    (λ n is. step entry_place end Any (EndsBy end) (ok_or (slice_get tables n.0) (fault_at UnknownTable s.at)) _ (found_or entry_place end (slice_get tables n.0) (fault_at UnknownTable s.at) (omega (arith, le)))
    (λ table any. step entry_place end (EndsBy end) (EndsBy end) (reported_as (as_fault_of WrongRow) (next_key table.key n.1)) _ (key_in_ends table.key n.1 end is) (λ key done. done)))

change_ends : (tables : List Table) (s : Rest) (end : ℕ) → s.at + length s.bytes ≤ end → ByEnd entry_place end (EndsBy end) (next_change tables s)
unfolding next_change
change_ends tables s end le =
    step entry_place end (EndsBy end) (EndsBy end) (entry_byte s) _ (entry_byte_ends s end le)
    (λ tag is. either entry_place end (EndsBy end) (eqb tag.0 1) _ _ (λ e. put_ends tables tag.1 end is)
    (λ e. either entry_place end (EndsBy end) (eqb tag.0 2) _ _ (λ e. delete_ends tables tag.1 end is) (λ e. omega (arith, le))))

records_end : (tables : List Table) (s : Rest) (end : ℕ) → s.at + length s.bytes ≤ end → ByEnd entry_place end (EndsBy end) (next_records tables s)
unfolding next_records
records_end tables s end le =
    step entry_place end (EndsBy end) (EndsBy end) (entry_byte s) _ (entry_byte_ends s end le)
    (λ n is. either entry_place end (EndsBy end) (eqb n.0 0 || ltb MAX_RECORDS n.0) _ _ (λ e. omega (arith, le)) (λ e. times_end entry_place end (next_change tables) (λ t. change_ends tables t end) n.0 n.1 is))

entry_ends : (catalogue : CatalogueState) (s : Rest) (end : ℕ) → s.at + length s.bytes ≤ end → ByEnd entry_place end (EndsBy end) (next_entry catalogue s)
unfolding next_entry
entry_ends catalogue s end le =
    step entry_place end (EndsBy end) (EndsBy end) (entry_byte s) _ (entry_byte_ends s end le)
    (λ tag is. either entry_place end (EndsBy end) (eqb tag.0 1) _ _ (λ e. step entry_place end (EndsBy end) (EndsBy end) (next_call catalogue.procs tag.1) _ (call_ends catalogue.procs tag.1 end is) (λ call done. done))
    (λ e. either entry_place end (EndsBy end) (eqb tag.0 2) _ _ (λ e. step entry_place end (EndsBy end) (EndsBy end) (next_records catalogue.tables tag.1) _ (records_end catalogue.tables tag.1 end is) (λ records done. done)) (λ e. omega (arith, le))))

-- ---- bodies

abbrev link_place : LinkFault → ℕ
link_place fault = fault.at

number_ends : (s : Rest) (end : ℕ) → s.at + length s.bytes ≤ end → ByEnd link_place end (EndsBy end) (link_number s)
number_ends s end le = reported_again short_place link_place end (EndsBy end) as_link_fault (next_uint w32 s) (λ fault. refl) (uint_ends w32 s end le)

filled_ends : {A : Type 0} (end n : ℕ) (s : Rest) (x : A × Rest) → n ≤ length s.bytes → s.at + length s.bytes ≤ end → EndsBy end x → ByEnd link_place end (EndsBy end) (all_read out_of_range (advanced n s) x)
filled_ends end n s x many le is = either link_place end (EndsBy end) (eqb (length x.1.bytes) 0) _ _ (λ e. omega (arith, many, le, length-drop n s.bytes)) (λ e. omega (arith, is))

within_ends : {A : Type 0} (end n : ℕ) (read : Rest → Result (A × Rest) LinkFault) (s : Rest) → ((t : Rest) → t.at + length t.bytes ≤ end → ByEnd link_place end (EndsBy end) (read t)) → s.at + length s.bytes ≤ end
    → ByEnd link_place end (EndsBy end) (within short_from out_of_range n read s)
within_ends end n read s each le =
    either link_place end (EndsBy end) (ltb (length s.bytes) n) _ _ (λ cut. omega (arith, le))
    (λ there. let many : n ≤ length s.bytes = ltb-false _ _ there in
    step link_place end (EndsBy end) (EndsBy end) (read (record { at = s.at; bytes = take n s.bytes })) _ (each (record { at = s.at; bytes = take n s.bytes }) (omega (arith, le, length-take n s.bytes))) (λ x is. filled_ends end n s x many le is))

entries_end : (catalogue : CatalogueState) (count len : ℕ) (s : Rest) (end : ℕ) → s.at + length s.bytes ≤ end → ByEnd link_place end (EndsBy end) (next_entries catalogue count len s)
entries_end catalogue count len s end le =
    within_ends end len (λ t. reported_as of_entry (times (next_entry catalogue) count t)) s
    (λ t there. reported_again entry_place link_place end (EndsBy end) of_entry (times (next_entry catalogue) count t) (λ fault. refl) (times_end entry_place end (next_entry catalogue) (λ u. entry_ends catalogue u end) count t there)) le

gate_ends : (s : Rest) (end : ℕ) → s.at + length s.bytes ≤ end → ByEnd link_place end (EndsBy end) (reported_as as_link_fault (next_byte s))
gate_ends s end le = reported_again short_place link_place end (EndsBy end) as_link_fault (next_byte s) (λ fault. refl) (byte_ends s end le)

entries_and_gate_end : (catalogue : CatalogueState) (count len : ℕ) (s : Rest) (end : ℕ) → s.at + length s.bytes ≤ end → ByEnd link_place end (EndsBy end) (entries_and_gate catalogue count len s)
entries_and_gate_end catalogue count len s end le =
    step link_place end (EndsBy end) (EndsBy end) (next_entries catalogue count len s) _ (entries_end catalogue count len s end le)
    (λ txns is. step link_place end (EndsBy end) (EndsBy end) (reported_as as_link_fault (next_byte txns.1)) _ (gate_ends txns.1 end is) (λ gate done. done))

counted_ends : (catalogue : CatalogueState) (count : ℕ) (s : Rest) (end : ℕ) → s.at + length s.bytes ≤ end → ByEnd link_place end (EndsBy end) (counted_link catalogue count s)
unfolding counted_link
counted_ends catalogue count s end le =
    step link_place end (EndsBy end) (EndsBy end) (link_number s) _ (number_ends s end le)
    (λ len is. either link_place end (EndsBy end) (ltb MAX_ENTRIES_LEN len.0) _ _ (λ e. omega (arith, le)) (λ e. within_ends end (len.0 + 1) (entries_and_gate catalogue count len.0) len.1 (λ t there. entries_and_gate_end catalogue count len.0 t end there) is))

link_ends : (catalogue : CatalogueState) (s : Rest) (end : ℕ) → s.at + length s.bytes ≤ end → ByEnd link_place end (EndsBy end) (next_link catalogue s)
unfolding next_link
link_ends catalogue s end le =
    step link_place end (EndsBy end) (EndsBy end) (link_number s) _ (number_ends s end le)
    (λ count is. either link_place end (EndsBy end) (eqb count.0 0 || ltb MAX_TXNS count.0) _ _ (λ e. omega (arith, le)) (λ e. counted_ends catalogue count.0 count.1 end is))

-- so a fault stands no further than the end
pub fault_inside : (catalogue : CatalogueState) (s : Rest) (fault : LinkFault) → next_link catalogue s ≡ Err fault → fault.at ≤ s.at + length s.bytes
fault_inside catalogue s fault e = subst (λ r. ByEnd link_place (s.at + length s.bytes) (EndsBy (s.at + length s.bytes)) r) e (link_ends catalogue s (s.at + length s.bytes) (omega arith))

-- the same of what a reader of a list of bytes says
pub fault_there : (catalogue : CatalogueState) (bytes : List ℕ) (at : ℕ) (refusal : Refusal LinkFault) (fault : LinkFault) → refusal ≡ Fault fault → Fails refusal (next_link catalogue (from bytes at)) → fault.at ≤ at + length (drop at bytes)
fault_there catalogue bytes at refusal fault is fails = fault_inside catalogue (from bytes at) fault (subst (λ (r : Refusal LinkFault). Fails r (next_link catalogue (from bytes at))) is fails)
