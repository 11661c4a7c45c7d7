-- Reading the parts of a checkpoint in a piece as in all bytes.
use Rattle.std.proofs.Common.{◌≡◌, ◌∙◌, inl, inr, ℕ, ◌+◌, ◌*◌, ◌≤◌, Bool, true, false, cond, eqb, List, ◌++◌, length, take, drop, Option, Result, Ok, Err, refl, ap, arith}
use Rattle.std.specs.Prelude.{nat_eq}
use Rattle.std.specs.Int.{w16, w64}
use Rattle.std.specs.Cmp.Lexicographic.{pointwise}
use Rattle.std.proofs.lemmas.List.{append-nil, length-drop, length-take, take-append-le, drop-append-le}
use Rattle.pac_value.specs.declared.values.Key.{Key}
use Rattle.pac_value.specs.declared.values.Value.{Value}
use Rattle.pac_value.specs.Expressions.{◌>>=◌}
use Rattle.pac_types.specs.declared.table.Table.{Table}
use Rattle.pac_types.specs.WellFormed.{types}
use Rattle.pac_bytes.specs.declared.fault.Short.{Short as AShort}
use Rattle.pac_bytes.specs.declared.fault.TypedFault.{TypedFault}
use Rattle.pac_bytes.specs.declared.fault.TypedFault.TheVariants as typed
use Rattle.pac_bytes.specs.Reading.{Rest, advanced, reported_as}
use Rattle.pac_bytes.specs.Typed.{next_values}
use Rattle.pac_check.specs.declared.damage.SlotDamageKind.TheVariants.{Range, Order}
use Rattle.pac_check.specs.declared.damage.SlotFault.{SlotFault}
use Rattle.pac_outside.specs.declared.devices.LogName.TheVariants.{Log, LogB}
use Rattle.pac_check.specs.declared.head.Head.{Head}
use Rattle.pac_check.specs.declared.head.SlotForm.{SlotForm}
use Rattle.pac_check.specs.declared.head.SlotForm.TheVariants.{First, Later}
use Rattle.pac_check.specs.Kinds.{slot_fault, as_slot_fault, of_typed}
use Rattle.pac_check.specs.Checkpoints.{KeyedRow, checkpoint_name, is_above}
use Rattle.pac_check.specs.CheckpointReading.{slot_number, next_name, next_form, next_count, next_front, next_head, next_row, of_segment}
use Rattle.pac_check.proofs.CheckpointLemmas.{same_bytes}
use Rattle.pac_check.proofs.AlikeLemmas.{short_placed, typed_placed, slot_placed, whole, HasEnough, Alike, bound, mapped, reported, tested, none_read, wider, byte_alike, uint_alike, key_alike, values_alike}

-- the most bytes that a row of the table has
abbrev pub row_room : Table → ℕ
row_room table = 66 + 66 * length (types table.columns)

module _ (base : ℕ) (more : List ℕ) where
  of_typed_alike : {A : Type 0} (n : ℕ) (s : Rest) (r r' : Result (A × Rest) TypedFault) → Alike base more typed_placed n s r r' → Alike base more slot_placed n s (reported_as of_typed r) (reported_as of_typed r')
  of_typed_alike n s r r' a = reported base more typed_placed slot_placed of_typed moves stays n s r r' a
    where
      moves : (f : TypedFault) → of_typed (typed_placed.further base f) ≡ slot_placed.further base (of_typed f)
      moves (typed.Short at) = refl
      moves (typed.Tag at) = refl
      moves (typed.Wrong at) = refl

      stays : (f : TypedFault) → slot_placed.place (of_typed f) ≡ typed_placed.place f
      stays (typed.Short at) = refl
      stays (typed.Tag at) = refl
      stays (typed.Wrong at) = refl

  short_slot : {A : Type 0} (n : ℕ) (s : Rest) (r r' : Result (A × Rest) AShort) → Alike base more short_placed n s r r' → Alike base more slot_placed n s (reported_as as_slot_fault r) (reported_as as_slot_fault r')
  short_slot n s r r' a = reported base more short_placed slot_placed as_slot_fault (λ f. refl) (λ f. refl) n s r r' a

  pub wide_alike : (s : Rest) → HasEnough base more 8 s → Alike base more slot_placed 8 s (slot_number w64 s) (slot_number w64 (whole base more s))
  wide_alike s enough = short_slot 8 s _ _ (uint_alike base more w64 s enough)

  -- ---- the head

  same_name : (s : Rest) → HasEnough base more 8 s → take 8 (s.bytes ++ more) ≡ take 8 s.bytes
  same_name s (inl long) = take-append-le 8 s.bytes more long
  same_name s (inr none) = ap (λ (l : List ℕ). take 8 l) (ap (λ (l : List ℕ). s.bytes ++ l) none ∙ append-nil s.bytes)

  long_name : (later : Bool) (front : List ℕ) → pointwise nat_eq (take 8 front) (checkpoint_name later) ≡ true → 8 ≤ length front
  long_name false front is = omega (arith, ap (λ (l : List ℕ). length l) (same_bytes (take 8 front) (checkpoint_name false) is), length-take 8 front)
  long_name true front is = omega (arith, ap (λ (l : List ℕ). length l) (same_bytes (take 8 front) (checkpoint_name true) is), length-take 8 front)

  named : (s : Rest) (later : Bool) → 8 ≤ length s.bytes → ◌≡◌ {A = Result (Bool × Rest) SlotFault} (Ok (later, advanced 8 (whole base more s))) (Ok (later, whole base more (advanced 8 s)))
  named s later long = ap (λ (l : List ℕ). found l (base + s.at + 8)) (drop-append-le 8 s.bytes more long) ∙ ap (λ (n : ℕ). found (drop 8 s.bytes ++ more) n) (omega arith)
    where
      found : List ℕ → ℕ → Result (Bool × Rest) SlotFault
      found l n = Ok (later, record { at = n; bytes = l })

  name_alike : (s : Rest) → HasEnough base more 8 s → Alike base more slot_placed 8 s (next_name s) (next_name (whole base more s))
  name_alike s enough = rw (same_name s enough) (
      tested base more slot_placed 8 s (pointwise nat_eq (take 8 s.bytes) (checkpoint_name false)) _ _ _ _ (λ e. there false (long_name false s.bytes e))
      (λ none. tested base more slot_placed 8 s (pointwise nat_eq (take 8 s.bytes) (checkpoint_name true)) _ _ _ _ (λ e. there true (long_name true s.bytes e)) (λ e. (refl, omega arith))))
    where
      there : (later : Bool) → 8 ≤ length s.bytes → Alike base more slot_placed 8 s (Ok (later, advanced 8 s)) (Ok (later, advanced 8 (whole base more s)))
      there later long = (named s later long, omega (arith, length-drop 8 s.bytes, long), omega (arith, length-drop 8 s.bytes, long), omega arith)

  -- the form, after its name
  form_alike : (later : Bool) (s : Rest) → HasEnough base more 1 s → Alike base more slot_placed 1 s (next_form later s) (next_form later (whole base more s))
  form_alike false s enough =
      let here : Result (SlotForm × Rest) SlotFault = Ok (First, s) in
      let there : Result (SlotForm × Rest) SlotFault = Ok (First, whole base more s) in
      wider base more slot_placed 0 1 s here there (omega arith) (none_read base more slot_placed 0 s First)
  form_alike true s enough = bound base more slot_placed 1 0 s _ _ (of_segment s.at) (of_segment (base + s.at)) enough
      (λ h. short_slot 1 s _ _ (byte_alike base more s h))
      (λ p later h. tested base more slot_placed 0 p.1 (eqb p.0 0) _ _ _ _ (λ e. none_read base more slot_placed 0 p.1 (Later Log))
      (λ e. tested base more slot_placed 0 p.1 (eqb p.0 1) _ _ _ _ (λ f. none_read base more slot_placed 0 p.1 (Later LogB)) (λ f. (refl, omega (arith, later)))))

  count_alike : (tables : ℕ) (s : Rest) → HasEnough base more 2 s → Alike base more slot_placed 2 s (next_count tables s) (next_count tables (whole base more s))
  count_alike tables s enough = bound base more slot_placed 2 0 s _ _ (of_count s.at) (of_count (base + s.at)) enough
      (λ h. short_slot 2 s _ _ (uint_alike base more w16 s h))
      (λ p later h. tested base more slot_placed 0 p.1 (eqb p.0 tables) _ _ _ _ (λ e. none_read base more slot_placed 0 p.1 p.0) (λ e. (refl, omega (arith, later))))
    where
      of_count : ℕ → ℕ × Rest → Result (ℕ × Rest) SlotFault
      of_count at count = cond (eqb count.0 tables) (Ok count) (Err (slot_fault Range at))

  pub front_alike : (s : Rest) → HasEnough base more 25 s → Alike base more slot_placed 25 s (next_front s) (next_front (whole base more s))
  unfolding next_front
  front_alike s enough = bound base more slot_placed 8 17 s _ _ after_name after_name enough
      (λ h. name_alike s h)
      (λ name later h. bound base more slot_placed 8 9 name.1 _ _ (after_txns name.0) (after_txns name.0) h
      (λ k. wide_alike name.1 k)
      (λ txns later_still k. bound base more slot_placed 8 1 txns.1 _ _ (after_place name.0 txns.0) (after_place name.0 txns.0) k
      (λ l. wide_alike txns.1 l)
      (λ place last l. mapped base more slot_placed 1 place.1 (λ (form : SlotForm). the_head txns.0 place.0 form) _ _ (form_alike name.0 place.1 l))))
    where
      the_head : ℕ → ℕ → SlotForm → Head
      the_head txns place form = record { txns = txns; place = place; form = form }

      after_place : Bool → ℕ → ℕ × Rest → Result (Head × Rest) SlotFault
      after_place later txns place = next_form later place.1 >>= λ form. Ok (the_head txns place.0 form.0, form.1)

      after_txns : Bool → ℕ × Rest → Result (Head × Rest) SlotFault
      after_txns later txns = slot_number w64 txns.1 >>= after_place later txns.0

      after_name : Bool × Rest → Result (Head × Rest) SlotFault
      after_name name = slot_number w64 name.1 >>= after_txns name.0

  pub head_alike : (tables : ℕ) (s : Rest) → HasEnough base more 27 s → Alike base more slot_placed 27 s (next_head tables s) (next_head tables (whole base more s))
  unfolding next_head
  head_alike tables s enough = bound base more slot_placed 25 2 s _ _ after_front after_front enough
      (λ h. front_alike s h)
      (λ front later h. mapped base more slot_placed 2 front.1 (λ (count : ℕ). front.0) _ _ (count_alike tables front.1 h))
    where
      after_front : Head × Rest → Result (Head × Rest) SlotFault
      after_front front = next_count tables front.1 >>= λ count. Ok (front.0, count.1)

  -- ---- a row

  pub row_alike : (table : Table) (before : Option Key) (s : Rest) → HasEnough base more (row_room table) s → Alike base more slot_placed (row_room table) s (next_row table before s) (next_row table before (whole base more s))
  unfolding next_row
  row_alike table before s enough = bound base more slot_placed 66 (66 * length (types table.columns)) s _ _ (after_key s.at) (after_key (base + s.at)) enough
      (λ h. of_typed_alike 66 s _ _ (key_alike base more table.key s h))
      (λ key later h. tested base more slot_placed (66 * length (types table.columns)) key.1 (is_above before key.0) _ _ _ _
      (λ e. mapped base more slot_placed (66 * length (types table.columns)) key.1 (λ (values : List Value). (key.0, values)) _ _ (of_typed_alike (66 * length (types table.columns)) key.1 _ _ (values_alike base more (types table.columns) key.1 h)))
      (λ e. (refl, omega (arith, later))))
    where
      after_key : ℕ → Key × Rest → Result (KeyedRow × Rest) SlotFault
      after_key at key = cond (is_above before key.0) (reported_as of_typed (next_values (types table.columns) key.1) >>= λ values. Ok ((key.0, values.0), values.1)) (Err (slot_fault Order at))
