-- A checkpoint is a codec.
use Rattle.std.proofs.Common.{◌≡◌, ◌∙◌, ℕ, zero, suc, ◌+◌, ◌<◌, ◌^◌, Bool, true, false, cond, ◌&&◌, eqb, List, [], ◌∷◌, ◌++◌, length, take, drop, Option, Some, None, Result, Ok, Err, refl, sym, ap, ap₂, subst, arith, append_assoc}
use Rattle.std.specs.Prelude.{pos, nat_eq}
use Rattle.std.specs.List.{flat_map, AllByRecursion, AllZip}
use Rattle.std.specs.Int.{w16, w64, to_le_bytes}
use Rattle.std.specs.Cmp.Lexicographic.{pointwise}
use Rattle.std.proofs.lemmas.Bool.{eqb-true, eqb-false}
use Rattle.std.proofs.lemmas.List.{drop-drop, take-append-drop, append-nil}
use Rattle.std.proofs.lemmas.List.Concat.{flat_map-cons}
use Rattle.pac_value.specs.declared.values.Key.{Key}
use Rattle.pac_value.specs.declared.values.Key.TheVariants.{Int as IntKey}
use Rattle.pac_value.specs.State.{RowValues}
use Rattle.pac_value.specs.Expressions.{◌>>=◌}
use Rattle.pac_types.specs.declared.table.Table.{Table}
use Rattle.pac_types.specs.WellFormed.{types}
use Rattle.pac_bytes.specs.Reading.{Rest, from, advanced, reported_as, next_uint, along}
use Rattle.pac_bytes.specs.Readers.{IsAtStart}
use Rattle.pac_bytes.specs.Typed.{KeyHasType, key_bytes, next_key, HaveTypes, values_bytes, next_values}
use Rattle.pac_bytes.proofs.Results.{ok_same}
use Rattle.pac_bytes.proofs.Codec.{IsCodec, ended, seq, either, never, same, reported_again}
use Rattle.pac_bytes.proofs.Lists.{along_codec}
use Rattle.pac_bytes.proofs.Numbers.{uint_codec, width16, width64}
use Rattle.pac_bytes.proofs.TypedLemmas.{key_codec, values_codec}
use Rattle.pac_check.specs.declared.damage.SlotDamageKind.TheVariants.{Magic, Range, Order}
use Rattle.pac_check.specs.declared.damage.SlotFault.{SlotFault}
use Rattle.pac_outside.specs.declared.devices.LogName.{LogName}
use Rattle.pac_outside.specs.declared.devices.LogName.TheVariants.{Log, LogB}
use Rattle.pac_check.specs.declared.head.Head.{Head}
use Rattle.pac_check.specs.declared.head.SlotForm.{SlotForm}
use Rattle.pac_check.specs.declared.head.SlotForm.TheVariants.{First, Later}
use Rattle.pac_check.specs.Kinds.{slot_fault, as_slot_fault, of_typed}
use Rattle.pac_check.specs.Checkpoints.{KeyedRow, Checkpoint, checkpoint_name, front_bytes, head_bytes, is_later, segment_byte, segment_bytes, keyed_bytes, rows_bytes, checkpoint_bytes, is_above, AreAscending, IsKeyedRow, IsRowAfter, AreRowsOf, IsHead, IsCheckpoint}
use Rattle.pac_check.specs.CheckpointReading.{slot_number, next_name, next_form, next_count, next_front, next_head, next_row, next_rows, next_table, next_checkpoint}

-- ---- the head

-- bytes that pass the test are these
pub same_bytes : (a b : List ℕ) → pointwise nat_eq a b ≡ true → a ≡ b
same_bytes [] [] h = refl
same_bytes [] (y ∷ ys) h = absurd cc
same_bytes (x ∷ xs) [] h = absurd cc
same_bytes (x ∷ xs) (y ∷ ys) h = go (λ rest. same_bytes xs ys rest) (eqb x y) refl h
  where
    go : (pointwise nat_eq xs ys ≡ true → xs ≡ ys) → (b : Bool) → eqb x y ≡ b → (b && pointwise nat_eq xs ys) ≡ true → x ∷ xs ≡ y ∷ ys
    go others true e rest = ap₂ (λ (n : ℕ) (ns : List ℕ). n ∷ ns) (eqb-true _ _ e) (others rest)
    go others false e rest = absurd cc

-- one name isn't the other
other_name : pointwise nat_eq (checkpoint_name true) (checkpoint_name false) ≡ false
other_name = refl

name_codec : IsCodec (λ later. Unit {0}) checkpoint_name next_name
name_codec = record { again = λ x at more is. again x at more; found = λ s x t are e. found s x t e }
  where
    again : (x : Bool) (at : ℕ) (more : List ℕ) → next_name (record { at = at; bytes = checkpoint_name x ++ more }) ≡ Ok (x, record { at = at + length (checkpoint_name x); bytes = more })
    again false at more = refl
    again true at more = refl

    there : (s : Rest) (later x : Bool) (t : Rest) → take 8 s.bytes ≡ checkpoint_name later → ◌≡◌ {A = Result (Bool × Rest) SlotFault} (Ok (later, advanced 8 s)) (Ok (x, t)) → IsAtStart (λ later. Unit {0}) checkpoint_name s x t
    there s later x t words e =
        let both : (later, advanced 8 s) ≡ (x, t) = ok_same {F = SlotFault} (later, advanced 8 s) (x, t) e in
        subst (λ (p : Bool × Rest). IsAtStart (λ later. Unit {0}) checkpoint_name s p.0 p.1) both
        (record { bytes = sym (take-append-drop 8 s.bytes) ∙ ap (λ (w : List ℕ). w ++ drop 8 s.bytes) words; offset = offset later; form = tt })
      where
        offset : (later : Bool) → s.at + 8 ≡ s.at + length (checkpoint_name later)
        offset false = refl
        offset true = refl

    found : (s : Rest) (x : Bool) (t : Rest) → next_name s ≡ Ok (x, t) → IsAtStart (λ later. Unit {0}) checkpoint_name s x t
    found s x t e = go (pointwise nat_eq (take 8 s.bytes) (checkpoint_name false)) refl (pointwise nat_eq (take 8 s.bytes) (checkpoint_name true)) refl e
      where
        go : (b : Bool) → pointwise nat_eq (take 8 s.bytes) (checkpoint_name false) ≡ b → (c : Bool) → pointwise nat_eq (take 8 s.bytes) (checkpoint_name true) ≡ c
            → ◌≡◌ {A = Result (Bool × Rest) SlotFault} (cond b (Ok (false, advanced 8 s)) (cond c (Ok (true, advanced 8 s)) (Err (slot_fault Magic s.at)))) (Ok (x, t)) → IsAtStart (λ later. Unit {0}) checkpoint_name s x t
        go true is c other h = there s false x t (same_bytes (take 8 s.bytes) (checkpoint_name false) is) h
        go false is true other h = there s true x t (same_bytes (take 8 s.bytes) (checkpoint_name true) other) h
        go false is false other h = absurd cc

-- the name is there by a test of what stands at an offset
pub name_there : (bytes rest : List ℕ) (at : ℕ) → rest ≡ drop at bytes → pointwise nat_eq (take 8 rest) (checkpoint_name false) ≡ true → next_name (from bytes at) ≡ Ok (false, from bytes (at + 8))
name_there bytes rest at is test =
    let here : pointwise nat_eq (take 8 (drop at bytes)) (checkpoint_name false) ≡ true = subst (λ (l : List ℕ). pointwise nat_eq (take 8 l) (checkpoint_name false) ≡ true) is test in
    rw (here, drop-drop 8 at bytes) refl

pub later_there : (bytes rest : List ℕ) (at : ℕ) → rest ≡ drop at bytes → pointwise nat_eq (take 8 rest) (checkpoint_name true) ≡ true → next_name (from bytes at) ≡ Ok (true, from bytes (at + 8))
later_there bytes rest at is test =
    let here : pointwise nat_eq (take 8 (drop at bytes)) (checkpoint_name true) ≡ true = subst (λ (l : List ℕ). pointwise nat_eq (take 8 l) (checkpoint_name true) ≡ true) is test in
    let words : take 8 (drop at bytes) ≡ checkpoint_name true = same_bytes (take 8 (drop at bytes)) (checkpoint_name true) here in
    let none : pointwise nat_eq (take 8 (drop at bytes)) (checkpoint_name false) ≡ false = ap (λ (w : List ℕ). pointwise nat_eq w (checkpoint_name false)) words ∙ other_name in
    rw (none, here, drop-drop 8 at bytes) refl

pub no_name : (bytes rest : List ℕ) (at : ℕ) → rest ≡ drop at bytes → pointwise nat_eq (take 8 rest) (checkpoint_name false) ≡ false → pointwise nat_eq (take 8 rest) (checkpoint_name true) ≡ false → next_name (from bytes at) ≡ Err (slot_fault Magic at)
no_name bytes rest at is first second =
    let one : pointwise nat_eq (take 8 (drop at bytes)) (checkpoint_name false) ≡ false = subst (λ (l : List ℕ). pointwise nat_eq (take 8 l) (checkpoint_name false) ≡ false) is first in
    let two : pointwise nat_eq (take 8 (drop at bytes)) (checkpoint_name true) ≡ false = subst (λ (l : List ℕ). pointwise nat_eq (take 8 l) (checkpoint_name true) ≡ false) is second in
    rw (one, two) refl

-- the form, after its name
form_codec : (later : Bool) → IsCodec (λ form. is_later form ≡ later) segment_bytes (next_form later)
form_codec false = record { again = λ x at more is. again x at more is; found = λ s x t are e. found s x t e }
  where
    again : (x : SlotForm) (at : ℕ) (more : List ℕ) → is_later x ≡ false → next_form false (record { at = at; bytes = segment_bytes x ++ more }) ≡ Ok (x, record { at = at + length (segment_bytes x); bytes = more })
    again First at more is = ap (λ (n : ℕ). the_first n) (omega arith)
      where
        the_first : ℕ → Result (SlotForm × Rest) SlotFault
        the_first n = Ok (First, record { at = n; bytes = more })
    again (Later segment) at more is = absurd cc

    found : (s : Rest) (x : SlotForm) (t : Rest) → ◌≡◌ {A = Result (SlotForm × Rest) SlotFault} (Ok (First, s)) (Ok (x, t)) → IsAtStart (λ form. is_later form ≡ false) segment_bytes s x t
    found s x t e =
        let both : (First, s) ≡ (x, t) = ok_same {F = SlotFault} (First, s) (x, t) e in
        subst (λ (p : SlotForm × Rest). IsAtStart (λ form. is_later form ≡ false) segment_bytes s p.0 p.1) both (record { bytes = refl; offset = omega arith; form = refl })
form_codec true = record { again = λ x at more is. again x at more is; found = λ s x t are e. found s.at s.bytes x t e }
  where
    again : (x : SlotForm) (at : ℕ) (more : List ℕ) → is_later x ≡ true → next_form true (record { at = at; bytes = segment_bytes x ++ more }) ≡ Ok (x, record { at = at + length (segment_bytes x); bytes = more })
    again First at more is = absurd cc
    again (Later Log) at more is = refl
    again (Later LogB) at more is = refl

    there : (at b : ℕ) (bs : List ℕ) (segment : LogName) (x : SlotForm) (t : Rest) → b ≡ segment_byte segment → ◌≡◌ {A = Result (SlotForm × Rest) SlotFault} (Ok (Later segment, record { at = at + 1; bytes = bs })) (Ok (x, t)) → IsAtStart (λ form. is_later form ≡ true) segment_bytes (record { at = at; bytes = b ∷ bs }) x t
    there at b bs segment x t is e =
        let both : (Later segment, record { at = at + 1; bytes = bs }) ≡ (x, t) = ok_same {F = SlotFault} (Later segment, record { at = at + 1; bytes = bs }) (x, t) e in
        subst (λ (p : SlotForm × Rest). IsAtStart (λ form. is_later form ≡ true) segment_bytes (record { at = at; bytes = b ∷ bs }) p.0 p.1) both (record { bytes = ap (λ (n : ℕ). n ∷ bs) is; offset = refl; form = refl })

    found : (at : ℕ) (bytes : List ℕ) (x : SlotForm) (t : Rest) → next_form true (record { at = at; bytes = bytes }) ≡ Ok (x, t) → IsAtStart (λ form. is_later form ≡ true) segment_bytes (record { at = at; bytes = bytes }) x t
    found at [] x t e = absurd cc
    found at (b ∷ bs) x t e = go (eqb b 0) refl (eqb b 1) refl e
      where
        go : (c : Bool) → eqb b 0 ≡ c → (d : Bool) → eqb b 1 ≡ d
            → ◌≡◌ {A = Result (SlotForm × Rest) SlotFault} (cond c (Ok (Later Log, record { at = at + 1; bytes = bs })) (cond d (Ok (Later LogB, record { at = at + 1; bytes = bs })) (Err (slot_fault Range at)))) (Ok (x, t))
            → IsAtStart (λ form. is_later form ≡ true) segment_bytes (record { at = at; bytes = b ∷ bs }) x t
        go true is d other h = there at b bs Log x t (eqb-true _ _ is) h
        go false is true other h = there at b bs LogB x t (eqb-true _ _ other) h
        go false is false other h = absurd cc

wide_codec : IsCodec (λ n. n < 2 ^ 64) (to_le_bytes w64) (slot_number w64)
wide_codec = reported_again _ _ (next_uint w64) as_slot_fault (uint_codec w64 (2 ^ 64) width64)

narrow_codec : IsCodec (λ n. n < 65536) (to_le_bytes w16) (slot_number w16)
narrow_codec = reported_again _ _ (next_uint w16) as_slot_fault (uint_codec w16 65536 width16)

count_codec : (tables : ℕ) → tables < 65536 → IsCodec (λ n. n ≡ tables) (to_le_bytes w16) (next_count tables)
count_codec tables few = same _ _ _ _ (next_count tables)
    (λ n is. (is, omega (arith, is, few)))
    (λ n h. h.0)
    (λ n is. append-nil (to_le_bytes w16 n))
    (seq (λ n. n) (λ n. n < 65536) (to_le_bytes w16) (slot_number w16) (λ n. n ≡ tables) (λ n. []) (λ at n s. cond (eqb n tables) (Ok (n, s)) (Err (slot_fault Range at)))
    narrow_codec
    (λ at count lt. either _ _ (eqb count tables) (λ s. Ok (count, s)) (λ s. Err (slot_fault Range at))
    (λ right. same _ _ _ _ _ (λ n h. h.1) (λ n e. (e ∙ eqb-true _ _ right, e)) (λ n h. refl) (ended count))
    (λ wrong. never _ _ (λ s. slot_fault Range at) (λ n h. eqb-false _ _ wrong (sym h.1 ∙ h.0)))))

abbrev the_head : ℕ → ℕ → SlotForm → Head
the_head txns place form = record { txns = txns; place = place; form = form }

-- a head with these numbers and this form
head_is : (txns place : ℕ) (form : SlotForm) (head : Head) → head.txns ≡ txns → head.place ≡ place → head.form ≡ form → head ≡ the_head txns place form
head_is txns place form head t p f = ap₂ (λ (a b : ℕ). the_head a b head.form) t p ∙ ap (λ (g : SlotForm). the_head txns place g) f

abbrev IsNamed : Bool → Head → Type 0
IsNamed later head = IsHead head × (is_later head.form ≡ later)

front_after_place : (later : Bool) (txns place : ℕ) → txns < 2 ^ 64 → place < 2 ^ 64 → IsCodec (λ head. (IsNamed later head × (head.txns ≡ txns)) × (head.place ≡ place)) (λ head. segment_bytes head.form) (λ s. next_form later s >>= λ form. Ok (the_head txns place form.0, form.1))
front_after_place later txns place small_txns small_place = same _ _ _ _ _
    (λ head h. (h, h.0.0.1))
    (λ head h. h.0)
    (λ head h. append-nil (segment_bytes head.form))
    (seq (λ head. head.form) (λ form. is_later form ≡ later) segment_bytes (next_form later) (λ head. (IsNamed later head × (head.txns ≡ txns)) × (head.place ≡ place)) (λ head. []) (λ at form s. Ok (the_head txns place form, s))
    (form_codec later)
    (λ at form is. same _ _ _ _ _
    (λ head h. head_is txns place form head h.0.0.1 h.0.1 h.1)
    (λ head e. ((((subst IsHead (sym e) (record { txns = small_txns; place = small_place }), ap (λ (x : Head). is_later x.form) e ∙ is), ap (λ (x : Head). x.txns) e), ap (λ (x : Head). x.place) e), ap (λ (x : Head). x.form) e))
    (λ head h. refl)
    (ended (the_head txns place form))))

front_after_txns : (later : Bool) (txns : ℕ) → txns < 2 ^ 64 → IsCodec (λ head. IsNamed later head × (head.txns ≡ txns)) (λ head. to_le_bytes w64 head.place ++ segment_bytes head.form)
    (λ s. slot_number w64 s >>= λ place. next_form later place.1 >>= λ form. Ok (the_head txns place.0 form.0, form.1))
front_after_txns later txns small = same _ _ _ _ _
    (λ head h. (h, h.0.0.place))
    (λ head h. h.0)
    (λ head h. refl)
    (seq (λ head. head.place) (λ n. n < 2 ^ 64) (to_le_bytes w64) (slot_number w64) (λ head. IsNamed later head × (head.txns ≡ txns)) (λ head. segment_bytes head.form)
    (λ at place s. next_form later s >>= λ form. Ok (the_head txns place form.0, form.1))
    wide_codec
    (λ at place lt. front_after_place later txns place small lt))

front_after_name : (later : Bool) → IsCodec (IsNamed later) (λ head. to_le_bytes w64 head.txns ++ (to_le_bytes w64 head.place ++ segment_bytes head.form))
    (λ s. slot_number w64 s >>= λ txns. slot_number w64 txns.1 >>= λ place. next_form later place.1 >>= λ form. Ok (the_head txns.0 place.0 form.0, form.1))
front_after_name later = same _ _ _ _ _
    (λ head h. (h, h.0.txns))
    (λ head h. h.0)
    (λ head h. refl)
    (seq (λ head. head.txns) (λ n. n < 2 ^ 64) (to_le_bytes w64) (slot_number w64) (IsNamed later) (λ head. to_le_bytes w64 head.place ++ segment_bytes head.form)
    (λ at txns s. slot_number w64 s >>= λ place. next_form later place.1 >>= λ form. Ok (the_head txns place.0 form.0, form.1))
    wide_codec
    (λ at txns lt. front_after_txns later txns lt))

pub front_codec : IsCodec IsHead front_bytes next_front
unfolding next_front
front_codec = same _ _ _ _ _
    (λ head h. (h, tt))
    (λ head h. h.0)
    (λ head h. refl)
    (seq (λ head. is_later head.form) (λ later. Unit {0}) checkpoint_name next_name IsHead (λ head. to_le_bytes w64 head.txns ++ (to_le_bytes w64 head.place ++ segment_bytes head.form))
    (λ at later s. slot_number w64 s >>= λ txns. slot_number w64 txns.1 >>= λ place. next_form later place.1 >>= λ form. Ok (the_head txns.0 place.0 form.0, form.1))
    name_codec
    (λ at later is. front_after_name later))

pub head_codec : (tables : ℕ) → tables < 65536 → IsCodec IsHead (head_bytes tables) (next_head tables)
unfolding next_head
head_codec tables few = same _ _ _ _ _
    (λ head h. (tt, h))
    (λ head h. h.1)
    (λ head h. refl)
    (seq (λ head. head) IsHead front_bytes next_front (λ head. Unit {0}) (λ head. to_le_bytes w16 tables) (λ at head s. next_count tables s >>= λ count. Ok (head, count.1))
    front_codec
    (λ at front is. same _ _ _ _ _
    (λ head h. (h.1, refl))
    (λ head h. (tt, h.0))
    (λ head h. append-nil (to_le_bytes w16 tables))
    (seq (λ head. tables) (λ n. n ≡ tables) (to_le_bytes w16) (next_count tables) (λ head. head ≡ front) (λ head. []) (λ at2 n s. Ok (front, s))
    (count_codec tables few)
    (λ at2 n is_n. same _ _ _ _ _
    (λ head h. h.0)
    (λ head e. (e, sym is_n))
    (λ head h. refl)
    (ended front)))))

-- the parts of a head, written one after another
pub head_grew : (o a b c d e n t p s k : List ℕ) → a ≡ o ++ n → b ≡ a ++ t → c ≡ b ++ p → d ≡ c ++ s → e ≡ d ++ k → e ≡ o ++ ((n ++ (t ++ (p ++ s))) ++ k)
head_grew o a b c d e n t p s k one two three four five =
    let front : d ≡ o ++ (n ++ (t ++ (p ++ s))) = four ∙ ap (λ (l : List ℕ). l ++ s) (three ∙ ap (λ (l : List ℕ). l ++ p) (two ∙ ap (λ (l : List ℕ). l ++ t) one)) ∙ append_assoc ((o ++ n) ++ t) p s ∙ append_assoc (o ++ n) t (p ++ s) ∙ append_assoc o n (t ++ (p ++ s)) in
    five ∙ ap (λ (l : List ℕ). l ++ k) front ∙ append_assoc o (n ++ (t ++ (p ++ s))) k

-- ---- the rows of a table

abbrev keyed : Key → RowValues → KeyedRow
keyed key row = (key, row)

module _ (table : Table) where
  values_after : (before : Option Key) (key : Key) → KeyHasType table.key key → is_above before key ≡ true → IsCodec (λ row. (HaveTypes (types table.columns) row.1 × (is_above before row.0 ≡ true)) × (row.0 ≡ key)) (λ row. values_bytes row.1)
      (λ s. reported_as of_typed (next_values (types table.columns) s) >>= λ values. Ok (keyed key values.0, values.1))
  values_after before key form above = same _ _ _ _ _
      (λ row h. ((h.1, h.0.0), h.0.0))
      (λ row h. ((h.1, ap (is_above before) h.0.0 ∙ above), h.0.0))
      (λ row h. append-nil (values_bytes row.1))
      (seq (λ row. row.1) (HaveTypes (types table.columns)) values_bytes (λ s. reported_as of_typed (next_values (types table.columns) s)) (λ row. (row.0 ≡ key) × HaveTypes (types table.columns) row.1) (λ row. []) (λ at values s. Ok (keyed key values, s))
      (reported_again _ _ (next_values (types table.columns)) of_typed (values_codec (types table.columns)))
      (λ at values are. same _ _ _ _ _
      (λ row h. ap₂ keyed h.0.0 h.1)
      (λ row e. ((ap (λ (r : KeyedRow). r.0) e, subst (HaveTypes (types table.columns)) (sym (ap (λ (r : KeyedRow). r.1) e)) are), ap (λ (r : KeyedRow). r.1) e))
      (λ row h. refl)
      (ended (keyed key values))))

  pub row_codec : (before : Option Key) → IsCodec (IsRowAfter table before) keyed_bytes (next_row table before)
  unfolding next_row
  row_codec before = same _ _ _ _ _
      (λ row h. ((h.0.1, h.1), h.0.0))
      (λ row h. ((h.1, h.0.0), h.0.1))
      (λ row h. refl)
      (seq (λ row. row.0) (KeyHasType table.key) key_bytes (λ s. reported_as of_typed (next_key table.key s)) (λ row. HaveTypes (types table.columns) row.1 × (is_above before row.0 ≡ true)) (λ row. values_bytes row.1)
      (λ at key s. cond (is_above before key) (reported_as of_typed (next_values (types table.columns) s) >>= λ values. Ok (keyed key values.0, values.1)) (Err (slot_fault Order at)))
      (reported_again _ _ (next_key table.key) of_typed (key_codec table.key))
      (λ at key form. either _ _ (is_above before key) (λ s. reported_as of_typed (next_values (types table.columns) s) >>= λ values. Ok (keyed key values.0, values.1)) (λ s. Err (slot_fault Order at))
      (λ above. values_after before key form above)
      (λ not_above. never _ _ (λ s. slot_fault Order at) (λ row h. no_two (is_above before row.0) (is_above before key) (ap (is_above before) h.1) h.0.1 not_above))))
    where
      no_two : (a b : Bool) → a ≡ b → a ≡ true → b ≡ false → ⊥
      no_two a b e p q = cc

  -- that many rows of the table after this key
  abbrev AreAfter : Option Key → ℕ → List KeyedRow → Type 0
  AreAfter before zero [] = Unit {0}
  AreAfter before zero (row ∷ rows) = ⊥
  AreAfter before (suc n) [] = ⊥
  AreAfter before (suc n) (row ∷ rows) = IsRowAfter table before row × AreAfter (Some row.0) n rows

  abbrev IsCons : List KeyedRow → Type 0
  IsCons [] = ⊥
  IsCons (row ∷ rows) = Unit {0}

  abbrev first_of : List KeyedRow → KeyedRow
  first_of [] = (IntKey (pos 0), [])
  first_of (row ∷ rows) = row

  abbrev others_of : List KeyedRow → List KeyedRow
  others_of [] = []
  others_of (row ∷ rows) = rows

  rows_are : (row : KeyedRow) (rows xs : List KeyedRow) → IsCons xs → first_of xs ≡ row → others_of xs ≡ rows → xs ≡ row ∷ rows
  rows_are row rows [] some f o = absurd some
  rows_are row rows (x ∷ xs) some f o = ap₂ (λ (r : KeyedRow) (rs : List KeyedRow). r ∷ rs) f o

  parts : (before : Option Key) (n : ℕ) (xs : List KeyedRow) → AreAfter before (suc n) xs → (IsCons xs × AreAfter (Some (first_of xs).0) n (others_of xs)) × IsRowAfter table before (first_of xs)
  parts before n [] h = absurd h
  parts before n (x ∷ xs) h = ((tt, h.1), h.0)

  joined : (before : Option Key) (n : ℕ) (xs : List KeyedRow) → (IsCons xs × AreAfter (Some (first_of xs).0) n (others_of xs)) × IsRowAfter table before (first_of xs) → AreAfter before (suc n) xs
  joined before n [] h = absurd h.0.0
  joined before n (x ∷ xs) h = (h.1, h.0.1)

  words : (before : Option Key) (n : ℕ) (xs : List KeyedRow) → AreAfter before (suc n) xs → keyed_bytes (first_of xs) ++ flat_map keyed_bytes (others_of xs) ≡ flat_map keyed_bytes xs
  words before n [] h = absurd h
  words before n (x ∷ xs) h = sym (flat_map-cons keyed_bytes x xs)

  no_rows : (before : Option Key) (xs : List KeyedRow) → AreAfter before zero xs → xs ≡ []
  no_rows before [] h = refl
  no_rows before (x ∷ xs) h = absurd h

  no_words : (before : Option Key) (xs : List KeyedRow) → AreAfter before zero xs → [] ≡ flat_map keyed_bytes xs
  no_words before [] h = refl
  no_words before (x ∷ xs) h = absurd h

  rows_codec : (before : Option Key) (n : ℕ) → IsCodec (AreAfter before n) (λ rows. flat_map keyed_bytes rows) (next_rows table n before)
  unfolding next_rows
  rows_codec before zero = same _ _ _ _ _ (no_rows before) (λ xs e. subst (AreAfter before zero) (sym e) tt) (no_words before) (ended [])
  rows_codec before (suc n) = same _ _ _ _ _ (parts before n) (joined before n) (words before n)
      (seq first_of (IsRowAfter table before) keyed_bytes (next_row table before) (λ xs. IsCons xs × AreAfter (Some (first_of xs).0) n (others_of xs)) (λ xs. flat_map keyed_bytes (others_of xs))
      (λ at row s. next_rows table n (Some row.0) s >>= λ rows. Ok (row ∷ rows.0, rows.1))
      (row_codec before)
      (λ at row is. same _ _ _ _ _
      (λ xs h. ((h.0.0, h.1), subst (λ (r : KeyedRow). AreAfter (Some r.0) n (others_of xs)) h.1 h.0.1))
      (λ xs h. ((h.0.0, subst (λ (r : KeyedRow). AreAfter (Some r.0) n (others_of xs)) (sym h.0.1) h.1), h.0.1))
      (λ xs h. append-nil (flat_map keyed_bytes (others_of xs)))
      (seq others_of (AreAfter (Some row.0) n) (λ rows. flat_map keyed_bytes rows) (next_rows table n (Some row.0)) (λ xs. IsCons xs × (first_of xs ≡ row)) (λ xs. []) (λ at2 rows s. Ok (row ∷ rows, s))
      (rows_codec (Some row.0) n)
      (λ at2 rows are. same _ _ _ _ _
      (λ xs h. rows_are row rows xs h.0.0 h.0.1 h.1)
      (λ xs e. ((subst IsCons (sym e) tt, ap first_of e), ap others_of e))
      (λ xs h. refl)
      (ended (row ∷ rows))))))

  are_after : (before : Option Key) (rows : List KeyedRow) → AllByRecursion (IsKeyedRow table) rows → AreAscending before rows → AreAfter before (length rows) rows
  are_after before [] each ascending = tt
  are_after before (row ∷ rows) each ascending = ((each.0, ascending.0), are_after (Some row.0) rows each.1 ascending.1)

  after_are : (before : Option Key) (n : ℕ) (rows : List KeyedRow) → AreAfter before n rows → (AllByRecursion (IsKeyedRow table) rows × AreAscending before rows) × (length rows ≡ n)
  after_are before zero [] h = ((tt, tt), refl)
  after_are before zero (row ∷ rows) h = absurd h
  after_are before (suc n) [] h = absurd h
  after_are before (suc n) (row ∷ rows) h = let rest = after_are (Some row.0) n rows h.1 in (((h.0.0, rest.0.0), (h.0.1, rest.0.1)), omega (arith, rest.1))

  pub table_codec : IsCodec (AreRowsOf table) rows_bytes (next_table table)
  unfolding next_table
  table_codec = same _ _ _ _ _
      (λ rows h. ((h.each, h.ascending), h.few))
      (λ rows h. record { each = h.0.0; ascending = h.0.1; few = h.1 })
      (λ rows h. refl)
      (seq (λ rows. length rows) (λ n. n < 2 ^ 64) (to_le_bytes w64) (slot_number w64) (λ rows. AllByRecursion (IsKeyedRow table) rows × AreAscending None rows) (λ rows. flat_map keyed_bytes rows) (λ at n s. next_rows table n None s)
      wide_codec
      (λ at n lt. same _ _ _ _ _
      (λ rows h. subst (λ (k : ℕ). AreAfter None k rows) h.1 (are_after None rows h.0.0 h.0.1))
      (λ rows h. after_are None n rows h)
      (λ rows h. refl)
      (rows_codec None n)))

-- ---- all of it

as_many_tables : (tables : List Table) (rows : List (List KeyedRow)) → AllZip AreRowsOf tables rows → length rows ≡ length tables
as_many_tables [] [] h = refl
as_many_tables [] (row ∷ rows) h = absurd h
as_many_tables (table ∷ tables) [] h = absurd h
as_many_tables (table ∷ tables) (row ∷ rows) h = ap suc (as_many_tables tables rows h.1)

abbrev the_checkpoint : Head → List (List KeyedRow) → Checkpoint
the_checkpoint head rows = record { head = head; tables = rows }

pub checkpoint_codec : (tables : List Table) → length tables < 65536 → IsCodec (IsCheckpoint tables) checkpoint_bytes (next_checkpoint tables)
unfolding next_checkpoint
checkpoint_codec tables few = same _ _ _ _ _
    (λ c h. (h.rows, h.head))
    (λ c h. record { head = h.1; rows = h.0 })
    (λ c h. ap (λ (n : ℕ). head_bytes n c.head ++ flat_map rows_bytes c.tables) (sym (as_many_tables tables c.tables h.rows)))
    (seq (λ c. c.head) IsHead (head_bytes (length tables)) (next_head (length tables)) (λ c. AllZip AreRowsOf tables c.tables) (λ c. flat_map rows_bytes c.tables)
    (λ at head s. along next_table tables s >>= λ rows. Ok (the_checkpoint head rows.0, rows.1))
    (head_codec (length tables) few)
    (λ at head is. same _ _ _ _ _
    (λ c h. (h.1, h.0))
    (λ c h. (h.1, h.0))
    (λ c h. append-nil (flat_map rows_bytes c.tables))
    (seq (λ c. c.tables) (λ rows. AllZip AreRowsOf tables rows) (λ rows. flat_map rows_bytes rows) (along next_table tables) (λ c. c.head ≡ head) (λ c. []) (λ at2 rows s. Ok (the_checkpoint head rows, s))
    (along_codec AreRowsOf rows_bytes next_table table_codec tables)
    (λ at2 rows are. same _ _ _ _ _
    (λ c h. ap₂ the_checkpoint h.0 h.1)
    (λ c e. (ap (λ (x : Checkpoint). x.head) e, ap (λ (x : Checkpoint). x.tables) e))
    (λ c h. refl)
    (ended (the_checkpoint head rows))))))
