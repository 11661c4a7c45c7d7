-- Records, and lists of them, are codecs.
use Rattle.std.proofs.Common.{◌≡◌, ◌∙◌, ℕ, ◌<◌, ◌≤◌, ◌||◌, Bool, true, false, cond, eqb, ltb, List, [], ◌∷◌, ◌++◌, map, length, Option, Some, None, Result, Ok, Err, IsSomeAnd, refl, sym, ap, subst, arith}
use Rattle.std.specs.Prelude.{slice_get, ok_or}
use Rattle.std.specs.Option.{option_map}
use Rattle.std.specs.List.{flat_map, All, AllByRecursion}
use Rattle.std.specs.Int.{w16, to_le_bytes}
use Rattle.std.proofs.lemmas.Bool.{eqb-true, eqb-false, ltb-true, ltb-false}
use Rattle.std.proofs.lemmas.List.{append-nil}
use Rattle.std.proofs.lemmas.List.Elements.{All-nil, All-cons, All-head, All-tail}
use Rattle.std.proofs.lemmas.Option.{slice_get-map, slice_get_within}
use Rattle.pac_value.specs.declared.values.Key.{Key}
use Rattle.pac_value.specs.declared.values.Value.{Value}
use Rattle.pac_value.specs.Expressions.{◌>>=◌}
use Rattle.pac_value.specs.Values.{key_value}
use Rattle.pac_ops.specs.declared.limits.TheConstants.{MAX_RECORDS}
use Rattle.pac_ops.specs.declared.transaction.Change.{Change}
use Rattle.pac_ops.specs.declared.transaction.Change.TheVariants.{Put, Delete}
use Rattle.pac_ops.specs.Shapes.{KeyFits, ColumnsFit, ChangeFits, RecordsFit}
use Rattle.pac_ops.specs.Sizes.{HasOneTo}
use Rattle.pac_types.specs.declared.table.Table.{Table}
use Rattle.pac_types.specs.Fits.{shape}
use Rattle.pac_types.specs.WellFormed.{types}
use Rattle.pac_bytes.specs.Reading.{Rest, reported_as, times}
use Rattle.pac_bytes.specs.Values.{HasBytes}
use Rattle.pac_bytes.specs.Typed.{key_bytes, KeyHasType, HaveTypes, next_key}
use Rattle.pac_bytes.proofs.Results.{not_both}
use Rattle.pac_bytes.proofs.Codec.{IsCodec, ended, seq, either, never, same, reported_again}
use Rattle.pac_bytes.proofs.Lists.{times_codec}
use Rattle.pac_bytes.proofs.Numbers.{IsByte, one_byte}
use Rattle.pac_bytes.proofs.TypedLemmas.{key_codec}
use Rattle.pac_entry.specs.declared.fault.EntryFault.{EntryFault}
use Rattle.pac_entry.specs.declared.fault.EntryFaultKind.TheVariants.{Tag, UnknownTable, WrongRow, TooMany}
use Rattle.pac_entry.specs.Kinds.{fault_at, as_fault_of}
use Rattle.pac_entry.specs.Entries.{counted_bytes, change_bytes, ChangeHasBytes, IsRecord}
use Rattle.pac_entry.specs.EntryReading.{entry_byte, entry_number, counted_values, next_put, next_delete, next_change, next_records}
use Rattle.pac_entry.proofs.RowLemmas.{entry_byte_codec, entry_number_codec, counted_codec}

-- the tables have numbers of two bytes, and their columns a number of one
pub record AreFewTables (tables : List Table) : Type 0 where
  pub count : length tables < 65536
  pub columns : (n : ℕ) (table : Table) → slice_get tables n ≡ Some table → length table.columns < 256

-- ---- the parts of a record

abbrev key_of : Change → Key
key_of (Put t k r) = k
key_of (Delete t k) = k

abbrev row_of : Change → List Value
row_of (Put t k r) = r
row_of (Delete t k) = []

abbrev table_of : Change → ℕ
table_of (Put t k r) = t
table_of (Delete t k) = t

abbrev tag_of : Change → ℕ
tag_of (Put t k r) = 1
tag_of (Delete t k) = 2

-- what stands after the table's number
abbrev after_table : Change → List ℕ
after_table (Put t k r) = key_bytes k ++ counted_bytes r
after_table (Delete t k) = key_bytes k

-- what stands after the tag
abbrev after_tag : Change → List ℕ
after_tag c = to_le_bytes w16 (table_of c) ++ after_table c

-- a record of this table that has bytes
abbrev FitsHere : Option Table → Change → Type 0
FitsHere None c = ⊥
FitsHere (Some table) (Put t k r) = KeyHasType table.key k × HaveTypes (types table.columns) r
FitsHere (Some table) (Delete t k) = KeyHasType table.key k

-- ---- a record of the tables, by its own table

row_here : (o : Option Table) (t : ℕ) (k : Key) (r : List Value) → IsSomeAnd (option_map shape o) (λ table. KeyFits k table × ColumnsFit r table) → HasBytes (key_value k) × All HasBytes r → FitsHere o (Put t k r)
row_here None t k r h b = absurd h
row_here (Some table) t k r h b = ((b.0, sym h.0), (h.1, b.1))

key_here : (o : Option Table) (t : ℕ) (k : Key) → IsSomeAnd (option_map shape o) (KeyFits k) → HasBytes (key_value k) → FitsHere o (Delete t k)
key_here None t k h b = absurd h
key_here (Some table) t k h b = (b, sym h)

row_there : (o : Option Table) (t : ℕ) (k : Key) (r : List Value) → FitsHere o (Put t k r) → IsSomeAnd (option_map shape o) (λ table. KeyFits k table × ColumnsFit r table) × (HasBytes (key_value k) × All HasBytes r)
row_there None t k r h = absurd h
row_there (Some table) t k r h = ((sym h.0.1, h.1.0), (h.0.0, h.1.1))

key_there : (o : Option Table) (t : ℕ) (k : Key) → FitsHere o (Delete t k) → IsSomeAnd (option_map shape o) (KeyFits k) × HasBytes (key_value k)
key_there None t k h = absurd h
key_there (Some table) t k h = (sym h.1, h.0)

here : (tables : List Table) (c : Change) → IsRecord tables c → FitsHere (slice_get tables (table_of c)) c
here tables (Put t k r) h = row_here (slice_get tables t) t k r (subst (λ o. IsSomeAnd o (λ table. KeyFits k table × ColumnsFit r table)) (slice_get-map shape tables t) h.0) h.1
here tables (Delete t k) h = key_here (slice_get tables t) t k (subst (λ o. IsSomeAnd o (KeyFits k)) (slice_get-map shape tables t) h.0) h.1

there : (tables : List Table) (c : Change) → FitsHere (slice_get tables (table_of c)) c → IsRecord tables c
there tables (Put t k r) h =
    let both = row_there (slice_get tables t) t k r h in
    (subst (λ o. IsSomeAnd o (λ table. KeyFits k table × ColumnsFit r table)) (sym (slice_get-map shape tables t)) both.0, both.1)
there tables (Delete t k) h =
    let both = key_there (slice_get tables t) t k h in
    (subst (λ o. IsSomeAnd o (KeyFits k)) (sym (slice_get-map shape tables t)) both.0, both.1)

within : (tables : List Table) (n : ℕ) (c : Change) (o : Option Table) → slice_get tables n ≡ o → FitsHere o c → n < length tables
within tables n c None is h = absurd h
within tables n c (Some table) is h = slice_get_within tables n table is

-- ---- after the table's number

-- a put, or a delete, of a table
abbrev OfTable : ℕ → Option Table → Change → Type 0
OfTable tag o c = FitsHere o c × (tag_of c ≡ tag)

record PutIs (n : ℕ) (key : Key) (c : Change) : Type 0 where
  is_put : tag_of c ≡ 1
  table : table_of c ≡ n
  key_is : key_of c ≡ key

put_is : (n : ℕ) (key : Key) (row : List Value) (c : Change) → PutIs n key c → row_of c ≡ row → c ≡ Put n key row
put_is n key row (Put t k r) p v = put_same p.table p.key_is v
  where
    put_same : t ≡ n → k ≡ key → r ≡ row → Put t k r ≡ Put n key row
    put_same a b c = cc
put_is n key row (Delete t k) p v = absurd (omega (arith, p.is_put))

delete_is : (n : ℕ) (key : Key) (c : Change) → tag_of c ≡ 2 → table_of c ≡ n → key_of c ≡ key → c ≡ Delete n key
delete_is n key (Put t k r) tag a b = absurd (omega (arith, tag))
delete_is n key (Delete t k) tag a b = delete_same a b
  where
    delete_same : t ≡ n → k ≡ key → Delete t k ≡ Delete n key
    delete_same x y = cc

put_key : (table : Table) (c : Change) → OfTable 1 (Some table) c → KeyHasType table.key (key_of c)
put_key table (Put t k r) h = h.0.0
put_key table (Delete t k) h = h.0

put_row : (table : Table) (c : Change) → OfTable 1 (Some table) c → HaveTypes (types table.columns) (row_of c)
put_row table (Put t k r) h = h.0.1
put_row table (Delete t k) h = absurd (omega (arith, h.1))

put_joined : (table : Table) (c : Change) → tag_of c ≡ 1 → KeyHasType table.key (key_of c) → HaveTypes (types table.columns) (row_of c) → OfTable 1 (Some table) c
put_joined table (Put t k r) tag a b = ((a, b), tag)
put_joined table (Delete t k) tag a b = absurd (omega (arith, tag))

put_words : (c : Change) → tag_of c ≡ 1 → key_bytes (key_of c) ++ counted_bytes (row_of c) ≡ after_table c
put_words (Put t k r) tag = refl
put_words (Delete t k) tag = absurd (omega (arith, tag))

delete_key : (table : Table) (c : Change) → OfTable 2 (Some table) c → KeyHasType table.key (key_of c)
delete_key table (Put t k r) h = h.0.0
delete_key table (Delete t k) h = h.0

delete_joined : (table : Table) (c : Change) → tag_of c ≡ 2 → KeyHasType table.key (key_of c) → OfTable 2 (Some table) c
delete_joined table (Put t k r) tag a = absurd (omega (arith, tag))
delete_joined table (Delete t k) tag a = (a, tag)

delete_words : (c : Change) → tag_of c ≡ 2 → key_bytes (key_of c) ≡ after_table c
delete_words (Put t k r) tag = absurd (omega (arith, tag))
delete_words (Delete t k) tag = refl

here_key_codec : (table : Table) → IsCodec (KeyHasType table.key) key_bytes (λ s. reported_as (as_fault_of WrongRow) (next_key table.key s))
here_key_codec table = reported_again _ _ (next_key table.key) (as_fault_of WrongRow) (key_codec table.key)

-- the table is there, and the rest is read by its types
of_table : (tables : List Table) (tag at n : ℕ) (rest : Table → Rest → Result (Change × Rest) EntryFault)
    → ((table : Table) → slice_get tables n ≡ Some table → IsCodec (λ c. OfTable tag (Some table) c × (table_of c ≡ n)) after_table (rest table))
    → (o : Option Table) → slice_get tables n ≡ o
    → IsCodec (λ c. OfTable tag (slice_get tables (table_of c)) c × (table_of c ≡ n)) after_table (λ s. ok_or o (fault_at UnknownTable at) >>= λ table. rest table s)
of_table tables tag at n rest each None is = never _ _ (λ s. fault_at UnknownTable at) (λ c h. none c (subst (λ (o : Option Table). OfTable tag o c) (ap (λ (k : ℕ). slice_get tables k) h.1 ∙ is) h.0))
  where
    none : (c : Change) → OfTable tag None c → ⊥
    none c h = h.0
of_table tables tag at n rest each (Some table) is = same _ _ _ _ (rest table)
    (λ c h. (subst (λ (o : Option Table). OfTable tag o c) (ap (λ (k : ℕ). slice_get tables k) h.1 ∙ is) h.0, h.1))
    (λ c h. (subst (λ (o : Option Table). OfTable tag o c) (sym (ap (λ (k : ℕ). slice_get tables k) h.1 ∙ is)) h.0, h.1))
    (λ c h. refl)
    (each table is)

-- a put of a table, after the table's number
abbrev put_of : ℕ → Table → Rest → Result (Change × Rest) EntryFault
put_of n table s = reported_as (as_fault_of WrongRow) (next_key table.key s) >>= λ key. counted_values WrongRow table.columns key.1 >>= λ row. Ok (Put n key.0 row.0, row.1)

-- a delete of a table, after the table's number
abbrev delete_of : ℕ → Table → Rest → Result (Change × Rest) EntryFault
delete_of n table s = reported_as (as_fault_of WrongRow) (next_key table.key s) >>= λ key. Ok (Delete n key.0, key.1)

put_rest : (n : ℕ) (table : Table) → length table.columns < 256 → IsCodec (λ c. OfTable 1 (Some table) c × (table_of c ≡ n)) after_table (put_of n table)
put_rest n table short = same _ _ _ _ _
    (λ c h. ((record { is_put = h.0.1; table = h.1; key_is = refl }, put_row table c h.0), put_key table c h.0))
    (λ c h. (put_joined table c h.0.0.is_put h.1 h.0.1, h.0.0.table))
    (λ c h. put_words c h.0.1)
    (seq key_of (KeyHasType table.key) key_bytes (λ s. reported_as (as_fault_of WrongRow) (next_key table.key s)) (λ c. PutIs n (key_of c) c × HaveTypes (types table.columns) (row_of c)) (λ c. counted_bytes (row_of c))
    (λ at key s. counted_values WrongRow table.columns s >>= λ row. Ok (Put n key row.0, row.1))
    (here_key_codec table)
    (λ at key is. same _ _ _ _ _
    (λ c h. (subst (λ (k : Key). PutIs n k c) h.1 h.0.0, h.0.1))
    (λ c h. ((subst (λ (k : Key). PutIs n k c) (sym h.0.key_is) h.0, h.1), h.0.key_is))
    (λ c h. append-nil (counted_bytes (row_of c)))
    (seq row_of (HaveTypes (types table.columns)) counted_bytes (counted_values WrongRow table.columns) (λ c. PutIs n key c) (λ c. []) (λ at2 row s. Ok (Put n key row, s))
    (counted_codec WrongRow table.columns short)
    (λ at2 row are. same _ _ _ _ _
    (λ c h. put_is n key row c h.0 h.1)
    (λ c e. subst (λ (x : Change). PutIs n key x × (row_of x ≡ row)) (sym e) (record { is_put = refl; table = refl; key_is = refl }, refl))
    (λ c h. refl)
    (ended (Put n key row))))))

delete_rest : (n : ℕ) (table : Table) → IsCodec (λ c. OfTable 2 (Some table) c × (table_of c ≡ n)) after_table (delete_of n table)
delete_rest n table = same _ _ _ _ _
    (λ c h. ((h.0.1, h.1), delete_key table c h.0))
    (λ c h. (delete_joined table c h.0.0 h.1, h.0.1))
    (λ c h. append-nil (key_bytes (key_of c)) ∙ delete_words c h.0.1)
    (seq key_of (KeyHasType table.key) key_bytes (λ s. reported_as (as_fault_of WrongRow) (next_key table.key s)) (λ c. (tag_of c ≡ 2) × (table_of c ≡ n)) (λ c. []) (λ at key s. Ok (Delete n key, s))
    (here_key_codec table)
    (λ at key is. same _ _ _ _ _
    (λ c h. delete_is n key c h.0.0 h.0.1 h.1)
    (λ c e. subst (λ (x : Change). ((tag_of x ≡ 2) × (table_of x ≡ n)) × (key_of x ≡ key)) (sym e) ((refl, refl), refl))
    (λ c h. refl)
    (ended (Delete n key))))

-- ---- after the tag

abbrev After : List Table → ℕ → Change → Type 0
After tables tag c = IsRecord tables c × (tag_of c ≡ tag)

-- what follows a tag is the number of a table that is there, and what follows that
numbered : (tables : List Table) (tag : ℕ) (rest : ℕ → Table → Rest → Result (Change × Rest) EntryFault) → AreFewTables tables
    → ((n : ℕ) (table : Table) → slice_get tables n ≡ Some table → IsCodec (λ c. OfTable tag (Some table) c × (table_of c ≡ n)) after_table (rest n table))
    → IsCodec (After tables tag) after_tag (λ s. entry_number s >>= λ n. ok_or (slice_get tables n.0) (fault_at UnknownTable s.at) >>= λ table. rest n.0 table n.1)
numbered tables tag rest few each = same _ _ _ _ _
    (λ c h. ((here tables c h.0, h.1), omega (arith, within tables (table_of c) c (slice_get tables (table_of c)) refl (here tables c h.0), few.count)))
    (λ c h. (there tables c h.0.0, h.0.1))
    (λ c h. refl)
    (seq table_of (λ n. n < 65536) (to_le_bytes w16) entry_number (λ c. OfTable tag (slice_get tables (table_of c)) c) after_table
    (λ at n s. ok_or (slice_get tables n) (fault_at UnknownTable at) >>= λ table. rest n table s)
    entry_number_codec
    (λ at n lt. of_table tables tag at n (rest n) (each n) (slice_get tables n) refl))

put_codec : (tables : List Table) → AreFewTables tables → IsCodec (After tables 1) after_tag (next_put tables)
unfolding next_put
put_codec tables few = numbered tables 1 put_of few (λ n table is. put_rest n table (few.columns n table is))

delete_codec : (tables : List Table) → AreFewTables tables → IsCodec (After tables 2) after_tag (next_delete tables)
unfolding next_delete
delete_codec tables few = numbered tables 2 delete_of few (λ n table is. delete_rest n table)

no_tag : (tag : ℕ) (c : Change) → eqb tag 1 ≡ false → eqb tag 2 ≡ false → tag_of c ≡ tag → ⊥
no_tag tag (Put t k r) a b e = not_both (eqb tag 1) (rw (← e) refl) a
no_tag tag (Delete t k) a b e = not_both (eqb tag 2) (rw (← e) refl) b

small_tag : (c : Change) → IsByte (tag_of c)
small_tag (Put t k r) = omega arith
small_tag (Delete t k) = omega arith

change_words : (c : Change) → tag_of c ∷ after_tag c ≡ change_bytes c
change_words (Put t k r) = refl
change_words (Delete t k) = refl

pub change_codec : (tables : List Table) → AreFewTables tables → IsCodec (IsRecord tables) change_bytes (next_change tables)
unfolding next_change
change_codec tables few = same _ _ _ _ _
    (λ c h. (h, small_tag c))
    (λ c h. h.0)
    (λ c h. change_words c)
    (seq tag_of IsByte one_byte entry_byte (IsRecord tables) after_tag
    (λ at tag s. cond (eqb tag 1) (next_put tables s) (cond (eqb tag 2) (next_delete tables s) (Err (fault_at Tag at))))
    entry_byte_codec
    (λ at tag lt. either _ _ (eqb tag 1) (next_put tables) (λ s. cond (eqb tag 2) (next_delete tables s) (Err (fault_at Tag at)))
    (λ one. subst (λ (k : ℕ). IsCodec (After tables k) after_tag (next_put tables)) (sym (eqb-true _ _ one)) (put_codec tables few))
    (λ not_one. either _ _ (eqb tag 2) (next_delete tables) (λ s. Err (fault_at Tag at))
    (λ two. subst (λ (k : ℕ). IsCodec (After tables k) after_tag (next_delete tables)) (sym (eqb-true _ _ two)) (delete_codec tables few))
    (λ not_two. never _ _ (λ s. fault_at Tag at) (λ c h. no_tag tag c not_one not_two h.1)))))

-- ---- lists of records

-- records of the tables that have bytes, as many as an entry may have
abbrev pub AreChanges : List Table → List Change → Type 0
AreChanges tables cs = RecordsFit (map shape tables) cs × (HasOneTo MAX_RECORDS cs × All ChangeHasBytes cs)

each_fits : (tables : List Table) (cs : List Change) → RecordsFit (map shape tables) cs → All ChangeHasBytes cs → AllByRecursion (IsRecord tables) cs
each_fits tables [] h b = tt
each_fits tables (c ∷ cs) h b = ((h.0, All-head ChangeHasBytes c cs b), each_fits tables cs h.1 (All-tail ChangeHasBytes c cs b))

all_fit : (tables : List Table) (cs : List Change) → AllByRecursion (IsRecord tables) cs → RecordsFit (map shape tables) cs × All ChangeHasBytes cs
all_fit tables [] h = (tt, All-nil ChangeHasBytes)
all_fit tables (c ∷ cs) h =
    let rest = all_fit tables cs h.1 in
    ((h.0.0, rest.0), All-cons ChangeHasBytes c cs h.0.1 rest.1)

or_false : (a b : Bool) → (a || b) ≡ false → (a ≡ false) × (b ≡ false)
or_false true b h = absurd cc
or_false false b h = (refl, h)

in_range : (n : ℕ) → (eqb n 0 || ltb MAX_RECORDS n) ≡ false → (1 ≤ n) × (n ≤ MAX_RECORDS)
in_range n h =
    let two = or_false (eqb n 0) (ltb MAX_RECORDS n) h in
    let not_zero : n ≡ 0 → ⊥ = eqb-false _ _ two.0 in
    let most : n ≤ MAX_RECORDS = ltb-false _ _ two.1 in
    (omega arith, most)

out_of_range : (n : ℕ) → 1 ≤ n → n ≤ MAX_RECORDS → (eqb n 0 || ltb MAX_RECORDS n) ≡ true → ⊥
out_of_range n low high h = by (eqb n 0) (ltb MAX_RECORDS n) refl refl h
  where
    by : (a b : Bool) → eqb n 0 ≡ a → ltb MAX_RECORDS n ≡ b → (a || b) ≡ true → ⊥
    by true b zero_is large e = let z : n ≡ 0 = eqb-true _ _ zero_is in absurd (omega arith)
    by false true zero_is large e = let l : MAX_RECORDS < n = ltb-true _ _ large in absurd (omega arith)
    by false false zero_is large e = absurd cc

pub records_codec : (tables : List Table) → AreFewTables tables → IsCodec (AreChanges tables) (λ cs. length cs ∷ flat_map change_bytes cs) (next_records tables)
unfolding next_records
records_codec tables few = same _ _ _ _ _
    (λ cs h. (h, omega (arith, h.1.0.1)))
    (λ cs h. h.0)
    (λ cs h. refl)
    (seq (λ cs. length cs) IsByte one_byte entry_byte (AreChanges tables) (λ cs. flat_map change_bytes cs)
    (λ at n s. cond (eqb n 0 || ltb MAX_RECORDS n) (Err (fault_at TooMany at)) (times (next_change tables) n s))
    entry_byte_codec
    (λ at n lt. either _ _ (eqb n 0 || ltb MAX_RECORDS n) (λ s. Err (fault_at TooMany at)) (times (next_change tables) n)
    (λ out. never _ _ (λ s. fault_at TooMany at) (λ cs h. out_of_range n (omega (arith, h.0.1.0.0, h.1)) (omega (arith, h.0.1.0.1, h.1)) out))
    (λ inside. same _ _ _ _ (times (next_change tables) n)
    (λ cs h. (each_fits tables cs h.0.0 h.0.1.1, h.1))
    (λ cs h. let both = all_fit tables cs h.0 in let range = in_range n inside in ((both.0, ((omega (arith, h.1, range.0), omega (arith, h.1, range.1)), both.1)), h.1))
    (λ cs h. refl)
    (times_codec (IsRecord tables) change_bytes (next_change tables) (change_codec tables few) n))))
