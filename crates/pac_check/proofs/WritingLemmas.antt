-- The rows of tables as they are written.
use Rattle.std.proofs.Common.{◌≡◌, ◌∙◌, Bool, true, false, eqb, ℕ, zero, suc, ◌+◌, ◌<◌, ◌≤◌, List, [], ◌∷◌, ◌++◌, length, take, get_or, Some, None, refl, sym, ap, subst, arith, add-one}
use Rattle.std.specs.Prelude.{slice_get}
use Rattle.std.specs.Option.{option_map}
use Rattle.std.specs.List.{flat_map, AllByRecursion, AllZip}
use Rattle.std.proofs.lemmas.Bool.{eqb-true, eqb-false}
use Rattle.std.proofs.lemmas.List.{length-append, flat_map_more}
use Rattle.pac_value.specs.Values.{type_of, key_value}
use Rattle.pac_value.specs.State.{Tables, keys_of}
use Rattle.pac_types.specs.declared.table.Table.{Table}
use Rattle.pac_types.specs.WellFormed.{column_types_of}
use Rattle.pac_types.specs.Fits.{FitTables}
use Rattle.pac_types.proofs.ShapeLemmas.{key-of_fit, columns-of_fit}
use Rattle.pac_entry.proofs.WrittenLemmas.{one_more}
use Rattle.pac_check.specs.declared.limits.TheConstants.{MAX_SAVED_ROWS}
use Rattle.pac_outside.specs.declared.devices.LogName.TheVariants.{Log, LogB}
use Rattle.pac_check.specs.declared.head.Head.{Head}
use Rattle.pac_check.specs.declared.head.SlotForm.{SlotForm}
use Rattle.pac_check.specs.declared.head.SlotForm.TheVariants.{First, Later}
use Rattle.pac_check.specs.Checkpoints.{KeyedRow, checkpoint_bytes, head_bytes, head_length, rows_bytes, RowHasBytes, IsKeyedRow, AreRowsOf, IsHead, IsCheckpoint}
use Rattle.pac_check.specs.Saved.{table_rows, rows_of_tables, checkpoint_of}
use Rattle.pac_check.proofs.RowsLemmas.{ascending-rows, as-many, each-row, all-at, tables-counted, rows_from, tables-from}

none_some : {A : Type 0} {x : A} → None ≡ Some x → ⊥
none_some e = cc

-- with one more item, the bytes of the items so far are longer by its own
pub len-more : {X : Type 0} (spell : X → List ℕ) (xs : List X) (i : ℕ) (x : X) → i < length xs → x ≡ get_or xs i x → length (flat_map spell (take (i + 1) xs)) ≡ length (flat_map spell (take i xs)) + length (spell x)
len-more spell xs i x lt is =
    ap length (sym (one_more spell [] (flat_map spell (take i xs)) (flat_map spell (take i xs) ++ spell x) xs i x lt is refl refl)) ∙ length-append (flat_map spell (take i xs)) (spell x)

all-more : {X : Type 0} (P : X → Type 0) (xs : List X) (i : ℕ) (x : X) → i < length xs → x ≡ get_or xs i x → P x → AllByRecursion P (take i xs) → AllByRecursion P (take (suc i) xs)
all-more P [] i x lt is has all = absurd (omega arith)
all-more P (y ∷ xs) zero x lt is has all = (subst P is has, tt)
all-more P (y ∷ xs) (suc i) x lt is has all = (all.0, all-more P xs i x (omega (arith, lt)) is has all.1)

pub all-taken : {X : Type 0} (P : X → Type 0) (xs : List X) (i : ℕ) (x : X) → i < length xs → x ≡ get_or xs i x → P x → AllByRecursion P (take i xs) → AllByRecursion P (take (i + 1) xs)
all-taken P xs i x lt is has all = rw add-one (all-more P xs i x lt is has all)

-- ---- what is written is a checkpoint

module _ (tables : List Table) (held : Tables) (fits : FitTables tables held) where
  keyed-rows : (t : ℕ) (table : Table) → slice_get tables t ≡ Some table → AllByRecursion RowHasBytes (table_rows held t) → AllByRecursion (IsKeyedRow table) (table_rows held t)
  keyed-rows t table is bytes = each-row (IsKeyedRow table) held t (λ row i lt placed found.
      let fit = fits (t, row.0) row.1 found in
      let has = all-at RowHasBytes (table_rows held t) i row bytes lt placed in
      let typed : Some (type_of (key_value row.0)) ≡ Some table.key = sym (key-of_fit tables (t, row.0) row.1 fit) ∙ ap (option_map (λ (x : Table). x.key)) is in
      ((has.0, some_same typed), (columns-of_fit tables (t, row.0) row.1 fit ∙ ap column_types_of is, has.1)))
    where
      some_same : {A : Type 0} {x y : A} → Some x ≡ Some y → x ≡ y
      some_same e = cc

  rows-of-table : (t : ℕ) (table : Table) → slice_get tables t ≡ Some table → AllByRecursion RowHasBytes (table_rows held t) → length (keys_of held t) ≤ MAX_SAVED_ROWS → AreRowsOf table (table_rows held t)
  rows-of-table t table is bytes few = record { each = keyed-rows t table is bytes; ascending = ascending-rows held t; few = omega (arith, few, as-many held t) }

zipped : (P : Table → List KeyedRow → Type 0) (held : Tables) (tables : List Table) (s : ℕ) → ((i : ℕ) (table : Table) → slice_get tables i ≡ Some table → P table (table_rows held (s + i))) → AllZip P tables (rows_from held s (length tables))
zipped P held [] s each = tt
zipped P held (table ∷ tables) s each = (
  subst (λ (n : ℕ). P table (table_rows held n)) (omega arith) (each 0 table refl),
  zipped P held tables (suc s) (λ i t is. subst (λ (n : ℕ). P t (table_rows held n)) (omega arith) (each (suc i) t is)),
)

within : (tables : List Table) (i : ℕ) (table : Table) → slice_get tables i ≡ Some table → i < length tables
within [] i table is = absurd (none_some is)
within (x ∷ tables) zero table is = omega arith
within (x ∷ tables) (suc i) table is = let rest = within tables i table is in omega arith

pub written-checkpoint : (tables : List Table) (head : Head) (held : Tables) → IsHead head → FitTables tables held → ((t : ℕ) → t < length tables → AllByRecursion RowHasBytes (table_rows held t)) → ((t : ℕ) → t < length tables → length (keys_of held t) ≤ MAX_SAVED_ROWS)
    → IsCheckpoint tables (checkpoint_of (length tables) head held)
written-checkpoint tables head held is fits bytes few = record {
  head = is;
  rows = subst (λ (rows : List (List KeyedRow)). AllZip AreRowsOf tables rows) (sym (tables-from held (length tables)))
      (zipped AreRowsOf held tables 0 (λ i table at. subst (λ (n : ℕ). AreRowsOf table (table_rows held n)) (omega arith) (rows-of-table tables held fits i table at (bytes i (within tables i table at)) (few i (within tables i table at)))));
}

-- how many bytes a head has
head_long : (n : ℕ) (head : Head) → length (head_bytes n head) ≡ head_length head.form
head_long n head = go head.form
  where
    go : (form : SlotForm) → length (head_bytes n (record { txns = head.txns; place = head.place; form = form })) ≡ head_length form
    go First = refl
    go (Later Log) = refl
    go (Later LogB) = refl

-- and how many a checkpoint
pub checkpoint_long : (tables : ℕ) (head : Head) (held : Tables) → length (checkpoint_bytes (checkpoint_of tables head held)) ≡ head_length head.form + length (flat_map rows_bytes (rows_of_tables held tables))
checkpoint_long tables head held =
    let count = length (rows_of_tables held tables) in
    length-append (head_bytes count head) (flat_map rows_bytes (rows_of_tables held tables)) ∙ ap (λ (n : ℕ). n + length (flat_map rows_bytes (rows_of_tables held tables))) (head_long count head)

-- the head, and the tables after it
pub head-and-tables : (count tables : ℕ) (head : Head) (held : Tables) (a b c : List ℕ) → count ≡ tables → a ≡ [] → b ≡ a ++ head_bytes count head → c ≡ b ++ flat_map rows_bytes (rows_of_tables held count) → c ≡ checkpoint_bytes (checkpoint_of tables head held)
head-and-tables count tables head held a b c same none first second =
    let counted : length (rows_of_tables held tables) ≡ tables = tables-counted held tables in
    second
    ∙ ap (λ (x : List ℕ). x ++ flat_map rows_bytes (rows_of_tables held count)) (first ∙ ap (λ (x : List ℕ). x ++ head_bytes count head) none)
    ∙ ap (λ (n : ℕ). head_bytes n head ++ flat_map rows_bytes (rows_of_tables held n)) same
    ∙ ap (λ (n : ℕ). head_bytes n head ++ flat_map rows_bytes (rows_of_tables held tables)) (sym counted)

-- ---- one table more

-- the bytes of one table more
pub tables-more : (held : Tables) (n : ℕ) (before : List ℕ) → (before ++ flat_map rows_bytes (rows_of_tables held n)) ++ rows_bytes (table_rows held n) ≡ before ++ flat_map rows_bytes (rows_of_tables held (n + 1))
tables-more held n before = rw add-one (flat_map_more rows_bytes before (rows_of_tables held n) (table_rows held n))

pub tables-longer : (held : Tables) (n : ℕ) → length (flat_map rows_bytes (rows_of_tables held (n + 1))) ≡ length (flat_map rows_bytes (rows_of_tables held n)) + length (rows_bytes (table_rows held n))
tables-longer held n = ap length (sym (tables-more held n [])) ∙ length-append (flat_map rows_bytes (rows_of_tables held n)) (rows_bytes (table_rows held n))

-- what holds of each number up to one, and of that one
pub up-to-next : (P : ℕ → Type 0) (n : ℕ) → ((t : ℕ) → t < n → P t) → P n → (t : ℕ) → t < n + 1 → P t
up-to-next P n before last t lt = go (eqb t n) refl
  where
    go : (b : Bool) → eqb t n ≡ b → P t
    go true is = subst P (sym (eqb-true _ _ is)) last
    go false is = let apart = eqb-false _ _ is in before t (omega (arith, lt, apart))
