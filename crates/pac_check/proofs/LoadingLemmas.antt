-- Rows that are read from a device, and taken after the others of their table.
use Rattle.std.proofs.Common.{◌≡◌, ◌≢◌, ◌∙◌, ℕ, suc, ◌+◌, ◌-◌, ◌<◌, ◌≤◌, ◌==◌, Bool, true, false, cond, List, [], ◌∷◌, ◌++◌, map, length, drop, get_or, Option, Some, None, Result, Ok, Err, IfOk, refl, sym, ap, ap₂, subst, arith}
use Rattle.std.specs.Prelude.{slice_get}
use Rattle.std.specs.Option.{option_map}
use Rattle.std.specs.Ordering.{eq_by_cmp}
use Rattle.std.specs.FinMap.{get, insert, empty, get-insert, get-empty}
use Rattle.std.proofs.lemmas.Bool.{eqb-true}
use Rattle.std.proofs.lemmas.List.{drop_all}
use Rattle.std.proofs.lemmas.Option.{slice_get_read}
use Rattle.pac_base.specs.declared.refusal.Refusal.{Refusal}
use Rattle.pac_base.specs.declared.refusal.Refusal.TheVariants.{Fault}
use Rattle.pac_outside.specs.Disk.{DiskHistory, IfKnown}
use Rattle.pac_value.specs.declared.values.Key.{Key}
use Rattle.pac_value.specs.State.{Cell, cell_cmp, RowValues, Tables}
use Rattle.pac_value.proofs.CellLemmas.{cells_total, tied_same}
use Rattle.pac_types.specs.declared.table.Table.{Table}
use Rattle.pac_types.specs.WellFormed.{column_types_of}
use Rattle.pac_types.specs.Fits.{FitTables, shape}
use Rattle.pac_types.proofs.ShapeLemmas.{row-fits}
use Rattle.pac_ops.specs.Shapes.{RowFits}
use Rattle.pac_bytes.specs.Reading.{Rest, from, along}
use Rattle.pac_bytes.specs.Readers.{AnswersUnlessMemory}
use Rattle.pac_bytes.proofs.Bytes.{IsBytes, IsBytes-drop}
use Rattle.pac_bytes.proofs.Loops.{preceding, along-on, along-fails, along-done}
use Rattle.pac_check.specs.declared.damage.SlotFault.{SlotFault}
use Rattle.pac_check.specs.Checkpoints.{KeyedRow, IsKeyedRow, IsRowAfter}
use Rattle.pac_check.specs.CheckpointReading.{next_row, next_rows, next_table}
use Rattle.pac_check.specs.PieceStates.{PiecesState, AreOfImage, HasFault, WasRead}
use Rattle.pac_check.specs.Saved.{table_rows, rows_of_tables}
use Rattle.pac_check.specs.Taking.{TookRows, TookTables}
use Rattle.pac_check.proofs.CheckpointLemmas.{row_codec}
use Rattle.pac_check.proofs.RowsLemmas.{AreUpTo, all-below, up-to-last, rows-inserted, others-inserted, tables-same, rows-empty}
use Rattle.pac_check.proofs.LoopLemmas.{rows-on, rows-fail, rows-done}

-- these rows, before what reading gives of the rest, are what it gives of all
abbrev pub RowsSoFar : Option DiskHistory → Table → PiecesState → PiecesState → List KeyedRow → ℕ → ℕ → Option Key → Type 0
RowsSoFar known table start now rows count i before =
    IfKnown (λ h. AreOfImage h.now.seen now × (preceding rows (next_rows table (count - i) before (from h.now.seen now.place)) ≡ next_rows table count None (from h.now.seen start.place))) known

-- and so are the rows of the first i tables
abbrev pub TablesSoFar : Option DiskHistory → List Table → PiecesState → PiecesState → List (List KeyedRow) → ℕ → Type 0
TablesSoFar known tables start now rows i =
    IfKnown (λ h. AreOfImage h.now.seen now × (preceding rows (along next_table (drop i tables) (from h.now.seen now.place)) ≡ along next_table tables (from h.now.seen start.place))) known

pub other-number : (a b : ℕ) → a ≢ b → (b == a) ≡ false
other-number a b apart = go (b == a) refl
  where
    go : (t : Bool) → (b == a) ≡ t → t ≡ false
    go true e = absurd (apart (sym (eqb-true _ _ e)))
    go false e = refl

-- rows that fit with one more
inserted-fits : (all : List Table) (held : Tables) (t : ℕ) (table : Table) (row : KeyedRow) → slice_get all t ≡ Some table → IsKeyedRow table row → FitTables all held → FitTables all (insert held (t, row.0) row.1)
inserted-fits all held t table row is form fits = λ cell values found. go cell values (eq_by_cmp cell_cmp cell (t, row.0)) refl (sym (get-insert cells_total held (t, row.0) row.1 cell) ∙ found)
  where
    some_same : {A : Type 0} {x y : A} → Some x ≡ Some y → x ≡ y
    some_same e = cc

    here : RowFits (map shape all) (t, row.0) row.1
    here = row-fits all (t, row.0) row.1 (ap (option_map (λ (x : Table). x.key)) is ∙ ap Some (sym form.0.1)) (form.1.0 ∙ sym (ap column_types_of is))

    go : (cell : Cell) (values : RowValues) (b : Bool) → eq_by_cmp cell_cmp cell (t, row.0) ≡ b → cond b (Some row.1) (get held cell) ≡ Some values → RowFits (map shape all) cell values
    go cell values true same e = subst (λ (c : Cell). RowFits (map shape all) c values) (sym (tied_same cell (t, row.0) same)) (subst (λ (v : RowValues). RowFits (map shape all) (t, row.0) v) (some_same e) here)
    go cell values false same e = fits cell values e

-- what is read is a row of the table
pub row-unless-memory : (table : Table) (before : Option Key) (bytes : List ℕ) (at : ℕ) → IsBytes bytes → (result : Result (KeyedRow × ℕ) (Refusal SlotFault)) → AnswersUnlessMemory bytes result (next_row table before (from bytes at)) → IfOk result (λ found. IsRowAfter table before found.0)
row-unless-memory table before bytes at are (Ok found) read = ((row_codec table before).found (from bytes at) found.0 (from bytes found.1) (IsBytes-drop at bytes are) read).form
row-unless-memory table before bytes at are (Err refusal) read = tt

-- a row after a key of a table
module _ (table : Table) (before : Option Key) (key : Key) (row : RowValues) (form : IsRowAfter table before (key, row)) where
  module _ (held : Tables) (t : ℕ) (up : AreUpTo before (table_rows held t)) where
    with_row : Tables
    with_row = insert held (t, key) row

    rows-put : table_rows with_row t ≡ table_rows held t ++ (key, row) ∷ []
    unfolding with_row
    rows-put = rows-inserted held t key row (all-below before key (table_rows held t) up form.1)

    others-put : (other : ℕ) → other ≢ t → table_rows with_row other ≡ table_rows held other
    unfolding with_row
    others-put other apart = others-inserted held t key row other (other-number other t apart)

    fits-put : (all : List Table) → slice_get all t ≡ Some table → FitTables all held → FitTables all with_row
    unfolding with_row
    fits-put all is fits = inserted-fits all held t table (key, row) is form.0 fits

  pub up-to-on : (rows : List KeyedRow) → AreUpTo before rows → AreUpTo (Some key) (rows ++ (key, row) ∷ [])
  up-to-on rows up = up-to-last key row rows (all-below before key rows up form.1)

  -- it is taken after others
  pub took-on : (first now next : Tables → Type 0) (number : ℕ) (rows : List KeyedRow) → AreUpTo before rows → TookRows first now table number rows → ((held : Tables) → now held → next (insert held (number, key) row)) → TookRows first next table number (rows ++ (key, row) ∷ [])
  unfolding with_row
  took-on first now next number rows up took step = λ old has none.
      let held = took old has none in
      let up_to : AreUpTo before (table_rows held.0 number) = subst (AreUpTo before) (sym held.2.rows) up in (
        insert held.0 (number, key) row,
        step held.0 held.1,
        record {
          rows = rows-put held.0 number up_to ∙ ap (λ (l : List KeyedRow). l ++ (key, row) ∷ []) held.2.rows;
          others = λ other apart. others-put held.0 number up_to other apart ∙ held.2.others other apart;
          fits = λ all is fits. fits-put held.0 number up_to all is (held.2.fits all is fits);
        },
      )

  -- and read after others
  pub rows-read-on : (known : Option DiskHistory) (start now next : PiecesState) (rows : List KeyedRow) (count i : ℕ) → i < count → RowsSoFar known table start now rows count i before → IfKnown (λ h. WasRead h.now.seen now next (key, row) (next_row table before)) known
      → RowsSoFar known table start next (rows ++ (key, row) ∷ []) count (i + 1) (Some key)
  rows-read-on None start now next rows count i lt so_far read = tt
  rows-read-on (Some h) start now next rows count i lt so_far read =
      (read.0, rows-on table rows count i before (from h.now.seen now.place) (next_rows table count None (from h.now.seen start.place)) so_far.1 (key, row) (from h.now.seen next.place) lt read.1)

pub took-none : (table : Table) (number : ℕ) (holds : Tables → Type 0) → TookRows holds holds table number []
took-none table number holds = λ old has none. (old, has, record { rows = none; others = λ other apart. refl; fits = λ all is fits. fits })

-- ---- several tables

pub empty-fits : (all : List Table) (held : Tables) → held ≡ empty → FitTables all held
empty-fits all held is = λ cell row found. absurd (no_row (sym (get-empty cell_cmp cell) ∙ ap (λ (h : Tables). get h cell) (sym is) ∙ found))
  where
    no_row : {A : Type 0} {x : A} → None ≡ Some x → ⊥
    no_row e = cc

pub empty-rows : (held : Tables) → held ≡ empty → (t : ℕ) → table_rows held t ≡ []
empty-rows held is t = ap (λ (h : Tables). table_rows h t) is ∙ rows-empty t

-- with the rows of one table more
pub one-more-table : (a b : Tables) (i : ℕ) → ((other : ℕ) → other ≢ i → table_rows b other ≡ table_rows a other) → rows_of_tables b (i + 1) ≡ rows_of_tables a i ++ table_rows b i ∷ []
one-more-table a b i same =
    (let e : i + 1 ≡ suc i = omega arith in ap (rows_of_tables b) e)
    ∙ ap (λ (xs : List (List KeyedRow)). xs ++ table_rows b i ∷ []) (tables-same b a i (λ t lt. same t (λ e. omega (arith, lt, e))))

pub at-place : (all : List Table) (i : ℕ) (table : Table) → i < length all → table ≡ get_or all i table → slice_get all i ≡ Some table
at-place all i table lt is = slice_get_read all (length all) i table refl lt is

-- ---- what was taken of several tables

module _ (tables : List Table) (i : ℕ) (table : Table) (rows : List KeyedRow) (all_rows : List (List KeyedRow)) (first now next : Tables → Type 0) where
  pub tables-took-on : slice_get tables i ≡ Some table → TookTables first now tables i all_rows → TookRows now next table i rows → TookTables first next tables (i + 1) (all_rows ++ rows ∷ [])
  tables-took-on is took taken = λ has.
      let held = took has in
      let more = taken held.0 held.1 (held.2.others i (omega arith)) in (
        more.0,
        more.1,
        record {
          rows = one-more-table held.0 more.0 i (λ other apart. more.2.others other apart) ∙ ap₂ (λ (a : List (List KeyedRow)) (b : List KeyedRow). a ++ b ∷ []) held.2.rows more.2.rows;
          others = λ other le. more.2.others other (λ e. omega (arith, le, e)) ∙ held.2.others other (omega (arith, le));
          fits = more.2.fits tables is held.2.fits;
        },
      )

pub tables-took-none : (tables : List Table) (holds : Tables → Type 0) → TookTables holds holds tables 0 []
tables-took-none tables holds = λ has. (empty, has, record { rows = refl; others = λ other le. empty-rows empty refl other; fits = empty-fits tables empty refl })

pub tables-read-on : (known : Option DiskHistory) (tables : List Table) (start now next : PiecesState) (all_rows : List (List KeyedRow)) (rows : List KeyedRow) (i : ℕ) (table : Table) → drop i tables ≡ table ∷ drop (i + 1) tables → TablesSoFar known tables start now all_rows i
    → IfKnown (λ h. WasRead h.now.seen now next rows (next_table table)) known → TablesSoFar known tables start next (all_rows ++ rows ∷ []) (i + 1)
tables-read-on None tables start now next all_rows rows i table is so_far read = tt
tables-read-on (Some h) tables start now next all_rows rows i table is so_far read =
    (read.0, along-on next_table all_rows tables i table (from h.now.seen now.place) (from h.now.seen next.place) rows (along next_table tables (from h.now.seen start.place)) is read.1 so_far.1)

pub tables-read-fail : (known : Option DiskHistory) (tables : List Table) (start now : PiecesState) (all_rows : List (List KeyedRow)) (i : ℕ) (table : Table) (fault : SlotFault) → drop i tables ≡ table ∷ drop (i + 1) tables → TablesSoFar known tables start now all_rows i
    → IfKnown (λ h. HasFault h.now.seen now fault (next_table table)) known → IfKnown (λ h. HasFault h.now.seen start fault (along next_table tables)) known
tables-read-fail None tables start now all_rows i table fault is so_far fails = tt
tables-read-fail (Some h) tables start now all_rows i table fault is so_far fails =
    along-fails next_table (Fault fault) all_rows tables i table (from h.now.seen now.place) (along next_table tables (from h.now.seen start.place)) is fails so_far.1

pub tables-read-done : (known : Option DiskHistory) (tables : List Table) (start now : PiecesState) (all_rows : List (List KeyedRow)) (i : ℕ) → length tables ≤ i → TablesSoFar known tables start now all_rows i → IfKnown (λ h. WasRead h.now.seen start now all_rows (along next_table tables)) known
tables-read-done None tables start now all_rows i le so_far = tt
tables-read-done (Some h) tables start now all_rows i le so_far =
    (so_far.0, along-done next_table all_rows tables i (from h.now.seen now.place) (along next_table tables (from h.now.seen start.place)) (drop_all i tables le) so_far.1)

-- nothing is read yet
prefix-nil : {A : Type 0} (r : Result (List A × Rest) SlotFault) → preceding [] r ≡ r
prefix-nil (Ok xs) = refl
prefix-nil (Err fault) = refl

pub tables-read-none : (known : Option DiskHistory) (tables : List Table) (start : PiecesState) → IfKnown (λ h. AreOfImage h.now.seen start) known → TablesSoFar known tables start start [] 0
tables-read-none None tables start of = tt
tables-read-none (Some h) tables start of = (of, prefix-nil (along next_table tables (from h.now.seen start.place)))

-- ---- several rows

pub rows-read-none : (known : Option DiskHistory) (table : Table) (start : PiecesState) (count : ℕ) → IfKnown (λ h. AreOfImage h.now.seen start) known → RowsSoFar known table start start [] count 0 None
rows-read-none None table start count of = tt
rows-read-none (Some h) table start count of =
    let all : count - 0 ≡ count = omega arith in
    (of, prefix-nil (next_rows table (count - 0) None (from h.now.seen start.place)) ∙ ap (λ (n : ℕ). next_rows table n None (from h.now.seen start.place)) all)

pub rows-read-fail : (known : Option DiskHistory) (table : Table) (start now : PiecesState) (rows : List KeyedRow) (count i : ℕ) (before : Option Key) (fault : SlotFault) → i < count → RowsSoFar known table start now rows count i before
    → IfKnown (λ h. HasFault h.now.seen now fault (next_row table before)) known → IfKnown (λ h. HasFault h.now.seen start fault (next_rows table count None)) known
rows-read-fail None table start now rows count i before fault lt so_far fails = tt
rows-read-fail (Some h) table start now rows count i before fault lt so_far fails =
    rows-fail table rows count i before (from h.now.seen now.place) (next_rows table count None (from h.now.seen start.place)) so_far.1 (Fault fault) lt fails

pub rows-read-done : (known : Option DiskHistory) (table : Table) (start now : PiecesState) (rows : List KeyedRow) (count i : ℕ) (before : Option Key) → count ≤ i → RowsSoFar known table start now rows count i before → IfKnown (λ h. WasRead h.now.seen start now rows (next_rows table count None)) known
rows-read-done None table start now rows count i before le so_far = tt
rows-read-done (Some h) table start now rows count i before le so_far =
    (so_far.0, rows-done table rows count i before (from h.now.seen now.place) (next_rows table count None (from h.now.seen start.place)) so_far.1 le)
