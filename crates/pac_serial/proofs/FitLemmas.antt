-- What keeps the rows fit for their tables, and the variables of their types.
use Rattle.std.proofs.Common.{◌≡◌, ℕ, zero, suc, ◌<◌, ◌==◌, ◌&&◌, Bool, true, false, cond, List, [], ◌∷◌, map, length, get_or, arith, Option, Some, None, Result, Ok, Err, IsSomeAnd, OnOk, refl, sym, ap, ◌∙◌, subst}
use Rattle.std.specs.Prelude.{if◌then◌else◌, slice_get, slice_set, unwrap_or}
use Rattle.std.specs.List.{list_all}
use Rattle.std.proofs.lemmas.List.{map-set, length-map}
use Rattle.std.proofs.Math.ListN.{length-set}
use Rattle.std.specs.Option.{option_map}
use Rattle.std.specs.Ordering.{eq_by_cmp}
use Rattle.std.specs.Cmp.{nat_cmp_total, unsigned_ties}
use Rattle.std.specs.FinMap.{get, insert, empty, get-empty, get-insert}
use Rattle.std.proofs.lemmas.Option.{slice_get-map, slice_get_within}
use Rattle.pac_value.specs.declared.values.Ty.{Ty}
use Rattle.pac_value.specs.declared.values.Ty.TheVariants.{Int, Text, Bool as BoolTy}
use Rattle.pac_value.specs.declared.values.Value.{Value}
use Rattle.pac_value.specs.Values.{type_of, is_stored, IsRow}
use Rattle.pac_value.specs.Expressions.{Values, types_of}
use Rattle.pac_value.specs.State.{Cell, cell_cmp, RowValues, Tables, with_row}
use Rattle.pac_types.specs.declared.table.Table.{Table}
use Rattle.pac_ops.specs.declared.shapes.TableTypes.{TableTypes}
use Rattle.pac_ops.specs.Shapes.{KeyFits, RowFits}
use Rattle.pac_ops.specs.Operations.{column_or}
use Rattle.pac_types.specs.WellFormed.{column_types}
use Rattle.pac_tables.specs.Joined.{Held}
use Rattle.pac_types.specs.Typing.{CatalogueState}
use Rattle.pac_types.specs.Fits.{shape, FitTables, FitsCatalogue}
use Rattle.pac_types.proofs.ShapeLemmas.{columns-of_fit}
use Rattle.pac_value.specs.Scopes.{with_var, is_wanted, are_wanted}
use Rattle.pac_value.proofs.CellLemmas.{get-with_row, tied_same}
use Rattle.pac_serial.specs.WriteSets.{Changes, as_changed, AreUnmade, ChangesAt}
use Rattle.pac_serial.specs.Transactions.{RunsOver}
use Rattle.pac_serial.proofs.WritesLemmas.{keys_fit-more}

and-left : (a b : Bool) → (a && b) ≡ true → a ≡ true
and-left true b h = refl
and-left false b h = h

and-right : (a b : Bool) → (a && b) ≡ true → b ≡ true
and-right true b h = h
and-right false b h = cc

pub and-both : (a b : Bool) → a ≡ true → b ≡ true → (a && b) ≡ true
and-both a b p q = ap (λ c. c && b) p ∙ q

-- one more variable has a type
pub types_of-insert : (env : Values) (x : ℕ) (v : Value) → types_of (insert env x v) ≡ with_var (types_of env) x (type_of v)
types_of-insert env x v = λ i y. at y i
  where
    at : (y : ℕ) → types_of (insert env x v) y ≡ with_var (types_of env) x (type_of v) y
    at y = ap (option_map type_of) (get-insert nat_cmp_total env x v y)
        ∙ ap (λ b. option_map type_of (cond b (Some v) (get env y))) (sym (unsigned_ties y x))
        ∙ go (y == x)
      where
        go : (b : Bool) → option_map type_of (cond b (Some v) (get env y)) ≡ (if b then Some (type_of v) else option_map type_of (get env y))
        go true = refl
        go false = refl

pub wanted_is : (a b : Option Ty) (ty : Ty) → a ≡ Some ty → is_wanted a b ≡ true → b ≡ Some ty
wanted_is a b ty e h = go ty b (subst (λ (o : Option Ty). is_wanted o b ≡ true) e h)
  where
    go : (ty : Ty) (b : Option Ty) → is_wanted (Some ty) b ≡ true → b ≡ Some ty
    go Int (Some Int) h = refl
    go Text (Some Text) h = refl
    go Int (Some Text) h = cc
    go Int (Some BoolTy) h = cc
    go Int None h = cc
    go Text (Some Int) h = cc
    go Text (Some BoolTy) h = cc
    go Text None h = cc
    go BoolTy (Some Int) h = cc
    go BoolTy (Some Text) h = cc
    go BoolTy (Some BoolTy) h = cc
    go BoolTy None h = cc

-- what is read has the default's type
pub column_or-type : (tables : List Table) (rows : Tables) (cell : Cell) (c : ℕ) (d : Value) → FitTables tables rows
    → is_wanted (Some (type_of d)) (slice_get (column_types tables cell.0) c) ≡ true
    → type_of (column_or (get rows cell) c d) ≡ type_of d
column_or-type tables rows cell c d fits h = go (get rows cell) refl
  where
    inner : (row : RowValues) (o : Option Value) → slice_get row c ≡ o → map type_of row ≡ column_types tables cell.0 → type_of (unwrap_or o d) ≡ type_of d
    inner row None e same = refl
    inner row (Some v) e same =
        let one : Some (type_of v) ≡ Some (type_of d) =
        ap (option_map type_of) (sym e) ∙ sym (slice_get-map type_of row c) ∙ ap (λ tys. slice_get tys c) same ∙ wanted_is (Some (type_of d)) (slice_get (column_types tables cell.0) c) (type_of d) refl h in
        cc

    go : (o : Option RowValues) → get rows cell ≡ o → type_of (column_or o c d) ≡ type_of d
    go None e = refl
    go (Some row) e = inner row (slice_get row c) refl (columns-of_fit tables cell row (fits cell row e))

-- a row that fits may stand at its cell, and so may none
pub FitTables-with_row : (tables : List Table) (rows : Tables) (p : Cell) (row : Option RowValues) → FitTables tables rows
    → ((r : RowValues) → row ≡ Some r → RowFits (map shape tables) p r) → FitTables tables (with_row rows p row)
FitTables-with_row tables rows p row fits new q r found = go (eq_by_cmp cell_cmp q p) refl (sym (get-with_row rows p row q) ∙ found)
  where
    go : (b : Bool) → eq_by_cmp cell_cmp q p ≡ b → cond b row (get rows q) ≡ Some r → RowFits (map shape tables) q r
    go true e h = subst (λ (z : Cell). RowFits (map shape tables) z r) (sym (tied_same q p e)) (new r h)
    go false e h = fits q r h

list_all-set : {A : Type 0} (p : A → Bool) (xs : List A) (i : ℕ) (v : A) → list_all p xs ≡ true → p v ≡ true → list_all p (slice_set xs i v) ≡ true
list_all-set p [] i v all one = refl
list_all-set p (x ∷ xs) zero v all one = and-both (p v) (list_all p xs) one (and-right (p x) (list_all p xs) all)
list_all-set p (x ∷ xs) (suc i) v all one = and-both (p x) (list_all p (slice_set xs i v)) (and-left (p x) (list_all p xs) all) (list_all-set p xs i v (and-right (p x) (list_all p xs) all) one)

-- a row stays one where a column gets a value that it can hold
pub IsRow-set : (row values : RowValues) (i : ℕ) (v : Value) → values ≡ row → IsRow row → is_stored v ≡ true → IsRow (slice_set values i v)
IsRow-set row values i v e is one = subst (λ (r : RowValues). IsRow (slice_set r i v)) (sym e)
    (rw length-set is.0, rw length-set is.1, list_all-set is_stored row i v is.2 one)

set-same : {A : Type 0} (xs : List A) (i : ℕ) (x : A) → slice_get xs i ≡ Some x → slice_set xs i x ≡ xs
set-same [] i x h = refl
set-same (y ∷ ys) zero x h = let e : y ≡ x = cc in ap (λ z. z ∷ ys) (sym e)
set-same (y ∷ ys) (suc i) x h = ap (λ zs. y ∷ zs) (set-same ys i x h)

-- the types of a row's values stay where a column gets a value of its type
pub types-set : (row : RowValues) (tys : List Ty) (i : ℕ) (v : Value) → map type_of row ≡ tys → is_wanted (Some (type_of v)) (slice_get tys i) ≡ true → map type_of (slice_set row i v) ≡ tys
types-set row tys i v e h =
    map-set type_of row i v ∙ ap (λ ts. slice_set ts i (type_of v)) e ∙ set-same tys i (type_of v) (wanted_is (Some (type_of v)) (slice_get tys i) (type_of v) refl h)

-- a column whose type is wanted is one of the row
pub column-within : (row : RowValues) (tys : List Ty) (i : ℕ) (v : Value) → map type_of row ≡ tys → is_wanted (Some (type_of v)) (slice_get tys i) ≡ true → i < length row
column-within row tys i v e h =
    let found : slice_get tys i ≡ Some (type_of v) = wanted_is (Some (type_of v)) (slice_get tys i) (type_of v) refl h in
    let inside : i < length tys = slice_get_within tys i (type_of v) found in
    let same : length row ≡ length tys = sym (length-map row type_of) ∙ ap (λ (ts : List Ty). length ts) e in
    omega arith

-- each of the values wants its column's type
pub wanted_at : (as_ : List (Option Ty)) (tys : List Ty) (i : ℕ) → are_wanted as_ tys ≡ true → i < length as_ → is_wanted (get_or as_ i None) (slice_get tys i) ≡ true
wanted_at [] tys i h inside = absurd (omega arith)
wanted_at (a ∷ as_) [] i h inside = cc
wanted_at (a ∷ as_) (ty ∷ tys) zero h inside = and-left (is_wanted a (Some ty)) (are_wanted as_ tys) h
wanted_at (a ∷ as_) (ty ∷ tys) (suc i) h inside = wanted_at as_ tys i (and-right (is_wanted a (Some ty)) (are_wanted as_ tys) h) (omega arith)

pub wanted-length : (as_ : List (Option Ty)) (tys : List Ty) → are_wanted as_ tys ≡ true → length as_ ≡ length tys
wanted-length [] [] h = refl
wanted-length [] (ty ∷ tys) h = cc
wanted-length (a ∷ as_) [] h = cc
wanted-length (a ∷ as_) (ty ∷ tys) h = ap suc (wanted-length as_ tys (and-right (is_wanted a (Some ty)) (are_wanted as_ tys) h))

-- no row is unfit where there is none
pub FitTables-empty : (tables : List Table) (rows : Tables) → rows ≡ empty → FitTables tables rows
FitTables-empty tables rows e cell row found =
    let none : None ≡ Some row = sym (get-empty cell_cmp cell) ∙ ap (λ m. get m cell) (sym e) ∙ found in
    let no_way : ⊥ = cc in
    absurd no_way

-- what fits a table is of one that is there
pub table-within : (P : TableTypes → Type 0) (tables : List Table) (t : ℕ) → IsSomeAnd (slice_get (map shape tables) t) P → t < length tables
table-within P tables t h = go (slice_get (map shape tables) t) refl h
  where
    go : (o : Option TableTypes) → slice_get (map shape tables) t ≡ o → IsSomeAnd o P → t < length tables
    go None e h = absurd h
    go (Some found) e h = omega (arith, slice_get_within (map shape tables) t found e, length-map tables shape)

-- a transaction that has made one more change still runs over the rows
pub runs-changed : (tables : List Table) (n : ℕ) (held : Tables) (old new : Changes) (p : Cell) (row : Option RowValues)
    → RunsOver tables n held old → IsSomeAnd (slice_get (map shape tables) p.0) (KeyFits p.1) → ((r : RowValues) → row ≡ Some r → RowFits (map shape tables) p r)
    → as_changed held new ≡ with_row (as_changed held old) p row → AreUnmade n new → ChangesAt (p ∷ []) old new → RunsOver tables n held new
runs-changed tables n held old new p row over key fits is unmade writes = record {
  count = over.count;
  unmade = unmade;
  fits = subst (λ (t : Tables). FitTables tables t) (sym is) (FitTables-with_row tables (as_changed held old) p row over.fits fits);
  keys = keys_fit-more tables old new p key writes over.keys;
}

pub on-ok-both : {A E : Type 0} (r : Result A E) {P Q S : Type 0} → OnOk r P → OnOk r Q → (P → Q → S) → OnOk r S
on-ok-both (Ok x) h k f = f h k
on-ok-both (Err e) h k f = tt

-- so the tables of a catalogue fit it where they have no rows
pub fits-none : (cat : CatalogueState) (n : ℕ) (held : Held) → held ≡ record { tables = n; rows = empty } → n ≡ length cat.tables → FitsCatalogue cat held.tables held.rows
fits-none cat n held is count = record {
  count = ap (λ (h : Held). h.tables) is ∙ count;
  rows = FitTables-empty cat.tables held.rows (ap (λ (h : Held). h.rows) is);
}
