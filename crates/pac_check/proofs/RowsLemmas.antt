-- The rows of a table among the entries of all: they ascend, are found by their keys, and one more may come after them.
use Rattle.std.proofs.Common.{◌≡◌, ◌∙◌, ◌⊎◌, inl, inr, ℕ, zero, suc, ◌+◌, ◌<◌, ◌==◌, Bool, true, false, cond, T, ◌&&◌, List, [], ◌∷◌, ◌++◌, map, length, get_or, Option, Some, None, refl, sym, ap, subst, arith, append_assoc}
use Rattle.std.specs.List.{filter, AllByRecursion}
use Rattle.std.proofs.lemmas.Bool.{eqb-true}
use Rattle.std.proofs.lemmas.Bool.Decides.{nat_tests}
use Rattle.std.proofs.lemmas.List.{nil_from_length, get_or-map, length-map, length-append, append-nil}
use Rattle.std.specs.declared.cmp.Ordering.{Ordering}
use Rattle.std.specs.declared.cmp.Ordering.TheVariants.{Less, Equal, Greater}
use Rattle.std.specs.Ordering.{nat_cmp, is_eq, is_lt, ordering_then, ordering_reverse, MatchOrdering}
use Rattle.std.specs.Cmp.{ranked, tied_itself}
use Rattle.std.specs.FinMap.{empty, entries, entries_sorted, insert, get, get-entries, entries-insert, find, put, is_sorted, len-empty, len-entries}
use Rattle.std.specs.FinMap.Entries.{below_all, by_order}
use Rattle.pac_value.specs.declared.values.Key.{Key}
use Rattle.pac_value.specs.Keys.{key_cmp, keys_total}
use Rattle.pac_value.specs.State.{Cell, cell_cmp, RowValues, Tables, keys_of}
use Rattle.pac_value.proofs.CellLemmas.{cells_total, cells_antisymmetric}
use Rattle.pac_check.specs.Checkpoints.{KeyedRow, AreAscending, is_above}
use Rattle.pac_check.specs.Saved.{rows_among, table_rows, rows_of_tables}

abbrev Entry : Type 0
Entry = Cell × RowValues

abbrev keyed_rows : List Entry → List KeyedRow
keyed_rows entries = map {B = KeyedRow} (λ (entry : Entry). (entry.0.1, entry.1)) entries

first : (a b : Bool) → T (a && b) → T a
first true b p = tt
first false b p = p

second : (a b : Bool) → T (a && b) → T b
second true b p = p
second false b p = absurd p

both : (a b : Bool) → T a → T b → T (a && b)
both true b p q = q
both false b p q = p

less : (o : Ordering) → T (is_lt o) → o ≡ Less
less Less p = refl
less Equal p = absurd p
less Greater p = absurd p

lesser : (o : Ordering) → is_lt o ≡ true → o ≡ Less
lesser Less p = refl
lesser Equal p = absurd cc
lesser Greater p = absurd cc

is_less : (o : Ordering) → o ≡ Less → is_lt o ≡ true
is_less o e = ap is_lt e

itself : (t : ℕ) → (t == t) ≡ true
itself t = grind (arith, nat_tests)

not_above : (k : Key) → key_cmp k k ≡ Less → ⊥
not_above k h = none (sym h ∙ tied_itself keys_total k)
  where
    none : Less ≡ Equal → ⊥
    none e = cc

not_both_ways : (a b : Key) → key_cmp a b ≡ Less → key_cmp b a ≡ Less → ⊥
not_both_ways a b h k = not_above a (keys_total.trans a b a h k)

-- ---- cells of one table

less-here : (t : ℕ) (o : Ordering) → ordering_then (nat_cmp t t) o ≡ o
less-here t o = go (nat_cmp t t) (ranked t t (nat_cmp t t) refl)
  where
    go : (r : Ordering) → MatchOrdering r (t < t) (t ≡ t) (t < t) → ordering_then r o ≡ o
    go Less h = absurd (omega arith)
    go Equal h = refl
    go Greater h = absurd (omega arith)

here : (t : ℕ) (cell : Cell) → (cell.0 == t) ≡ true → cell ≡ (t, cell.1)
here t cell is = ap (λ (n : ℕ). (n, cell.1)) (eqb-true _ _ is)

cmp-here : (t : ℕ) (key : Key) (cell : Cell) → (cell.0 == t) ≡ true → cell_cmp (t, key) cell ≡ key_cmp key cell.1
cmp-here t key cell is = ap (cell_cmp (t, key)) (here t cell is) ∙ less-here t (key_cmp key cell.1)

-- ---- they ascend

-- after this key in the table
abbrev AreAfter : ℕ → Option Key → List Entry → Type 0
AreAfter t None es = Unit {0}
AreAfter t (Some before) es = T (below_all cell_cmp (t, before) es)

after-later : (t : ℕ) (before : Option Key) (e : Entry) (es : List Entry) → AreAfter t before (e ∷ es) → AreAfter t before es
after-later t None e es h = tt
after-later t (Some key) e es h = second _ _ h

after-first : (t : ℕ) (before : Option Key) (e : Entry) (es : List Entry) → (e.0.0 == t) ≡ true → AreAfter t before (e ∷ es) → is_above before e.0.1 ≡ true
after-first t None e es is h = refl
after-first t (Some key) e es is h = is_less _ (sym (cmp-here t key e.0 is) ∙ less _ (first _ _ h))

ascending-among : (t : ℕ) (before : Option Key) (es : List Entry) → T (is_sorted cell_cmp es) → AreAfter t before es → AreAscending before (rows_among es t)
ascending-among t before [] sorted after = tt
ascending-among t before (e ∷ es) sorted after =
    go (λ h. ascending-among t (Some e.0.1) es (second _ _ sorted) h) (ascending-among t before es (second _ _ sorted) (after-later t before e es after)) (e.0.0 == t) refl
  where
    go : (T (below_all cell_cmp (t, e.0.1) es) → AreAscending (Some e.0.1) (rows_among es t)) → AreAscending before (rows_among es t) → (b : Bool) → (e.0.0 == t) ≡ b
        → AreAscending before (keyed_rows (cond b (e ∷ filter (λ entry. entry.0.0 == t) es) (filter (λ entry. entry.0.0 == t) es)))
    go with_it without_it true is = (after-first t before e es is after, with_it (subst (λ (cell : Cell). T (below_all cell_cmp cell es)) (here t e.0 is) (first _ _ sorted)))
    go with_it without_it false is = without_it

pub ascending-rows : (held : Tables) (t : ℕ) → AreAscending None (table_rows held t)
ascending-rows held t = ascending-among t None (entries held) (entries_sorted held) tt

-- ---- they are found

pub find-among : (t : ℕ) (key : Key) (es : List Entry) → find cell_cmp (t, key) es ≡ find key_cmp key (rows_among es t)
find-among t key [] = refl
find-among t key (e ∷ es) = go (find-among t key es) (e.0.0 == t) refl
  where
    apart : (e.0.0 == t) ≡ false → is_eq (cell_cmp (t, key) e.0) ≡ false
    apart h = by (nat_cmp t e.0.0) (ranked t e.0.0 (nat_cmp t e.0.0) refl)
      where
        by : (r : Ordering) → MatchOrdering r (t < e.0.0) (t ≡ e.0.0) (e.0.0 < t) → is_eq (ordering_then r (key_cmp key e.0.1)) ≡ false
        by Less lt = refl
        by Equal same = absurd (other (sym (ap (λ n. n == t) (sym same)) ∙ h))
          where
            other : (t == t) ≡ false → ⊥
            other e = let yes = itself t in cc
        by Greater lt = refl

    go : find cell_cmp (t, key) es ≡ find key_cmp key (rows_among es t) → (b : Bool) → (e.0.0 == t) ≡ b
        → cond (is_eq (cell_cmp (t, key) e.0)) (Some e.1) (find cell_cmp (t, key) es) ≡ find key_cmp key (keyed_rows (cond b (e ∷ filter (λ entry. entry.0.0 == t) es) (filter (λ entry. entry.0.0 == t) es)))
    go rest true is = ap (λ r. cond (is_eq r) (Some e.1) (find cell_cmp (t, key) es)) (cmp-here t key e.0 is) ∙ ap (cond (is_eq (key_cmp key e.0.1)) (Some e.1)) rest
    go rest false is = ap (λ b. cond b (Some e.1) (find cell_cmp (t, key) es)) (apart is) ∙ rest

above-all : (before : Key) (rows : List KeyedRow) → AreAscending (Some before) rows → (i : ℕ) (row : KeyedRow) → i < length rows → row ≡ get_or rows i row → key_cmp before row.0 ≡ Less
above-all before [] ascending i row lt is = absurd (omega arith)
above-all before (x ∷ rows) ascending zero row lt is = ap (λ (r : KeyedRow). key_cmp before r.0) is ∙ lesser _ ascending.0
above-all before (x ∷ rows) ascending (suc i) row lt is = keys_total.trans before x.0 row.0 (lesser _ ascending.0) (above-all x.0 rows ascending.1 i row (omega (arith, lt)) is)

find-at : (before : Option Key) (rows : List KeyedRow) → AreAscending before rows → (i : ℕ) (row : KeyedRow) → i < length rows → row ≡ get_or rows i row → find key_cmp row.0 rows ≡ Some row.1
find-at before [] ascending i row lt is = absurd (omega arith)
find-at before (x ∷ rows) ascending zero row lt is =
    ap (λ (r : KeyedRow). cond (is_eq (key_cmp r.0 x.0)) (Some x.1) (find key_cmp r.0 rows)) is
    ∙ ap (λ r. cond (is_eq r) (Some x.1) (find key_cmp x.0 rows)) (tied_itself keys_total x.0) ∙ ap (λ (r : KeyedRow). Some r.1) (sym is)
find-at before (x ∷ rows) ascending (suc i) row lt is =
    let below = above-all x.0 rows ascending.1 i row (omega (arith, lt)) is in
    let above : key_cmp row.0 x.0 ≡ Greater = keys_total.antisymm row.0 x.0 ∙ ap ordering_reverse below in
    ap (λ r. cond (is_eq r) (Some x.1) (find key_cmp row.0 rows)) above ∙ find-at (Some x.0) rows ascending.1 i row (omega (arith, lt)) is

-- what holds of each item by its offset
all-by-place : {A : Type 0} (P : A → Type 0) (xs : List A) → ((x : A) (i : ℕ) → i < length xs → x ≡ get_or xs i x → P x) → AllByRecursion P xs
all-by-place P [] each = tt
all-by-place P (x ∷ xs) each = (each x 0 (omega arith) refl, all-by-place P xs (λ y i lt is. each y (suc i) (omega (arith, lt)) is))

pub all-at : {A : Type 0} (P : A → Type 0) (xs : List A) (i : ℕ) (x : A) → AllByRecursion P xs → i < length xs → x ≡ get_or xs i x → P x
all-at P [] i x all lt is = absurd (omega arith)
all-at P (y ∷ xs) zero x all lt is = subst P (sym is) all.0
all-at P (y ∷ xs) (suc i) x all lt is = all-at P xs i x all.1 (omega (arith, lt)) is

row-found : (held : Tables) (t i : ℕ) (row : KeyedRow) → i < length (table_rows held t) → row ≡ get_or (table_rows held t) i row → get held (t, row.0) ≡ Some row.1
row-found held t i row lt is = get-entries held (t, row.0) ∙ find-among t row.0 (entries held) ∙ find-at None (table_rows held t) (ascending-rows held t) i row lt is

keys-among : (t : ℕ) (es : List Entry) → map (λ (cell : Cell). cell.1) (filter (λ cell. cell.0 == t) (map (λ (e : Entry). e.0) es)) ≡ map (λ (row : KeyedRow). row.0) (rows_among es t)
keys-among t [] = refl
keys-among t (e ∷ es) = go (keys-among t es) (e.0.0 == t)
  where
    go : map (λ (cell : Cell). cell.1) (filter (λ cell. cell.0 == t) (map (λ (e : Entry). e.0) es)) ≡ map (λ (row : KeyedRow). row.0) (rows_among es t) → (b : Bool)
        → map (λ (cell : Cell). cell.1) (cond b (e.0 ∷ filter (λ cell. cell.0 == t) (map (λ (e : Entry). e.0) es)) (filter (λ cell. cell.0 == t) (map (λ (e : Entry). e.0) es)))
        ≡ map (λ (row : KeyedRow). row.0) (keyed_rows (cond b (e ∷ filter (λ entry. entry.0.0 == t) es) (filter (λ entry. entry.0.0 == t) es)))
    go rest true = ap (λ ks. e.0.1 ∷ ks) rest
    go rest false = rest

pub keys-rows : (held : Tables) (t : ℕ) → keys_of held t ≡ map (λ (row : KeyedRow). row.0) (table_rows held t)
keys-rows held t = keys-among t (entries held)

pub as-many : (held : Tables) (t : ℕ) → length (keys_of held t) ≡ length (table_rows held t)
as-many held t = ap length (keys-rows held t) ∙ length-map (table_rows held t) (λ row. row.0)

any-default : {A : Type 0} (xs : List A) (i : ℕ) (c d : A) → i < length xs → get_or xs i c ≡ get_or xs i d
any-default [] i c d lt = absurd (omega arith)
any-default (x ∷ xs) zero c d lt = refl
any-default (x ∷ xs) (suc i) c d lt = any-default xs i c d (omega (arith, lt))

-- the row of the key that is next
pub key-found : (held : Tables) (t i : ℕ) (key : Key) → i < length (keys_of held t) → key ≡ get_or (keys_of held t) i key
    → (row : RowValues) × (get held (t, key) ≡ Some row) × ((key, row) ≡ get_or (table_rows held t) i (key, row))
key-found held t i key lt is =
    let within : i < length (table_rows held t) = omega (arith, lt, as-many held t) in
    let row : KeyedRow = get_or (table_rows held t) i (key, []) in
    let same : row ≡ get_or (table_rows held t) i row = any-default (table_rows held t) i (key, []) (get_or (table_rows held t) i (key, [])) within in
    let key_is : row.0 ≡ key = sym (get_or-map (λ (r : KeyedRow). r.0) (table_rows held t) i (key, []) key within) ∙ ap (λ ks. get_or ks i key) (sym (keys-rows held t)) ∙ sym is in
    let pair : (key, row.1) ≡ row = ap (λ (k : Key). (k, row.1)) (sym key_is) in (
      row.1,
      ap (λ (k : Key). get held (t, k)) (sym key_is) ∙ row-found held t i row within same,
      pair ∙ same ∙ any-default (table_rows held t) i row (key, row.1) within,
    )

-- where the row of the key that is next stands
pub key-placed : (held : Tables) (t i : ℕ) (key : Key) (row : RowValues) → i < length (keys_of held t) → key ≡ get_or (keys_of held t) i key → get held (t, key) ≡ Some row
    → (i < length (table_rows held t)) × ((key, row) ≡ get_or (table_rows held t) i (key, row))
key-placed held t i key row lt is found =
    let there = key-found held t i key lt is in
    let same : there.0 ≡ row = some_same (sym there.1 ∙ found) in (
      omega (arith, lt, as-many held t),
      subst (λ (r : RowValues). (key, r) ≡ get_or (table_rows held t) i (key, r)) same there.2,
    )
  where
    some_same : {A : Type 0} {x y : A} → Some x ≡ Some y → x ≡ y
    some_same e = cc

-- a list by keys has as many rows
pub counted : {A : Type 0} (k : A → Key) (xs : List A) (held : Tables) (t : ℕ) → map k xs ≡ keys_of held t → length xs ≡ length (table_rows held t)
counted k xs held t keys = sym (length-map xs k) ∙ ap (λ ks. length ks) keys ∙ as-many held t

-- where a row of a list by keys stands
pub entry-placed : {A : Type 0} (k : A → Key) (r : A → RowValues) (xs : List A) (held : Tables) (t i : ℕ) (x : A) → map k xs ≡ keys_of held t → map (λ y. Some (r y)) xs ≡ map (λ key. get held (t, key)) (keys_of held t)
    → i < length xs → x ≡ get_or xs i x → (i < length (table_rows held t)) × ((k x, r x) ≡ get_or (table_rows held t) i (k x, r x))
entry-placed k r xs held t i x keys rows lt is =
    let within : i < length (keys_of held t) = omega (arith, lt, length-map xs k, ap (λ ks. length ks) keys) in
    let key : k x ≡ get_or (keys_of held t) i (k x) = ap k is ∙ sym (get_or-map k xs i x (k x) lt) ∙ ap (λ ks. get_or ks i (k x)) keys in
    let found : get held (t, k x) ≡ Some (r x) =
    ap (λ key. get held (t, key)) key ∙ sym (get_or-map (λ key. get held (t, key)) (keys_of held t) i (k x) (Some (r x)) within)
    ∙ ap (λ os. get_or os i (Some (r x))) (sym rows) ∙ get_or-map (λ y. Some (r y)) xs i x (Some (r x)) lt ∙ ap (λ y. Some (r y)) (sym is) in
    key-placed held t i (k x) (r x) within key found

-- each row of a table is found by its key
pub each-row : (P : KeyedRow → Type 0) (held : Tables) (t : ℕ) → ((row : KeyedRow) (i : ℕ) → i < length (table_rows held t) → row ≡ get_or (table_rows held t) i row → get held (t, row.0) ≡ Some row.1 → P row) → AllByRecursion P (table_rows held t)
each-row P held t each = all-by-place P (table_rows held t) (λ row i lt is. each row i lt is (row-found held t i row lt is))

-- ---- one more after them

abbrev AreBelow : Key → List KeyedRow → Type 0
AreBelow key rows = AllByRecursion (λ row. key_cmp row.0 key ≡ Less) rows

-- where all keys are above and below one, there is none
none-above : (t : ℕ) (key : Key) (es : List Entry) → T (below_all cell_cmp (t, key) es) → AreBelow key (rows_among es t) → rows_among es t ≡ []
none-above t key [] above below = refl
none-above t key (e ∷ es) above below = go (λ h. none-above t key es (second _ _ above) h) (e.0.0 == t) refl below
  where
    go : (AreBelow key (rows_among es t) → rows_among es t ≡ []) → (b : Bool) → (e.0.0 == t) ≡ b
        → AreBelow key (keyed_rows (cond b (e ∷ filter (λ entry. entry.0.0 == t) es) (filter (λ entry. entry.0.0 == t) es)))
        → keyed_rows (cond b (e ∷ filter (λ entry. entry.0.0 == t) es) (filter (λ entry. entry.0.0 == t) es)) ≡ []
    go rest true is h = absurd (not_both_ways key e.0.1 (sym (cmp-here t key e.0 is) ∙ less _ (first _ _ above)) h.0)
    go rest false is h = rest h

below-through : (x y : Cell) (es : List Entry) → cell_cmp x y ≡ Less → T (below_all cell_cmp y es) → T (below_all cell_cmp x es)
below-through x y [] p h = tt
below-through x y (e ∷ es) p h = both _ _ (subst (λ r. T (is_lt r)) (sym (cells_total.trans x y e.0 p (less _ (first _ _ h)))) tt) (below-through x y es p (second _ _ h))

put-last : (t : ℕ) (key : Key) (row : RowValues) (es : List Entry) → T (is_sorted cell_cmp es) → AreBelow key (rows_among es t) → rows_among (put cell_cmp (t, key) row es) t ≡ rows_among es t ++ (key, row) ∷ []
put-last t key row [] sorted below = ap (λ b. keyed_rows (cond b (((t, key), row) ∷ []) [])) (itself t)
put-last t key row (e ∷ es) sorted below = go (put-last t key row es (second _ _ sorted)) (cell_cmp (t, key) e.0) refl
  where
    rows : List Entry → List KeyedRow
    rows xs = rows_among xs t

    later : (b : Bool) → AreBelow key (keyed_rows (cond b (e ∷ filter (λ entry. entry.0.0 == t) es) (filter (λ entry. entry.0.0 == t) es))) → AreBelow key (rows_among es t)
    later true h = h.1
    later false h = h

    tied : (b : Bool) → (e.0.0 == t) ≡ b → (t, key) ≡ e.0 → AreBelow key (keyed_rows (cond b (e ∷ filter (λ entry. entry.0.0 == t) es) (filter (λ entry. entry.0.0 == t) es))) → ⊥
    tied true is same h = not_above key (ap (λ (c : Cell). key_cmp c.1 key) same ∙ h.0)
    tied false is same h = no (sym (itself t) ∙ ap (λ (c : Cell). c.0 == t) same ∙ is)
      where
        no : true ≡ false → ⊥
        no e = cc

    joined : (b : Bool) → rows_among (put cell_cmp (t, key) row es) t ≡ rows_among es t ++ (key, row) ∷ []
        → keyed_rows (cond b (e ∷ filter (λ entry. entry.0.0 == t) (put cell_cmp (t, key) row es)) (filter (λ entry. entry.0.0 == t) (put cell_cmp (t, key) row es)))
        ≡ keyed_rows (cond b (e ∷ filter (λ entry. entry.0.0 == t) es) (filter (λ entry. entry.0.0 == t) es)) ++ (key, row) ∷ []
    joined true rest = ap (λ xs. (e.0.1, e.1) ∷ xs) rest
    joined false rest = rest

    go : (AreBelow key (rows_among es t) → rows_among (put cell_cmp (t, key) row es) t ≡ rows_among es t ++ (key, row) ∷ []) → (r : Ordering) → cell_cmp (t, key) e.0 ≡ r
        → rows_among (by_order r (((t, key), row) ∷ e ∷ es) ((e.0, row) ∷ es) (e ∷ put cell_cmp (t, key) row es)) t ≡ rows_among (e ∷ es) t ++ (key, row) ∷ []
    go rest Less is =
        let above : T (below_all cell_cmp (t, key) (e ∷ es)) = both _ _ (subst (λ r. T (is_lt r)) (sym is) tt) (below-through (t, key) e.0 es is (first _ _ sorted)) in
        let nothing = none-above t key (e ∷ es) above below in
        ap (λ b. keyed_rows (cond b (((t, key), row) ∷ filter (λ entry. entry.0.0 == t) (e ∷ es)) (filter (λ entry. entry.0.0 == t) (e ∷ es)))) (itself t)
        ∙ ap (λ xs. (key, row) ∷ xs) nothing ∙ ap (λ (xs : List KeyedRow). xs ++ (key, row) ∷ []) (sym nothing)
    go rest Equal is = absurd (tied (e.0.0 == t) refl (cells_antisymmetric (t, key) e.0 is) below)
    go rest Greater is = joined (e.0.0 == t) (rest (later (e.0.0 == t) below))

put-other : (u t : ℕ) (key : Key) (row : RowValues) (es : List Entry) → (t == u) ≡ false → rows_among (put cell_cmp (t, key) row es) u ≡ rows_among es u
put-other u t key row [] apart = ap (λ b. keyed_rows (cond b (((t, key), row) ∷ []) [])) apart
put-other u t key row (e ∷ es) apart = go (put-other u t key row es apart) (cell_cmp (t, key) e.0) refl
  where
    joined : (b : Bool) → rows_among (put cell_cmp (t, key) row es) u ≡ rows_among es u
        → keyed_rows (cond b (e ∷ filter (λ entry. entry.0.0 == u) (put cell_cmp (t, key) row es)) (filter (λ entry. entry.0.0 == u) (put cell_cmp (t, key) row es)))
        ≡ keyed_rows (cond b (e ∷ filter (λ entry. entry.0.0 == u) es) (filter (λ entry. entry.0.0 == u) es))
    joined true rest = ap (λ xs. (e.0.1, e.1) ∷ xs) rest
    joined false rest = rest

    without : (b : Bool) → b ≡ false → keyed_rows (cond b ((e.0, row) ∷ filter (λ entry. entry.0.0 == u) es) (filter (λ entry. entry.0.0 == u) es))
        ≡ keyed_rows (cond b (e ∷ filter (λ entry. entry.0.0 == u) es) (filter (λ entry. entry.0.0 == u) es))
    without true h = absurd cc
    without false h = refl

    go : rows_among (put cell_cmp (t, key) row es) u ≡ rows_among es u → (r : Ordering) → cell_cmp (t, key) e.0 ≡ r
        → rows_among (by_order r (((t, key), row) ∷ e ∷ es) ((e.0, row) ∷ es) (e ∷ put cell_cmp (t, key) row es)) u ≡ rows_among (e ∷ es) u
    go rest Less is = ap (λ b. keyed_rows (cond b (((t, key), row) ∷ filter (λ entry. entry.0.0 == u) (e ∷ es)) (filter (λ entry. entry.0.0 == u) (e ∷ es)))) apart
    go rest Equal is = without (e.0.0 == u) (ap (λ (c : Cell). c.0 == u) (sym (cells_antisymmetric (t, key) e.0 is)) ∙ apart)
    go rest Greater is = joined (e.0.0 == u) rest

module _ (held : Tables) (t : ℕ) (key : Key) (row : RowValues) where
  pub rows-inserted : AreBelow key (table_rows held t) → table_rows (insert held (t, key) row) t ≡ table_rows held t ++ (key, row) ∷ []
  rows-inserted below = ap (λ es. rows_among es t) (entries-insert cells_total held (t, key) row) ∙ put-last t key row (entries held) (entries_sorted held) below

  pub others-inserted : (u : ℕ) → (t == u) ≡ false → table_rows (insert held (t, key) row) u ≡ table_rows held u
  others-inserted u apart = ap (λ es. rows_among es u) (entries-insert cells_total held (t, key) row) ∙ put-other u t key row (entries held) apart

-- ---- the key before

-- this key, where there is one, is the last of the rows
abbrev pub AreUpTo : Option Key → List KeyedRow → Type 0
AreUpTo None rows = rows ≡ []
AreUpTo (Some before) rows = AllByRecursion (λ row. (key_cmp row.0 before ≡ Less) ⊎ (row.0 ≡ before)) rows

below-step : (before key : Key) (rows : List KeyedRow) → AreUpTo (Some before) rows → key_cmp before key ≡ Less → AreBelow key rows
below-step before key [] up above = tt
below-step before key (row ∷ rows) up above = (go up.0, below-step before key rows up.1 above)
  where
    go : ((key_cmp row.0 before ≡ Less) ⊎ (row.0 ≡ before)) → key_cmp row.0 key ≡ Less
    go (inl lt) = keys_total.trans row.0 before key lt above
    go (inr same) = ap (λ k. key_cmp k key) same ∙ above

pub all-below : (before : Option Key) (key : Key) (rows : List KeyedRow) → AreUpTo before rows → is_above before key ≡ true → AreBelow key rows
all-below None key rows up above = subst (AreBelow key) (sym up) tt
all-below (Some before) key rows up above = below-step before key rows up (lesser _ above)

pub up-to-last : (key : Key) (row : RowValues) (rows : List KeyedRow) → AreBelow key rows → AreUpTo (Some key) (rows ++ (key, row) ∷ [])
up-to-last key row [] below = (inr refl, tt)
up-to-last key row (x ∷ rows) below = (inl below.0, up-to-last key row rows below.1)

-- ---- several tables

pub rows-empty : (t : ℕ) → table_rows empty t ≡ []
rows-empty t = ap (λ es. rows_among es t) (nil_from_length (entries (empty {X = RowValues} {R = cell_cmp})) (sym (len-entries empty) ∙ len-empty cell_cmp RowValues))

pub tables-same : (a b : Tables) (n : ℕ) → ((t : ℕ) → t < n → table_rows a t ≡ table_rows b t) → rows_of_tables a n ≡ rows_of_tables b n
tables-same a b zero same = refl
tables-same a b (suc n) same = ap (λ xs. xs ++ table_rows a n ∷ []) (tables-same a b n (λ t lt. same t (omega (arith, lt)))) ∙ ap (λ (rows : List KeyedRow). rows_of_tables b n ++ rows ∷ []) (same n (omega arith))

pub tables-counted : (held : Tables) (n : ℕ) → length (rows_of_tables held n) ≡ n
tables-counted held zero = refl
tables-counted held (suc n) = omega (arith, tables-counted held n, length-append (rows_of_tables held n) (table_rows held n ∷ []))

-- the rows of that many tables from one on
abbrev pub rows_from : Tables → ℕ → ℕ → List (List KeyedRow)
rows_from held s zero = []
rows_from held s (suc n) = table_rows held s ∷ rows_from held (suc s) n

tables-split : (held : Tables) (s n : ℕ) → rows_of_tables held (s + n) ≡ rows_of_tables held s ++ rows_from held s n
tables-split held s zero = (let same : s + 0 ≡ s = omega arith in ap (rows_of_tables held) same) ∙ sym (append-nil (rows_of_tables held s))
tables-split held s (suc n) =
    (let same : s + suc n ≡ suc s + n = omega arith in ap (rows_of_tables held) same)
    ∙ tables-split held (suc s) n ∙ append_assoc (rows_of_tables held s) (table_rows held s ∷ []) (rows_from held (suc s) n)

pub tables-from : (held : Tables) (n : ℕ) → rows_of_tables held n ≡ rows_from held 0 n
tables-from held n = (let same : n ≡ 0 + n = omega arith in ap (rows_of_tables held) same) ∙ tables-split held 0 n
