-- What the one map of several tables has at a cell, and which keys it has in a table, is what that table has.
use Rattle.std.proofs.Common.{◌≡◌, ℕ, suc, zero, ◌+◌, ◌<◌, ◌==◌, Bool, true, false, cond, T, ◌&&◌, List, [], ◌∷◌, ◌++◌, map, length, get_or, set, ◌≢◌, Option, Some, None, refl, sym, ap, subst, ◌∙◌, arith}
use Rattle.std.specs.List.{filter}
use Rattle.std.proofs.lemmas.Bool.Decides.{nat_tests}
use Rattle.std.proofs.lemmas.List.{nil_from_length, get_or_read, get_or-set_other, length-map, map-set}
use Rattle.std.proofs.Math.ListN.{get_or-map}
use Rattle.std.proofs.Math.Seq.{map-set_same}
use Rattle.std.proofs.lemmas.Grind.{get_or-set_at}
use Rattle.std.specs.declared.cmp.Ordering.{Ordering}
use Rattle.std.specs.declared.cmp.Ordering.TheVariants.{Less, Equal, Greater}
use Rattle.std.specs.Ordering.{nat_cmp, is_eq, is_lt, ordering_then, eq_by_cmp, MatchOrdering}
use Rattle.std.specs.Cmp.{ranked}
use Rattle.std.specs.FinMap.{empty, entries, entries_sorted, insert, remove, get, get-insert, get-remove, same_map, empty_of_len, get-entries, get-from_sorted, entries-from_sorted, from_sorted, keys, find, is_sorted, len-empty, len-entries}
use Rattle.std.specs.FinMap.Entries.{below_all}
use Rattle.pac_value.specs.declared.values.Key.{Key}
use Rattle.pac_value.specs.Keys.{key_cmp, keys_total}
use Rattle.pac_value.proofs.CellLemmas.{cells_total, cells_antisymmetric}
use Rattle.pac_value.specs.State.{Cell, cell_cmp, RowValues, keys_among, keys_of}
use Rattle.pac_tables.specs.Joined.{OneTable, at_cells, entries_from, joined_tables}

-- the entries at cells of a table, as entries of that table
unfoldable pub part : ℕ → List (Cell × RowValues) → List (Key × RowValues)
part t [] = []
part t (e ∷ es) = cond (e.0.0 == t) ((e.0.1, e.1) ∷ part t es) (part t es)

itself : (t : ℕ) → (t == t) ≡ true
itself t = grind (arith, nat_tests)

apart : (t u : ℕ) → t < u → (u == t) ≡ false
apart t u h = grind (arith, nat_tests)

apart_above : (t u : ℕ) → u < t → (u == t) ≡ false
apart_above t u h = grind (arith, nat_tests)

pub part-append : (t : ℕ) (xs ys : List (Cell × RowValues)) → part t (xs ++ ys) ≡ part t xs ++ part t ys
unfolding part
part-append t [] ys = refl
part-append t (x ∷ xs) ys = go (part-append t xs ys) (x.0.0 == t)
  where
    go : part t (xs ++ ys) ≡ part t xs ++ part t ys → (b : Bool) → cond b ((x.0.1, x.1) ∷ part t (xs ++ ys)) (part t (xs ++ ys)) ≡ cond b ((x.0.1, x.1) ∷ part t xs) (part t xs) ++ part t ys
    go rest true = ap (λ zs. (x.0.1, x.1) ∷ zs) rest
    go rest false = rest

part-here : (t : ℕ) (es : List (Key × RowValues)) → part t (at_cells t es) ≡ es
unfolding part
part-here t [] = refl
part-here t (e ∷ es) = ap (λ b. cond b (e ∷ part t (at_cells t es)) (part t (at_cells t es))) (itself t) ∙ ap (λ zs. e ∷ zs) (part-here t es)

part-apart : (t u : ℕ) → (u == t) ≡ false → (es : List (Key × RowValues)) → part t (at_cells u es) ≡ []
unfolding part
part-apart t u h [] = refl
part-apart t u h (e ∷ es) = ap (λ b. cond b (e ∷ part t (at_cells u es)) (part t (at_cells u es))) h ∙ part-apart t u h es

part-below : (t s : ℕ) → t < s → (ms : List OneTable) → part t (entries_from s ms) ≡ []
unfolding part
part-below t s h [] = refl
part-below t s h (m ∷ ms) =
    part-append t (at_cells s (entries m)) (entries_from (s + 1) ms)
    ∙ ap (λ zs. zs ++ part t (entries_from (s + 1) ms)) (part-apart t s (apart t s h) (entries m))
    ∙ part-below t (s + 1) (omega arith) ms

no-entries : entries (empty {X = RowValues} {R = key_cmp}) ≡ []
no-entries = nil_from_length _ (sym (len-entries empty) ∙ len-empty key_cmp RowValues)

append-nil : {A : Type 0} (xs : List A) → xs ++ [] ≡ xs
append-nil [] = refl
append-nil (x ∷ xs) = ap (λ ys. x ∷ ys) (append-nil xs)

-- the part of a table is what that table has
pub part-from : (s d : ℕ) (ms : List OneTable) → part (s + d) (entries_from s ms) ≡ entries (get_or ms d empty)
unfolding part
part-from s d [] = sym no-entries
part-from s zero (m ∷ ms) =
    let here : s + 0 ≡ s = omega arith in
    ap (λ t. part t (at_cells s (entries m) ++ entries_from (s + 1) ms)) here
    ∙ part-append s (at_cells s (entries m)) (entries_from (s + 1) ms)
    ∙ ap (λ zs. zs ++ part s (entries_from (s + 1) ms)) (part-here s (entries m))
    ∙ ap (λ zs. entries m ++ zs) (part-below s (s + 1) (omega arith) ms)
    ∙ append-nil (entries m)
part-from s (suc d) (m ∷ ms) =
    let later : s + suc d ≡ (s + 1) + d = omega arith in
    part-append (s + suc d) (at_cells s (entries m)) (entries_from (s + 1) ms)
    ∙ ap (λ zs. zs ++ part (s + suc d) (entries_from (s + 1) ms)) (part-apart (s + suc d) s (apart_above (s + suc d) s (omega arith)) (entries m))
    ∙ ap (λ t. part t (entries_from (s + 1) ms)) later
    ∙ part-from (s + 1) d ms

-- what is found at a cell is what is found at the key in the table's part
pub find-part : (t : ℕ) (k : Key) (es : List (Cell × RowValues)) → find cell_cmp (t, k) es ≡ find key_cmp k (part t es)
unfolding part
find-part t k [] = refl
find-part t k (e ∷ es) = go (find-part t k es) (nat_cmp t e.0.0) (ranked t e.0.0 (nat_cmp t e.0.0) refl)
  where
    go : find cell_cmp (t, k) es ≡ find key_cmp k (part t es) → (r : Ordering) → MatchOrdering r (t < e.0.0) (t ≡ e.0.0) (e.0.0 < t) → cond (is_eq (ordering_then r (key_cmp k e.0.1))) (Some e.1) (find cell_cmp (t, k) es) ≡ find key_cmp k (cond (e.0.0 == t) ((e.0.1, e.1) ∷ part t es) (part t es))
    go rest Less h = rest ∙ sym (ap (λ b. find key_cmp k (cond b ((e.0.1, e.1) ∷ part t es) (part t es))) (apart t e.0.0 h))
    go rest Equal h = ap (cond (is_eq (key_cmp k e.0.1)) (Some e.1)) rest ∙ sym (ap (λ b. find key_cmp k (cond b ((e.0.1, e.1) ∷ part t es) (part t es))) (ap (λ u. e.0.0 == u) h ∙ itself e.0.0))
    go rest Greater h = rest ∙ sym (ap (λ b. find key_cmp k (cond b ((e.0.1, e.1) ∷ part t es) (part t es))) (apart_above t e.0.0 h))

-- the keys at cells of a table are those of its part
pub keys-part : (t : ℕ) (es : List (Cell × RowValues)) → keys_among (map (λ e. e.0) es) t ≡ map (λ e. e.0) (part t es)
unfolding part
keys-part t [] = refl
keys-part t (e ∷ es) = go (keys-part t es) (e.0.0 == t)
  where
    go : keys_among (map (λ e. e.0) es) t ≡ map (λ e. e.0) (part t es) → (b : Bool) → map (λ (cell : Cell). cell.1) (cond b (e.0 ∷ filter (λ cell. cell.0 == t) (map (λ e. e.0) es)) (filter (λ cell. cell.0 == t) (map (λ e. e.0) es))) ≡ map (λ (e : Key × RowValues). e.0) (cond b ((e.0.1, e.1) ∷ part t es) (part t es))
    go rest true = ap (λ ks. e.0.1 ∷ ks) rest
    go rest false = rest

pub less-here : (t : ℕ) (o : Ordering) → ordering_then (nat_cmp t t) o ≡ o
less-here t o = go (nat_cmp t t) (ranked t t (nat_cmp t t) refl)
  where
    go : (r : Ordering) → MatchOrdering r (t < t) (t ≡ t) (t < t) → ordering_then r o ≡ o
    go Less h = absurd (omega arith)
    go Equal h = refl
    go Greater h = absurd (omega arith)

less-below : (t s : ℕ) (o : Ordering) → t < s → ordering_then (nat_cmp t s) o ≡ Less
less-below t s o below = go (nat_cmp t s) (ranked t s (nat_cmp t s) refl)
  where
    go : (r : Ordering) → MatchOrdering r (t < s) (t ≡ s) (s < t) → ordering_then r o ≡ Less
    go Less h = refl
    go Equal h = absurd (omega arith)
    go Greater h = absurd (omega arith)

both : (a b : Bool) → T a → T b → T (a && b)
both true b p q = q
both false b p q = p

first : (a b : Bool) → T (a && b) → T a
first true b p = tt
first false b p = p

second : (a b : Bool) → T (a && b) → T b
second true b p = p
second false b p = absurd p

-- a cell comes before all cells of later tables
below-append : (c : Cell) (xs ys : List (Cell × RowValues)) → T (below_all cell_cmp c xs) → T (below_all cell_cmp c ys) → T (below_all cell_cmp c (xs ++ ys))
below-append c [] ys h k = k
below-append c (x ∷ xs) ys h k = both _ _ (first _ _ h) (below-append c xs ys (second _ _ h) k)

below-later : (t s : ℕ) (k : Key) → t < s → (es : List (Key × RowValues)) → T (below_all cell_cmp (t, k) (at_cells s es))
below-later t s k h [] = tt
below-later t s k h (e ∷ es) = both _ _ (subst (λ r. T (is_lt r)) (sym (less-below t s (key_cmp k e.0) h)) tt) (below-later t s k h es)

below-from : (t s : ℕ) (k : Key) → t < s → (ms : List OneTable) → T (below_all cell_cmp (t, k) (entries_from s ms))
below-from t s k h [] = tt
below-from t s k h (m ∷ ms) = below-append (t, k) (at_cells s (entries m)) (entries_from (s + 1) ms) (below-later t s k h (entries m)) (below-from t (s + 1) k (omega arith) ms)

below-same : (t : ℕ) (k : Key) (es : List (Key × RowValues)) → T (below_all key_cmp k es) → T (below_all cell_cmp (t, k) (at_cells t es))
below-same t k [] h = tt
below-same t k (e ∷ es) h = both _ _ (subst (λ r. T (is_lt r)) (sym (less-here t (key_cmp k e.0))) (first _ _ h)) (below-same t k es (second _ _ h))

sorted-append : (t : ℕ) (es : List (Key × RowValues)) (ms : List OneTable) → T (is_sorted key_cmp es) → T (is_sorted cell_cmp (entries_from (t + 1) ms)) → T (is_sorted cell_cmp (at_cells t es ++ entries_from (t + 1) ms))
sorted-append t [] ms h k = k
sorted-append t (e ∷ es) ms h k =
    both _ _ (below-append (t, e.0) (at_cells t es) (entries_from (t + 1) ms) (below-same t e.0 es (first _ _ h)) (below-from t (t + 1) e.0 (omega arith) ms)) (sorted-append t es ms (second _ _ h) k)

sorted-from : (s : ℕ) (ms : List OneTable) → T (is_sorted cell_cmp (entries_from s ms))
sorted-from s [] = tt
sorted-from s (m ∷ ms) = sorted-append s (entries m) ms (entries_sorted m) (sorted-from (s + 1) ms)

from-zero : (t : ℕ) (ms : List OneTable) → part t (entries_from 0 ms) ≡ entries (get_or ms t empty)
from-zero t ms = ap (λ u. part u (entries_from 0 ms)) (zero-first t) ∙ part-from 0 t ms
  where
    zero-first : (t : ℕ) → t ≡ 0 + t
    zero-first t = omega arith

-- a row is found in its table
pub get-joined : (ms : List OneTable) (t : ℕ) (k : Key) → get (joined_tables ms) (t, k) ≡ get (get_or ms t empty) k
get-joined ms t k =
    get-from_sorted cell_cmp (entries_from 0 ms) (t, k) (sorted-from 0 ms)
    ∙ find-part t k (entries_from 0 ms)
    ∙ ap (find key_cmp k) (from-zero t ms)
    ∙ sym (get-entries (get_or ms t empty) k)

-- the keys of a table are that table's
pub keys-joined : (ms : List OneTable) (t : ℕ) → keys_of (joined_tables ms) t ≡ keys (get_or ms t empty)
keys-joined ms t =
    ap (λ es. keys_among (map (λ e. e.0) es) t) (entries-from_sorted cell_cmp (entries_from 0 ms) (sorted-from 0 ms))
    ∙ keys-part t (entries_from 0 ms)
    ∙ ap (map (λ (e : Key × RowValues). e.0)) (from-zero t ms)

-- a table with no rows, put after the others, adds none
from-push : (s : ℕ) (ms : List OneTable) → entries_from s (ms ++ empty ∷ []) ≡ entries_from s ms
from-push s [] = ap (λ es. at_cells s es ++ []) no-entries
from-push s (m ∷ ms) = ap (λ es. at_cells s (entries m) ++ es) (from-push (s + 1) ms)

pub joined_tables-push : (ms : List OneTable) → joined_tables (ms ++ empty ∷ []) ≡ joined_tables ms
joined_tables-push ms = ap from_sorted (from-push 0 ms)

-- of a table m that stands at number t, which code may know as u
module _ (ms : List OneTable) (u t : ℕ) (m : OneTable) (same : u ≡ t) (within : t < length ms) (is : m ≡ get_or ms u m) where
  at-number : get_or ms t empty ≡ m
  at-number = sym (get_or_read ms t m within (is ∙ ap (λ i. get_or ms i m) same) empty)

  -- what it has at a key
  pub get-table : (k : Key) → get (joined_tables ms) (t, k) ≡ get m k
  get-table k = get-joined ms t k ∙ ap (λ n. get n k) at-number

  -- its keys
  pub keys-table : keys_of (joined_tables ms) t ≡ keys m
  keys-table = keys-joined ms t ∙ ap keys at-number

  -- with a table n instead that differs at one key, the tables differ at one cell
  changed : (k : Key) (w : Option RowValues) (n : OneTable) → ((j : Key) → get n j ≡ cond (eq_by_cmp key_cmp j k) w (get m j)) → (q : Cell) → get (joined_tables (set ms u n)) q ≡ cond (eq_by_cmp cell_cmp q (t, k)) w (get (joined_tables ms) q)
  changed k w n differs q = get-joined (set ms u n) q.0 q.1 ∙ go (nat_cmp q.0 t) (ranked q.0 t (nat_cmp q.0 t) refl)
    where
      other : q.0 ≢ u → get (get_or (set ms u n) q.0 empty) q.1 ≡ get (joined_tables ms) q
      other ne = ap (λ x. get x q.1) (get_or-set_other ms u q.0 n empty ne) ∙ sym (get-joined ms q.0 q.1)

      here : q.0 ≡ t → get (get_or (set ms u n) q.0 empty) q.1 ≡ cond (eq_by_cmp key_cmp q.1 k) w (get (joined_tables ms) q)
      here e =
          let at : q.0 ≡ u = e ∙ sym same in
          let inside : u < length ms = subst (λ i. i < length ms) (sym same) within in
          ap (λ x. get x q.1) (get_or-set_at ms u q.0 n empty at inside)
          ∙ differs q.1
          ∙ ap (cond (eq_by_cmp key_cmp q.1 k) w) (sym (get-table q.1) ∙ ap (λ i. get (joined_tables ms) (i, q.1)) (sym e))

      go : (r : Ordering) → MatchOrdering r (q.0 < t) (q.0 ≡ t) (t < q.0) → get (get_or (set ms u n) q.0 empty) q.1 ≡ cond (is_eq (ordering_then r (key_cmp q.1 k))) w (get (joined_tables ms) q)
      go Less h = other (λ e. omega (arith, e, same, h))
      go Equal h = here h
      go Greater h = other (λ e. omega (arith, e, same, h))

  -- a row is put into its table
  pub joined_tables-put : (n : OneTable) (k : Key) (v : RowValues) → n ≡ insert m k v → joined_tables (set ms u n) ≡ insert (joined_tables ms) (t, k) v
  joined_tables-put n k v e = same_map cells_total cells_antisymmetric _ _ (λ q.
      changed k (Some v) n (λ j. ap (λ x. get x j) e ∙ get-insert keys_total m k v j) q ∙ sym (get-insert cells_total (joined_tables ms) (t, k) v q))

  -- a row is removed from its table
  pub joined_tables-remove : (n : OneTable) (k : Key) → n ≡ remove m k → joined_tables (set ms u n) ≡ remove (joined_tables ms) (t, k)
  joined_tables-remove n k e = same_map cells_total cells_antisymmetric _ _ (λ q.
      changed k None n (λ j. ap (λ x. get x j) e ∙ get-remove keys_total m k j) q ∙ sym (get-remove cells_total (joined_tables ms) (t, k) q))

-- where there is no table, there are no rows
pub joined_tables-none : joined_tables [] ≡ empty
joined_tables-none = empty_of_len (joined_tables []) (len-entries (joined_tables []) ∙ ap length (entries-from_sorted cell_cmp [] tt))

-- The same for tables of any form, each seen as the rows that it has.
module _ {A : Type 0} (rows : A → OneTable) (ts : List A) (u t : ℕ) (m : A) (same : u ≡ t) (within : t < length ts) (is : m ≡ get_or ts u m) where
  abbrev ms : List OneTable
  ms = map rows ts

  inside : t < length ms
  inside = subst (λ n. t < n) (sym (length-map ts rows)) within

  at_index : rows m ≡ get_or ms u (rows m)
  at_index = ap rows is ∙ sym (get_or-map rows ts u m)

  pub get-of : (k : Key) → get (joined_tables (map rows ts)) (t, k) ≡ get (rows m) k
  get-of = get-table ms u t (rows m) same inside at_index

  pub keys-of : keys_of (joined_tables (map rows ts)) t ≡ keys (rows m)
  keys-of = keys-table ms u t (rows m) same inside at_index

  pub insert-of : (n : A) (k : Key) (v : RowValues) → rows n ≡ insert (rows m) k v → joined_tables (map rows (set ts u n)) ≡ insert (joined_tables (map rows ts)) (t, k) v
  insert-of n k v e = ap joined_tables (map-set rows ts u n) ∙ joined_tables-put ms u t (rows m) same inside at_index (rows n) k v e

  pub remove-of : (n : A) (k : Key) → rows n ≡ remove (rows m) k → joined_tables (map rows (set ts u n)) ≡ remove (joined_tables (map rows ts)) (t, k)
  remove-of n k e = ap joined_tables (map-set rows ts u n) ∙ joined_tables-remove ms u t (rows m) same inside at_index (rows n) k e

  -- a table that stays what it was
  pub kept-of : (n : A) → rows n ≡ rows m → joined_tables (map rows (set ts u n)) ≡ joined_tables (map rows ts)
  kept-of n e = ap joined_tables (map-set_same rows ts u n m (e ∙ ap rows is))
