-- How many rows a table has once changes are made: as many as before, with those that are added, without those that are
-- taken away.
use Rattle.std.proofs.Common.{◌≡◌, ℕ, ◌+◌, ◌≤◌, ◌==◌, ◌&&◌, Bool, true, false, not, cond, T, List, [], ◌∷◌, ◌++◌, map, length, Option, Some, None, is_some, refl, sym, ap, ◌∙◌, arith}
use Rattle.std.specs.Prelude.{filter}
use Rattle.std.specs.declared.cmp.Ordering.{Ordering}
use Rattle.std.specs.declared.cmp.Ordering.TheVariants.{Less, Equal, Greater}
use Rattle.std.specs.Ordering.{is_lt, is_eq, eq_by_cmp}
use Rattle.std.specs.FinMap.{get, find, entries, entries_sorted, is_sorted, insert, remove, len, get-insert, get-remove, entries-insert, len-entries, len-insert, same_map}
use Rattle.std.specs.FinMap.Entries.{put, by_order, below_all}
use Rattle.pac_value.specs.State.{Cell, cell_cmp, RowValues, Tables, with_row, keys_among, keys_of}
use Rattle.pac_value.proofs.CellLemmas.{cells_total, cells_antisymmetric, tied_same, same-cell}
use Rattle.pac_tables.proofs.WriteLemmas.{remove-absent}
use Rattle.pac_serial.specs.declared.pending.Pending.{Pending}
use Rattle.pac_serial.specs.WriteSets.{Change, Changes, laid, as_changed, gains, loses, gained, lost}
use Rattle.pac_serial.proofs.WriteSetLemmas.{row_or, get-laid}

module _ (x : ℕ) where
  -- how many entries are of the table
  among : List (Cell × RowValues) → ℕ
  among es = length (keys_among (map (λ e. e.0) es) x)

  one_if : Bool → ℕ
  one_if b = cond b 1 0

  among-cons : (e : Cell × RowValues) (es : List (Cell × RowValues)) → among (e ∷ es) ≡ one_if (e.0.0 == x) + among es
  unfolding among one_if
  among-cons e es = go (e.0.0 == x)
    where
      go : (b : Bool) → length (map (λ (cell : Cell). cell.1) (cond b (e.0 ∷ filter (λ cell. cell.0 == x) (map (λ e. e.0) es)) (filter (λ cell. cell.0 == x) (map (λ e. e.0) es)))) ≡ cond b 1 0 + length (map (λ (cell : Cell). cell.1) (filter (λ cell. cell.0 == x) (map (λ e. e.0) es)))
      go true = omega arith
      go false = omega arith

  -- an entry that is put is one more of its table where it is one more at all
  put-count : (k : Cell) (v : RowValues) (b : Bool) → (k.0 == x) ≡ b → (es : List (Cell × RowValues)) → among (put cell_cmp k v es) + cond b (length es) 0 ≡ among es + cond b (length (put cell_cmp k v es)) 0
  unfolding one_if
  put-count k v true is [] = omega (arith, among-cons (k, v) [], ap one_if is)
  put-count k v false is [] = omega (arith, among-cons (k, v) [], ap one_if is)
  put-count k v b is (e ∷ es) = go b is (cell_cmp k e.0) (put-count k v b is es)
    where
      go : (b : Bool) → (k.0 == x) ≡ b → (r : Ordering) → among (put cell_cmp k v es) + cond b (length es) 0 ≡ among es + cond b (length (put cell_cmp k v es)) 0
          → among (by_order r ((k, v) ∷ e ∷ es) ((e.0, v) ∷ es) (e ∷ put cell_cmp k v es)) + cond b (length (e ∷ es)) 0 ≡ among (e ∷ es) + cond b (length (by_order r ((k, v) ∷ e ∷ es) ((e.0, v) ∷ es) (e ∷ put cell_cmp k v es))) 0
      go true is Less rest = omega (arith, among-cons (k, v) (e ∷ es), ap one_if is)
      go false is Less rest = omega (arith, among-cons (k, v) (e ∷ es), ap one_if is)
      go true is Equal rest = omega (arith, among-cons (e.0, v) es, among-cons e es)
      go false is Equal rest = omega (arith, among-cons (e.0, v) es, among-cons e es)
      go true is Greater rest = omega (arith, among-cons e (put cell_cmp k v es), among-cons e es, rest)
      go false is Greater rest = omega (arith, among-cons e (put cell_cmp k v es), among-cons e es, rest)

  insert-count : (m : Tables) (k : Cell) (v : RowValues) (b : Bool) → (k.0 == x) ≡ b → length (keys_of (insert m k v) x) + cond b (len m) 0 ≡ length (keys_of m x) + cond b (len (insert m k v)) 0
  unfolding among
  insert-count m k v b is =
      ap (λ n. length (keys_of (insert m k v) x) + cond b n 0) (len-entries m)
      ∙ ap (λ es. length (keys_among (map (λ (e : Cell × RowValues). e.0) es) x) + cond b (length (entries m)) 0) (entries-insert cells_total m k v)
      ∙ put-count k v b is (entries m)
      ∙ ap (λ es. length (keys_of m x) + cond b (length es) 0) (sym (entries-insert cells_total m k v))
      ∙ ap (λ n. length (keys_of m x) + cond b n 0) (sym (len-entries (insert m k v)))

  -- a row that is put is one more where none stood
  insert-adds : (m : Tables) (k : Cell) (v : RowValues) (b stands : Bool) → (k.0 == x) ≡ b → stands ≡ is_some (get m k) → length (keys_of (insert m k v) x) ≡ length (keys_of m x) + cond (b && not stands) 1 0
  insert-adds m k v true true is e = let n = ap (λ c. cond c (len m) (len m + 1)) (sym e) in omega (arith, insert-count m k v true is, len-insert cells_total m k v, n)
  insert-adds m k v true false is e = let n = ap (λ c. cond c (len m) (len m + 1)) (sym e) in omega (arith, insert-count m k v true is, len-insert cells_total m k v, n)
  insert-adds m k v false stands is e = omega (arith, insert-count m k v false is)

  -- what is taken away and put again is as before
  put-again : (m : Tables) (k : Cell) (v : RowValues) → get m k ≡ Some v → insert (remove m k) k v ≡ m
  put-again m k v found = same_map cells_total cells_antisymmetric _ _ (λ q.
      get-insert cells_total (remove m k) k v q
      ∙ ap (cond (eq_by_cmp cell_cmp q k) (Some v)) (get-remove cells_total m k q)
      ∙ go q (eq_by_cmp cell_cmp q k) refl)
    where
      go : (q : Cell) (b : Bool) → eq_by_cmp cell_cmp q k ≡ b → cond b (Some v) (cond b None (get m q)) ≡ get m q
      go q true e = sym found ∙ ap (get m) (sym (tied_same q k e))
      go q false e = refl

  removed-is : (m : Tables) (k : Cell) → get (remove m k) k ≡ None
  removed-is m k = get-remove cells_total m k k ∙ ap (λ b. cond b None (get m k)) (same-cell k)

  -- a row that is taken away is one less where one stood
  remove-takes : (m : Tables) (k : Cell) (b stands : Bool) → (k.0 == x) ≡ b → stands ≡ is_some (get m k) → length (keys_of (remove m k) x) + cond (b && stands) 1 0 ≡ length (keys_of m x)
  remove-takes m k b stands is e = go (get m k) refl stands e
    where
      none : (b : Bool) → length (keys_of (remove m k) x) ≡ length (keys_of m x) → length (keys_of (remove m k) x) + cond (b && false) 1 0 ≡ length (keys_of m x)
      none true h = omega (arith, h)
      none false h = omega (arith, h)

      some : (v : RowValues) (b : Bool) → length (keys_of (insert (remove m k) k v) x) ≡ length (keys_of (remove m k) x) + cond (b && true) 1 0 → insert (remove m k) k v ≡ m → length (keys_of (remove m k) x) + cond (b && true) 1 0 ≡ length (keys_of m x)
      some v b adds same = sym adds ∙ ap (λ t. length (keys_of t x)) same

      go : (o : Option RowValues) → get m k ≡ o → (stands : Bool) → stands ≡ is_some o → length (keys_of (remove m k) x) + cond (b && stands) 1 0 ≡ length (keys_of m x)
      go None at true e = absurd cc
      go None at false e = none b (ap (λ t. length (keys_of t x)) (remove-absent m k at))
      go (Some v) at false e = absurd cc
      go (Some v) at true e = some v b (insert-adds (remove m k) k v b false is (sym (ap is_some (removed-is m k)))) (put-again m k v at)

  -- one change
  change-count : (m : Tables) (k : Cell) (row : Option RowValues) (b stands : Bool) → (k.0 == x) ≡ b → stands ≡ is_some (get m k)
      → length (keys_of (with_row m k row) x) + cond (b && (not (is_some row) && stands)) 1 0 ≡ length (keys_of m x) + cond (b && (is_some row && not stands)) 1 0
  change-count m k None b stands is e = omega (arith, remove-takes m k b stands is e, never b)
    where
      never : (b : Bool) → ◌≡◌ {A = ℕ} (cond (b && false) 1 0) 0
      never true = refl
      never false = refl
  change-count m k (Some row) b stands is e = omega (arith, insert-adds m k row b stands is e, never b)
    where
      never : (b : Bool) → ◌≡◌ {A = ℕ} (cond (b && false) 1 0) 0
      never true = refl
      never false = refl

first : (a b : Bool) → T (a && b) → T a
first true b p = tt
first false b p = p

second : (a b : Bool) → T (a && b) → T b
second true b p = p
second false b p = absurd p

less_no_tie : (r : Ordering) → T (is_lt r) → is_eq r ≡ false
less_no_tie Less p = refl
less_no_tie Equal p = absurd p
less_no_tie Greater p = absurd p

-- a cell before all others is at none of them
below-none : (k : Cell) (cs : List Change) → T (below_all cell_cmp k cs) → find cell_cmp k cs ≡ None
below-none k [] h = refl
below-none k (c ∷ cs) h =
    ap (λ b. cond b (Some c.1) (find cell_cmp k cs)) (less_no_tie (cell_cmp k c.0) (first _ _ h)) ∙ below-none k cs (second _ _ h)

-- a change at the start is the one at its cell, and those after it stay where they are
module _ (c : Change) (cs : List Change) where
  pub find-first : find cell_cmp c.0 (c ∷ cs) ≡ Some c.1
  find-first = ap (λ b. cond b (Some c.1) (find cell_cmp c.0 cs)) (same-cell c.0)

  module _ (sorted : T (is_sorted cell_cmp (c ∷ cs))) where
    pub sorted-after : T (is_sorted cell_cmp cs)
    sorted-after = second _ _ sorted

    pub none-after : find cell_cmp c.0 cs ≡ None
    none-after = below-none c.0 cs (first _ _ sorted)

    pub find-after : (q : Cell) (pending : Pending) → find cell_cmp q cs ≡ Some pending → find cell_cmp q (c ∷ cs) ≡ Some pending
    find-after q pending found = ap (λ b. cond b (Some c.1) (find cell_cmp q cs)) (other (eq_by_cmp cell_cmp q c.0) refl) ∙ found
      where
        other : (b : Bool) → eq_by_cmp cell_cmp q c.0 ≡ b → eq_by_cmp cell_cmp q c.0 ≡ false
        other true e =
            let none : ◌≡◌ {A = Option Pending} None (Some pending) = sym none-after ∙ ap (λ p. find cell_cmp p cs) (sym (tied_same q c.0 e)) ∙ found in
            let no_way : ⊥ = cc in
            absurd no_way
        other false e = e

-- all changes
balanced : (x : ℕ) (t : Tables) (cs : List Change) → T (is_sorted cell_cmp cs) → length (keys_of (laid t cs) x) + lost t x cs ≡ length (keys_of t x) + gained t x cs
balanced x t [] sorted = refl
balanced x t (c ∷ cs) sorted =
    let still : is_some (get t c.0) ≡ is_some (get (laid t cs) c.0) = sym (ap is_some (get-laid t cs c.0 ∙ ap (λ (o : Option Pending). row_or o (get t c.0)) (none-after c cs sorted))) in
    omega (arith, change-count x (laid t cs) c.0 c.1.row (c.0.0 == x) (is_some (get t c.0)) refl still, balanced x t cs (sorted-after c cs sorted))

-- a table's rows as a transaction sees them
pub seen-count : (x : ℕ) (t : Tables) (cs : Changes) → length (keys_of (as_changed t cs) x) + lost t x (entries cs) ≡ length (keys_of t x) + gained t x (entries cs)
seen-count x t cs = balanced x t (entries cs) (entries_sorted cs)

-- no more are added than there are changes
pub gained-few : (t : Tables) (x : ℕ) (cs : List Change) → gained t x cs ≤ length cs
gained-few t x [] = omega arith
gained-few t x (c ∷ cs) = omega (arith, one (c.0.0 == x && (is_some c.1.row && not (is_some (get t c.0)))), gained-few t x cs)
  where
    one : (b : Bool) → cond b 1 0 ≤ 1
    one true = omega arith
    one false = omega arith

-- one change more
pub gained-more : (t : Tables) (x : ℕ) (cs : List Change) (c : Change) → gained t x (cs ++ c ∷ []) ≡ gained t x cs + gains t x c
gained-more t x [] c = omega arith
gained-more t x (d ∷ cs) c = omega (arith, gained-more t x cs c)

pub lost-more : (t : Tables) (x : ℕ) (cs : List Change) (c : Change) → lost t x (cs ++ c ∷ []) ≡ lost t x cs + loses t x c
lost-more t x [] c = omega arith
lost-more t x (d ∷ cs) c = omega (arith, lost-more t x cs c)
