-- The list of a transaction's after-images: one for each of the cells that its operations write.
use Rattle.std.proofs.Common.{◌≡◌, ◌≤◌, ℕ, ◌+◌, ◌&&◌, ◌||◌, Bool, true, false, cond, T, List, [], ◌∷◌, ◌++◌, map, length, get_or, Option, Some, None, is_some, Result, Ok, Err, OnOk, refl, sym, ap, subst, ◌∙◌, length-append, arith}
use Rattle.std.specs.Prelude.{slice_get}
use Rattle.std.specs.Option.{option_map}
use Rattle.std.specs.Ordering.{eq_by_cmp, is_lt}
use Rattle.std.specs.List.{All}
use Rattle.std.specs.FinMap.{FinMap, get, contains_key, entries, keys, len, insert, empty, from_sorted, find, is_sorted, same_map, entries_sorted, get-entries, get-empty, get-insert, get-from_sorted, entries-from_sorted, len-entries, len-empty, len-insert}
use Rattle.std.specs.FinMap.Entries.{below_all}
use Rattle.std.proofs.lemmas.List.{length-map}
use Rattle.std.proofs.lemmas.List.Elements.{All-get_or, All-tail}
use Rattle.std.proofs.lemmas.Option.{slice_get_within, slice_get-get_or}
use Rattle.pac_value.specs.declared.values.Value.{Value}
use Rattle.pac_value.specs.declared.values.Value.TheVariants.{Int, Text, Bool as Truth}
use Rattle.pac_value.specs.Expressions.{value}
use Rattle.pac_value.specs.State.{Cell, cell_cmp, RowValues, Tables}
use Rattle.pac_value.proofs.CellLemmas.{cells_total, cells_antisymmetric}
use Rattle.pac_ops.specs.declared.limits.TheConstants.{MAX_OPS}
use Rattle.pac_ops.specs.declared.program.OpKind.{OpKind}
use Rattle.pac_ops.specs.declared.transaction.Change.{Change as AnImage}
use Rattle.pac_ops.specs.Operations.{State, define, done, touched, opening}
use Rattle.pac_ops.specs.Shapes.{ChangeFits, RecordsFit}
use Rattle.pac_ops.specs.Uses.{modifies}
use Rattle.pac_types.specs.declared.procedure.Proc.{Proc}
use Rattle.pac_types.specs.declared.table.Table.{Table}
use Rattle.pac_types.specs.Fits.{shape}
use Rattle.pac_types.specs.Meaning.{branch, runs, step_count, operations}
use Rattle.pac_types.specs.OperationLimits.{HasFewOperations}
use Rattle.pac_types.specs.Unrolled.{UnrolledSteps, End, Op, Branch, unrolled}
use Rattle.pac_types.proofs.UnrolledLemmas.{unrolled-count}
use Rattle.pac_serial.specs.declared.pending.Pending.{Pending}
use Rattle.pac_serial.specs.Writes.{is_among, if_well, cells_in, cells_put, cells_run, cells_called, cell_set, shown, image_in}
use Rattle.pac_serial.specs.WriteSets.{Change, Changes, as_changed, ChangesAt, image_left}
use Rattle.pac_serial.specs.Transactions.{RunsOver}
use Rattle.pac_serial.proofs.WriteSetLemmas.{row_or, get-seen}
use Rattle.pac_serial.proofs.CommitLemmas.{all_known}

-- ---- each cell once

pub set_has : (cells : List Cell) (q : Cell) → contains_key (cell_set cells) q ≡ is_among q cells
set_has [] q = ap is_some (get-empty cell_cmp q)
set_has (c ∷ cells) q = ap is_some (get-insert cells_total (cell_set cells) c tt q) ∙ go (eq_by_cmp cell_cmp q c) ∙ ap (λ (b : Bool). eq_by_cmp cell_cmp q c || b) (set_has cells q)
  where
    go : (b : Bool) → is_some (cond b (Some tt) (get (cell_set cells) q)) ≡ b || contains_key (cell_set cells) q
    go true = refl
    go false = refl

set_len : (cells : List Cell) → len (cell_set cells) ≤ length cells
set_len [] = omega (arith, len-empty cell_cmp (Unit {0}))
set_len (c ∷ cells) = go (contains_key (cell_set cells) c) (len-insert cells_total (cell_set cells) c tt) (set_len cells)
  where
    go : (b : Bool) → len (insert (cell_set cells) c tt) ≡ cond b (len (cell_set cells)) (len (cell_set cells) + 1) → len (cell_set cells) ≤ length cells → len (insert (cell_set cells) c tt) ≤ length (c ∷ cells)
    go true e few = omega (arith, e, few)
    go false e few = omega (arith, e, few)

-- ---- changes at the same cells

-- the cells alone
abbrev ones : List Change → List (Cell × Unit {0})
ones cs = map (λ c. (c.0, tt)) cs

cells-ones : (cs : List Change) → map (λ e. e.0) (ones cs) ≡ map (λ c. c.0) cs
cells-ones [] = refl
cells-ones (c ∷ cs) = ap (λ (es : List Cell). c.0 ∷ es) (cells-ones cs)

below-ones : (k : Cell) (cs : List Change) → below_all cell_cmp k (ones cs) ≡ below_all cell_cmp k cs
below-ones k [] = refl
below-ones k (c ∷ cs) = ap (λ b. is_lt (cell_cmp k c.0) && b) (below-ones k cs)

sorted-ones : (cs : List Change) → is_sorted cell_cmp (ones cs) ≡ is_sorted cell_cmp cs
sorted-ones [] = refl
sorted-ones (c ∷ cs) = λ i. below-ones c.0 cs i && sorted-ones cs i

found-ones : (q : Cell) (cs : List Change) → find cell_cmp q (ones cs) ≡ option_map (λ p. tt) (find cell_cmp q cs)
found-ones q [] = refl
found-ones q (c ∷ cs) = go (eq_by_cmp cell_cmp q c.0) (found-ones q cs)
  where
    go : (b : Bool) → find cell_cmp q (ones cs) ≡ option_map (λ p. tt) (find cell_cmp q cs) → cond b (Some tt) (find cell_cmp q (ones cs)) ≡ option_map (λ p. tt) (cond b (Some c.1) (find cell_cmp q cs))
    go true later = refl
    go false later = later

alike : (a : Option Pending) (b : Option (Unit {0})) → is_some a ≡ is_some b → option_map (λ p. tt) a ≡ b
alike None None e = refl
alike None (Some u) e = absurd cc
alike (Some p) None e = absurd cc
alike (Some p) (Some u) e = refl

module _ (changes : Changes) (cells : List Cell) (writes : ChangesAt cells empty changes) where
  sorted : T (is_sorted cell_cmp (ones (entries changes)))
  sorted = subst T (sym (sorted-ones (entries changes))) (entries_sorted changes)

  at-cells : (q : Cell) → contains_key changes q ≡ is_among q cells
  at-cells q = writes q ∙ ap (λ b. is_among q cells || b) (ap is_some (get-empty cell_cmp q)) ∙ go (is_among q cells)
    where
      go : (b : Bool) → (b || false) ≡ b
      go true = refl
      go false = refl

  same-set : from_sorted {R = cell_cmp} (ones (entries changes)) ≡ cell_set cells
  same-set = same_map cells_total cells_antisymmetric _ _ (λ q.
      get-from_sorted cell_cmp (ones (entries changes)) q sorted ∙ found-ones q (entries changes)
      ∙ alike (find cell_cmp q (entries changes)) (get (cell_set cells) q) (ap is_some (sym (get-entries changes q)) ∙ at-cells q ∙ sym (set_has cells q)))

  same-keys : keys changes ≡ keys (cell_set cells)
  same-keys = sym (cells-ones (entries changes)) ∙ ap (map (λ e. e.0)) (sym (entries-from_sorted cell_cmp (ones (entries changes)) sorted)) ∙ ap (λ (m : FinMap cell_cmp (Unit {0})). keys m) same-set

-- ---- what stands at them

images-shown : (after : Tables) (cs : List Change) → All (λ c. get after c.0 ≡ c.1.row) cs → map image_left cs ≡ map (image_in after) (map (λ c. c.0) cs)
images-shown after [] all = refl
images-shown after (c ∷ cs) all =
    let here : get after c.0 ≡ c.1.row = All-get_or (λ (d : Change). get after d.0 ≡ d.1.row) (c ∷ cs) 0 c (omega arith) all in
    let rest = images-shown after cs (All-tail (λ (d : Change). get after d.0 ≡ d.1.row) c cs all) in
    λ i. shown c.0 (sym here i) ∷ rest i

row-left : (held : Tables) (changes : Changes) (q : Cell) (pending : Pending) → find cell_cmp q (entries changes) ≡ Some pending → get (as_changed held changes) q ≡ pending.row
row-left held changes q pending found = get-seen held changes q ∙ ap (λ o. row_or o (get held q)) (get-entries changes q ∙ found)

-- the images of changes at these cells are those of what is seen there
pub listed : (held : Tables) (changes : Changes) (cells : List Cell) → ChangesAt cells empty changes → map image_left (entries changes) ≡ map (image_in (as_changed held changes)) (keys (cell_set cells))
listed held changes cells writes =
    images-shown (as_changed held changes) (entries changes) (all_known (λ c. get (as_changed held changes) c.0 ≡ c.1.row) (entries changes) (entries_sorted changes) (row-left held changes))
    ∙ ap (map (image_in (as_changed held changes))) (same-keys changes cells writes)

-- and no more than the cells
pub listed-few : (held : Tables) (changes : Changes) (cells : List Cell) → ChangesAt cells empty changes → length (map image_left (entries changes)) ≤ length cells
listed-few held changes cells writes =
    omega (
      arith,
      ap (λ (images : List AnImage). length images) (listed held changes cells writes),
      length-map (keys (cell_set cells)) (image_in (as_changed held changes)),
      length-map (entries (cell_set cells)) (λ (e : Cell × Unit {0}). e.0),
      len-entries (cell_set cells),
      set_len cells,
    )

-- they fit the tables
all-fit : (tables : List Table) (cs : List Change) → All (λ c. ChangeFits (map shape tables) (image_left c)) cs → RecordsFit (map shape tables) (map image_left cs)
all-fit tables [] all = tt
all-fit tables (c ∷ cs) all = (
  All-get_or (λ (d : Change). ChangeFits (map shape tables) (image_left d)) (c ∷ cs) 0 c (omega arith) all,
  all-fit tables cs (All-tail (λ (d : Change). ChangeFits (map shape tables) (image_left d)) c cs all),
)

pub listed-fit : (tables : List Table) (n : ℕ) (held : Tables) (changes : Changes) → RunsOver tables n held changes → RecordsFit (map shape tables) (map image_left (entries changes))
listed-fit tables n held changes over = all-fit tables (entries changes) (all_known (λ c. ChangeFits (map shape tables) (image_left c)) (entries changes) (entries_sorted changes) fits)
  where
    fits : (q : Cell) (pending : Pending) → find cell_cmp q (entries changes) ≡ Some pending → ChangeFits (map shape tables) (image_left (q, pending))
    fits q pending found = go pending.row refl
      where
        go : (row : Option RowValues) → pending.row ≡ row → ChangeFits (map shape tables) (shown q row)
        go None e = over.keys q (ap is_some (get-entries changes q ∙ found))
        go (Some row) e = over.fits q row (row-left held changes q pending found ∙ e)

pub always : {A E P : Type 0} (r : Result A E) → P → OnOk r P
always (Ok x) h = h
always (Err e) h = tt

-- ---- how many cells

few-if : {A E : Type 0} (f : A → List Cell) (r : Result A E) (n : ℕ) → ((x : A) → length (f x) ≤ n) → length (if_well f r) ≤ n
few-if f (Ok x) n h = h x
few-if f (Err e) n h = omega arith

few-in : (o : Option Cell) → length (cells_in o) ≤ 1
few-in None = omega arith
few-in (Some cell) = omega arith

few-put : (kind : OpKind) (s : State) → length (cells_put kind s) ≤ 1
few-put kind s = go (modifies kind)
  where
    go : (b : Bool) → length (cond b (if_well cells_in (touched kind s.env)) []) ≤ 1
    go true = few-if cells_in (touched kind s.env) 1 few-in
    go false = omega arith

few-branch : (v : Value) (first second : List Cell) (n m : ℕ) → length first ≤ n → length second ≤ m → length (branch v first second) ≤ n + m
few-branch (Truth true) first second n m a b = omega (arith, a)
few-branch (Truth false) first second n m a b = omega (arith, b)
few-branch (Int z) first second n m a b = omega (arith, b)
few-branch (Text t) first second n m a b = omega (arith, b)

few-steps : (steps : UnrolledSteps) (n : ℕ) (s : State) → length (cells_run steps n s) ≤ step_count steps
few-steps End n s = omega arith
few-steps (Op kind rest) n s = few-if (λ t. cells_put kind s ++ cells_run rest (n + 1) t) (done kind s) (1 + step_count rest)
    (λ t. omega (arith, length-append (cells_put kind s) (cells_run rest (n + 1) t), few-put kind s, few-steps rest (n + 1) t))
few-steps (Branch x e first second rest) n s =
    let one = n + 1 in
    let two = n + 1 + step_count first in
    let three = n + 1 + step_count first + step_count second in
    few-if (λ v. if_well (λ t. branch v (cells_run first one (define x v s)) (cells_run second two (define x v s)) ++ cells_run rest three t) (branch v (runs first one) (runs second two) (define x v s))) (value e s.env) (1 + (step_count first + step_count second) + step_count rest)
    (λ v. few-if (λ t. branch v (cells_run first one (define x v s)) (cells_run second two (define x v s)) ++ cells_run rest three t) (branch v (runs first one) (runs second two) (define x v s)) (1 + (step_count first + step_count second) + step_count rest)
    (λ t. omega (
      arith,
      length-append (branch v (cells_run first one (define x v s)) (cells_run second two (define x v s))) (cells_run rest three t),
      few-branch v (cells_run first one (define x v s)) (cells_run second two (define x v s)) (step_count first) (step_count second) (few-steps first one (define x v s)) (few-steps second two (define x v s)),
      few-steps rest three t,
    )))

-- a call writes no more cells than it has operations
pub few-called : (procs : List Proc) (n : ℕ) (args : List Value) (tables : Tables) → HasFewOperations procs → length (cells_called (slice_get procs n) args tables) ≤ MAX_OPS
few-called procs n args tables few = go (slice_get procs n) refl
  where
    go : (o : Option Proc) → slice_get procs n ≡ o → length (cells_called o args tables) ≤ MAX_OPS
    go None e = omega arith
    go (Some proc) e =
        let within = slice_get_within procs n proc e in
        let same : get_or procs n proc ≡ proc = let both : Some (get_or procs n proc) ≡ Some proc = sym (slice_get-get_or procs n proc within) ∙ e in cc in
        omega (arith, few-steps (unrolled proc) 0 (opening args tables), unrolled-count proc, few.each n proc within, ap (λ (p : Proc). operations p.body) same)
