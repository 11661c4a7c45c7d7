-- Changes that are made in two parts leave what they leave at once, and what is brought back was never replaced.
use Rattle.std.proofs.Common.{◌≡◌, ◌<◌, ℕ, zero, suc, Bool, true, false, cond, T, List, [], ◌∷◌, ◌++◌, map, take, drop, length, get_or, set, Option, Some, None, is_some, IsSome, refl, sym, ap, subst, ◌∙◌, ◌&&◌, ◌≤◌, arith}
use Rattle.std.specs.List.{All}
use Rattle.std.proofs.lemmas.List.Elements.{All-nil, All-cons, All-tail, All-get_or, All-from_get_or}
use Rattle.std.specs.Option.{option_map}
use Rattle.std.specs.Ordering.{eq_by_cmp, is_lt, is_eq}
use Rattle.std.specs.FinMap.{get, find, is_sorted, remove, get-insert, get-remove, same_map}
use Rattle.std.specs.FinMap.Entries.{below_all}
use Rattle.pac_value.specs.State.{Cell, cell_cmp, RowValues, Tables, with_row}
use Rattle.pac_value.proofs.CellLemmas.{cells_total, cells_antisymmetric, tied_same, get-with_row}
use Rattle.pac_serial.specs.declared.pending.Pending.{Pending}
use Rattle.pac_serial.specs.WriteSets.{Change, laid, AreAllUnmade}
use Rattle.pac_serial.specs.Commits.{cells, AreIn, AreThere, IsThere, with_new_row, with_put, kept_row, with_kept, exchanged, with_puts, with_deletes, with_restored, restored}
use Rattle.pac_serial.proofs.WriteSetLemmas.{row_or, get-laid}
use Rattle.pac_value.proofs.OffsetLemmas.{below_at, flipped-Less}
use Rattle.pac_serial.proofs.BalanceLemmas.{find-first, find-after, none-after, sorted-after}

-- a row that is put at a cell, or what stood there
abbrev new_or : Option RowValues → Option RowValues → Option RowValues
new_or None row = row
new_or (Some new) row = Some new

-- what stands at a cell with this change, or none, once rows are put
abbrev after_puts : Option Pending → Option RowValues → Option RowValues
after_puts None row = row
after_puts (Some pending) row = new_or pending.row row

-- once rows are deleted
abbrev after_deletes : Option Pending → Option RowValues → Option RowValues
after_deletes None row = row
after_deletes (Some pending) row = cond pending.puts row None

-- once what was kept is brought back
abbrev after_restored : Option Pending → Option RowValues → Option RowValues
after_restored None row = row
after_restored (Some pending) row = cond pending.puts pending.row row

get-with_put : (t : Tables) (c : Change) (q : Cell) → get (with_put t c) q ≡ cond (eq_by_cmp cell_cmp q c.0) (after_puts (Some c.1) (get t q)) (get t q)
get-with_put t c q = go c.1.row (eq_by_cmp cell_cmp q c.0) refl
  where
    go : (row : Option RowValues) (b : Bool) → eq_by_cmp cell_cmp q c.0 ≡ b → get (with_new_row t c.0 row) q ≡ cond b (new_or row (get t q)) (get t q)
    go None true e = refl
    go None false e = refl
    go (Some row) b e = get-insert cells_total t c.0 row q ∙ ap (λ x. cond x (Some row) (get t q)) e

get-without : (t : Tables) (c : Change) (q : Cell) → get (cond c.1.puts t (remove t c.0)) q ≡ cond (eq_by_cmp cell_cmp q c.0) (after_deletes (Some c.1) (get t q)) (get t q)
get-without t c q = go c.1.puts (eq_by_cmp cell_cmp q c.0) (get-remove cells_total t c.0 q)
  where
    go : (s b : Bool) → get (remove t c.0) q ≡ cond b None (get t q) → get (cond s t (remove t c.0)) q ≡ cond b (cond s (get t q) None) (get t q)
    go true true h = refl
    go true false h = refl
    go false b h = h

get-with_restored : (t : Tables) (c : Change) (q : Cell) → get (with_restored t c) q ≡ cond (eq_by_cmp cell_cmp q c.0) (after_restored (Some c.1) (get t q)) (get t q)
get-with_restored t c q = go c.1.puts (eq_by_cmp cell_cmp q c.0) (get-with_row t c.0 c.1.row q)
  where
    go : (s b : Bool) → get (with_row t c.0 c.1.row) q ≡ cond b c.1.row (get t q) → get (cond s (with_row t c.0 c.1.row) t) q ≡ cond b (cond s c.1.row (get t q)) (get t q)
    go false true h = refl
    go false false h = refl
    go true b h = h

-- Steps that change one cell each, made one after another at cells of their own, change each cell once.
module _ (after : Option Pending → Option RowValues → Option RowValues) (nothing : (row : Option RowValues) → after None row ≡ row)
    (step : Tables → Change → Tables) (steps : Tables → List Change → Tables)
    (ends : (t : Tables) → steps t [] ≡ t) (goes_on : (t : Tables) (c : Change) (cs : List Change) → steps t (c ∷ cs) ≡ steps (step t c) cs)
    (at_step : (t : Tables) (c : Change) (q : Cell) → get (step t c) q ≡ cond (eq_by_cmp cell_cmp q c.0) (after (Some c.1) (get t q)) (get t q)) where
  each_once : (t : Tables) (cs : List Change) (q : Cell) → T (is_sorted cell_cmp cs) → get (steps t cs) q ≡ after (find cell_cmp q cs) (get t q)
  each_once t [] q sorted = ap (λ m. get m q) (ends t) ∙ sym (nothing (get t q))
  each_once t (c ∷ cs) q sorted =
      ap (λ m. get m q) (goes_on t c cs) ∙ each_once (step t c) cs q (sorted-after c cs sorted)
      ∙ ap (after (find cell_cmp q cs)) (at_step t c q) ∙ go (eq_by_cmp cell_cmp q c.0) refl
    where
      go : (b : Bool) → eq_by_cmp cell_cmp q c.0 ≡ b → after (find cell_cmp q cs) (cond b (after (Some c.1) (get t q)) (get t q)) ≡ after (cond b (Some c.1) (find cell_cmp q cs)) (get t q)
      go true e =
          ap (λ p. after p (after (Some c.1) (get t q))) (ap (λ p. find cell_cmp p cs) (tied_same q c.0 e) ∙ none-after c cs sorted)
          ∙ nothing (after (Some c.1) (get t q))
      go false e = refl

pub get-with_puts : (t : Tables) (cs : List Change) (q : Cell) → T (is_sorted cell_cmp cs) → get (with_puts t cs) q ≡ after_puts (find cell_cmp q cs) (get t q)
get-with_puts = each_once after_puts (λ row. refl) with_put with_puts (λ t. refl) (λ t c cs. refl) get-with_put

get-with_deletes : (t : Tables) (cs : List Change) (q : Cell) → T (is_sorted cell_cmp cs) → get (with_deletes t cs) q ≡ after_deletes (find cell_cmp q cs) (get t q)
get-with_deletes = each_once after_deletes (λ row. refl) (λ t c. cond c.1.puts t (remove t c.0)) with_deletes (λ t. refl) (λ t c cs. refl) get-without

get-restored : (t : Tables) (cs : List Change) (q : Cell) → T (is_sorted cell_cmp cs) → get (restored t cs) q ≡ after_restored (find cell_cmp q cs) (get t q)
get-restored = each_once after_restored (λ row. refl) with_restored restored (λ t. refl) (λ t c cs. refl) get-with_restored

-- both parts together leave what the changes leave
pub both-parts : (n : ℕ) (t : Tables) (cs : List Change) → T (is_sorted cell_cmp cs) → AreAllUnmade n cs → with_deletes (with_puts t cs) cs ≡ laid t cs
both-parts n t cs sorted unmade = same_map cells_total cells_antisymmetric _ _ (λ q.
    get-with_deletes (with_puts t cs) cs q sorted ∙ ap (after_deletes (find cell_cmp q cs)) (get-with_puts t cs q sorted)
    ∙ go q (find cell_cmp q cs) refl ∙ sym (get-laid t cs q))
  where
    here : (puts : Bool) (row old : Option RowValues) → puts ≡ is_some row → cond puts (new_or row old) None ≡ row
    here true None old e = absurd (cc)
    here true (Some row) old e = refl
    here false None old e = refl
    here false (Some row) old e = absurd (cc)

    go : (q : Cell) (o : Option Pending) → find cell_cmp q cs ≡ o → after_deletes o (after_puts o (get t q)) ≡ row_or o (get t q)
    go q None e = refl
    go q (Some pending) e = here pending.puts pending.row (get t q) (unmade q pending e).1

-- ---- changes that keep what their rows replaced

pub deletes-exchanged : (t m : Tables) (cs : List Change) → with_deletes m (map (exchanged t) cs) ≡ with_deletes m cs
deletes-exchanged t m [] = refl
deletes-exchanged t m (c ∷ cs) = deletes-exchanged t (cond c.1.puts m (remove m c.0)) cs

pub cells-exchanged : (t : Tables) (cs : List Change) → cells (map (exchanged t) cs) ≡ cells cs
cells-exchanged t [] = refl
cells-exchanged t (c ∷ cs) = ap (λ ps. c.0 ∷ ps) (cells-exchanged t cs)

find-exchanged : (t : Tables) (cs : List Change) (q : Cell) → find cell_cmp q (map (exchanged t) cs) ≡ option_map (with_kept (get t q)) (find cell_cmp q cs)
find-exchanged t [] q = refl
find-exchanged t (c ∷ cs) q = go (eq_by_cmp cell_cmp q c.0) refl (find-exchanged t cs q)
  where
    go : (b : Bool) → eq_by_cmp cell_cmp q c.0 ≡ b → find cell_cmp q (map (exchanged t) cs) ≡ option_map (with_kept (get t q)) (find cell_cmp q cs) → cond b (Some (with_kept (get t c.0) c.1)) (find cell_cmp q (map (exchanged t) cs)) ≡ option_map (with_kept (get t q)) (cond b (Some c.1) (find cell_cmp q cs))
    go true e h = ap (λ z. Some (with_kept (get t z) c.1)) (sym (tied_same q c.0 e))
    go false e h = h

-- ---- the order is that of the cells

below_cells : (k : Cell) (cs ds : List Change) → cells cs ≡ cells ds → below_all cell_cmp k cs ≡ below_all cell_cmp k ds
below_cells k [] [] e = refl
below_cells k [] (d ∷ ds) e = absurd (cc)
below_cells k (c ∷ cs) [] e = absurd (cc)
below_cells k (c ∷ cs) (d ∷ ds) e =
    let here : c.0 ≡ d.0 = cc in
    let rest : cells cs ≡ cells ds = cc in
    ap (λ x. is_lt (cell_cmp k x) && below_all cell_cmp k cs) here ∙ ap (λ b. is_lt (cell_cmp k d.0) && b) (below_cells k cs ds rest)

pub sorted-cells : (cs ds : List Change) → cells cs ≡ cells ds → is_sorted cell_cmp cs ≡ is_sorted cell_cmp ds
sorted-cells [] [] e = refl
sorted-cells [] (d ∷ ds) e = absurd (cc)
sorted-cells (c ∷ cs) [] e = absurd (cc)
sorted-cells (c ∷ cs) (d ∷ ds) e =
    let here : c.0 ≡ d.0 = cc in
    let rest : cells cs ≡ cells ds = cc in
    ap (λ b. b && is_sorted cell_cmp cs) (below_cells c.0 cs ds rest ∙ ap (λ x. below_all cell_cmp x ds) here) ∙ ap (λ b. below_all cell_cmp d.0 ds && b) (sorted-cells cs ds rest)

pub exchanged_sorted : (t : Tables) (cs : List Change) → T (is_sorted cell_cmp cs) → T (is_sorted cell_cmp (map (exchanged t) cs))
exchanged_sorted t cs sorted = subst T (sym (sorted-cells (map (exchanged t) cs) cs (cells-exchanged t cs))) sorted

-- what is put and brought back leaves the tables as they were
pub brought-back : (n : ℕ) (t : Tables) (cs : List Change) → T (is_sorted cell_cmp cs) → AreAllUnmade n cs → restored (with_puts t cs) (map (exchanged t) cs) ≡ t
brought-back n t cs sorted unmade = same_map cells_total cells_antisymmetric _ _ (λ q.
    get-restored (with_puts t cs) (map (exchanged t) cs) q (exchanged_sorted t cs sorted)
    ∙ (λ i. after_restored (find-exchanged t cs q i) (get-with_puts t cs q sorted i)) ∙ go q (find cell_cmp q cs) refl)
  where
    here : (puts : Bool) (row old : Option RowValues) → puts ≡ is_some row → cond puts (kept_row row old) (new_or row old) ≡ old
    here true None old e = absurd (cc)
    here true (Some row) old e = refl
    here false None old e = refl
    here false (Some row) old e = absurd (cc)

    go : (q : Cell) (o : Option Pending) → find cell_cmp q cs ≡ o → after_restored (option_map (with_kept (get t q)) o) (after_puts o (get t q)) ≡ get t q
    go q None e = refl
    go q (Some pending) e = here pending.puts pending.row (get t q) (unmade q pending e).1

-- ---- what is so of each change

pub all_known : (P : Change → Type 0) (cs : List Change) → T (is_sorted cell_cmp cs) → ((q : Cell) (pending : Pending) → find cell_cmp q cs ≡ Some pending → P (q, pending)) → All P cs
all_known P [] sorted known = All-nil P
all_known P (c ∷ cs) sorted known =
    All-cons P c cs (known c.0 c.1 (find-first c cs)) (all_known P cs (sorted-after c cs sorted) (λ q pending found. known q pending (find-after c cs sorted q pending found)))

pub are_in : (n : ℕ) (cs : List Change) → T (is_sorted cell_cmp cs) → AreAllUnmade n cs → AreIn n cs
are_in n cs sorted unmade = all_known (λ c. c.0.0 < n) cs sorted (λ q pending found. (unmade q pending found).0)

in-exchanged : (n : ℕ) (t : Tables) (cs : List Change) → AreIn n cs → AreIn n (map (exchanged t) cs)
in-exchanged n t [] h = All-nil (λ (c : Change). c.0.0 < n)
in-exchanged n t (c ∷ cs) h =
    All-cons (λ (c : Change). c.0.0 < n) (exchanged t c) (map (exchanged t) cs) (All-get_or (λ (c : Change). c.0.0 < n) (c ∷ cs) 0 c (omega arith) h) (in-exchanged n t cs (All-tail (λ (c : Change). c.0.0 < n) c cs h))

there-exchanged : (t m : Tables) (cs : List Change) → AreThere m cs → AreThere m (map (exchanged t) cs)
there-exchanged t m [] h = All-nil (IsThere m)
there-exchanged t m (c ∷ cs) h = All-cons (IsThere m) (exchanged t c) (map (exchanged t) cs) (All-get_or (IsThere m) (c ∷ cs) 0 c (omega arith) h) (there-exchanged t m cs (All-tail (IsThere m) c cs h))

pub exchanged_in : (n : ℕ) (t : Tables) (cs : List Change) → T (is_sorted cell_cmp cs) → AreAllUnmade n cs → AreIn n (map (exchanged t) cs)
exchanged_in n t cs sorted unmade = in-exchanged n t cs (are_in n cs sorted unmade)

-- where a row was put, one stands
pub exchanged_there : (n : ℕ) (t : Tables) (cs : List Change) → T (is_sorted cell_cmp cs) → AreAllUnmade n cs → AreThere (with_puts t cs) (map (exchanged t) cs)
exchanged_there n t cs sorted unmade = there-exchanged t (with_puts t cs) cs (all_known (IsThere (with_puts t cs)) cs sorted (λ q pending found puts.
    let now : get (with_puts t cs) q ≡ new_or pending.row (get t q) = get-with_puts t cs q sorted ∙ ap (λ o. after_puts o (get t q)) found in
    subst IsSome (sym now) (here pending.row (get t q) (sym (unmade q pending found).1 ∙ puts))))
  where
    here : (row old : Option RowValues) → is_some row ≡ true → IsSome (new_or row old)
    here None old e = absurd (cc)
    here (Some row) old e = refl

-- ---- the first of several changes

pub find-take : (n : ℕ) (cs : List Change) (q : Cell) (pending : Pending) → find cell_cmp q (take n cs) ≡ Some pending → find cell_cmp q cs ≡ Some pending
find-take zero cs q pending found = absurd (cc)
find-take (suc n) [] q pending found = found
find-take (suc n) (c ∷ cs) q pending found = go (eq_by_cmp cell_cmp q c.0) (find-take n cs q pending) found
  where
    go : (b : Bool) → (find cell_cmp q (take n cs) ≡ Some pending → find cell_cmp q cs ≡ Some pending) → cond b (Some c.1) (find cell_cmp q (take n cs)) ≡ Some pending → cond b (Some c.1) (find cell_cmp q cs) ≡ Some pending
    go true following h = h
    go false following h = following h

first : (a b : Bool) → T (a && b) → T a
first true b p = tt
first false b p = p

second : (a b : Bool) → T (a && b) → T b
second true b p = p
second false b p = absurd p

both : (a b : Bool) → T a → T b → T (a && b)
both true b p q = q
both false b p q = p

below_take : (k : Cell) (n : ℕ) (cs : List Change) → T (below_all cell_cmp k cs) → T (below_all cell_cmp k (take n cs))
below_take k zero cs h = tt
below_take k (suc n) [] h = tt
below_take k (suc n) (c ∷ cs) h = both _ _ (first _ _ h) (below_take k n cs (second _ _ h))

pub sorted-take : (n : ℕ) (cs : List Change) → T (is_sorted cell_cmp cs) → T (is_sorted cell_cmp (take n cs))
sorted-take zero cs h = tt
sorted-take (suc n) [] h = tt
sorted-take (suc n) (c ∷ cs) h = both _ _ (below_take c.0 n cs (first _ _ h)) (sorted-take n cs (second _ _ h))

-- ---- one change more

pub with_puts-more : (t : Tables) (cs : List Change) (c : Change) → with_puts t (cs ++ c ∷ []) ≡ with_put (with_puts t cs) c
with_puts-more t [] c = refl
with_puts-more t (d ∷ cs) c = with_puts-more (with_put t d) cs c

pub sorted-drop : (n : ℕ) (cs : List Change) → T (is_sorted cell_cmp cs) → T (is_sorted cell_cmp (drop n cs))
sorted-drop zero cs h = h
sorted-drop (suc n) [] h = h
sorted-drop (suc n) (c ∷ cs) h = sorted-drop n cs (second _ _ h)

-- a change leaves what stands at the cells after
pub there-after : (t : Tables) (c : Change) (cs : List Change) → T (is_sorted cell_cmp (c ∷ cs)) → AreThere t (c ∷ cs) → AreThere (with_restored t c) cs
there-after t c cs sorted there = All-from_get_or (IsThere (with_restored t c)) cs c (λ i lt stands.
    let other : Change = get_or cs i c in
    let apart : eq_by_cmp cell_cmp other.0 c.0 ≡ false = ap is_eq (flipped-Less cells_total c.0 other.0 (below_at cells_total c.0 cs i c (first _ _ sorted) lt)) in
    let same : get (with_restored t c) other.0 ≡ get t other.0 = get-with_restored t c other.0 ∙ ap (λ b. cond b (after_restored (Some c.1) (get t other.0)) (get t other.0)) apart in
    subst IsSome (sym same) (All-get_or (IsThere t) cs i c lt (All-tail (IsThere t) c cs there) stands))

-- a change is at none of the cells of those before it
apart-before : (n : ℕ) (cs : List Change) (d : Change) → T (is_sorted cell_cmp cs) → n < length cs → find cell_cmp (get_or cs n d).0 (take n cs) ≡ None
apart-before zero cs d sorted lt = refl
apart-before (suc n) [] d sorted lt = refl
apart-before (suc n) (c ∷ cs) d sorted lt =
    let k : Cell = (get_or cs n d).0 in
    let other : eq_by_cmp cell_cmp k c.0 ≡ false = ap is_eq (flipped-Less cells_total c.0 k (below_at cells_total c.0 cs n d (first _ _ sorted) (omega arith))) in
    ap (λ b. cond b (Some c.1) (find cell_cmp k (take n cs))) other ∙ apart-before n cs d (second _ _ sorted) (omega arith)

-- so its cell is as it was before they were made
pub exchanged-now : (t : Tables) (n : ℕ) (cs : List Change) (d : Change) → T (is_sorted cell_cmp cs) → n < length cs → exchanged (with_puts t (take n cs)) (get_or cs n d) ≡ exchanged t (get_or cs n d)
exchanged-now t n cs d sorted lt =
    let x : Change = get_or cs n d in
    ap (λ (old : Option RowValues). (x.0, with_kept old x.1)) (get-with_puts t (take n cs) x.0 (sorted-take n cs sorted) ∙ ap (λ o. after_puts o (get t x.0)) (apart-before n cs d sorted lt))

-- ---- changes of which the first keep what their rows replaced

abbrev pub partly : Tables → ℕ → List Change → List Change
partly t n cs = map (exchanged t) (take n cs) ++ drop n cs

pub partly-at : (t : Tables) (n : ℕ) (cs : List Change) (d : Change) → n < length cs → get_or (partly t n cs) n d ≡ get_or cs n d
partly-at t zero cs d lt = refl
partly-at t (suc n) [] d lt = absurd (omega arith)
partly-at t (suc n) (c ∷ cs) d lt = partly-at t n cs d (omega arith)

pub partly-set : (t : Tables) (n : ℕ) (cs : List Change) (d : Change) → n < length cs → set (partly t n cs) n (exchanged t (get_or cs n d)) ≡ partly t (suc n) cs
partly-set t zero [] d lt = absurd (omega arith)
partly-set t zero (c ∷ cs) d lt = refl
partly-set t (suc n) [] d lt = absurd (omega arith)
partly-set t (suc n) (c ∷ cs) d lt = ap (λ (es : List Change). exchanged t c ∷ es) (partly-set t n cs d (omega arith))

pub partly-cells : (t : Tables) (n : ℕ) (cs : List Change) → cells (partly t n cs) ≡ cells cs
partly-cells t zero cs = refl
partly-cells t (suc n) [] = refl
partly-cells t (suc n) (c ∷ cs) = ap (λ ps. c.0 ∷ ps) (partly-cells t n cs)

pub partly-take : (t : Tables) (n : ℕ) (cs : List Change) (x : Change) → n ≤ length cs → take n (set (partly t n cs) n x) ≡ map (exchanged t) (take n cs)
partly-take t zero cs x le = refl
partly-take t (suc n) [] x le = absurd (omega arith)
partly-take t (suc n) (c ∷ cs) x le = ap (λ (es : List Change). exchanged t c ∷ es) (partly-take t n cs x (omega arith))

pub cells-append : (cs ds : List Change) → cells (cs ++ ds) ≡ cells cs ++ cells ds
cells-append [] ds = refl
cells-append (c ∷ cs) ds = ap (λ ps. c.0 ∷ ps) (cells-append cs ds)

pub cells-parts : (n : ℕ) (cs : List Change) → cells (take n cs) ++ cells (drop n cs) ≡ cells cs
cells-parts zero cs = refl
cells-parts (suc n) [] = refl
cells-parts (suc n) (c ∷ cs) = ap (λ ps. c.0 ∷ ps) (cells-parts n cs)

pub cells-set : (n : ℕ) (cs : List Change) (x d : Change) → n < length cs → x.0 ≡ (get_or cs n d).0 → cells (set cs n x) ≡ cells cs
cells-set n [] x d lt e = absurd (omega arith)
cells-set zero (c ∷ cs) x d lt e = ap (λ p. p ∷ cells cs) e
cells-set (suc n) (c ∷ cs) x d lt e = ap (λ ps. c.0 ∷ ps) (cells-set n cs x d (omega arith) e)

pub drop-set : (n : ℕ) (cs : List Change) (x : Change) → drop (suc n) (set cs n x) ≡ drop (suc n) cs
drop-set n [] x = refl
drop-set zero (c ∷ cs) x = refl
drop-set (suc n) (c ∷ cs) x = drop-set n cs x
