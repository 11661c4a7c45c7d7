-- What writes leave at a cell, found by the first write at it, and what a write in place of another leaves.
use Rattle.std.proofs.Common.{◌≡◌, ℕ, zero, suc, ◌+◌, ◌<◌, ◌≤◌, Bool, true, false, cond, ◌||◌, List, [], ◌∷◌, length, Option, Some, None, refl, sym, ap, ◌∙◌, get_or, true≢false, arith}
use Rattle.std.specs.Prelude.{position, slice_set, nat_lt, not}
use Rattle.std.specs.List.{prefix_len, position_or_len}
use Rattle.std.specs.Ordering.{eq_by_cmp}
use Rattle.std.specs.FinMap.{get, same_map}
use Rattle.std.proofs.lemmas.Bool.{ltb-false}
use Rattle.std.proofs.lemmas.List.Quantifiers.{position-Some}
use Rattle.pac_base.proofs.TestLemmas.{unlike}
use Rattle.pac_value.specs.State.{Cell, cell_cmp, RowValues, Tables, with_row}
use Rattle.pac_value.proofs.CellLemmas.{cells_total, cells_antisymmetric, same-cell, tied_same, get-with_row}
use Rattle.pac_tables.specs.declared.writes.Write.{Write}
use Rattle.pac_tables.specs.Written.{IsOnce, cell_written, is_written, written}
use Rattle.pac_piece.specs.Changes.{is_at, ChangesCell}

-- ---- two writes

apart : (a b : Cell) → eq_by_cmp cell_cmp a b ≡ false → eq_by_cmp cell_cmp b a ≡ false
apart a b f = unlike _ (λ t. true≢false (sym (ap (λ c. eq_by_cmp cell_cmp a c) (tied_same b a t) ∙ same-cell a) ∙ f))

-- the later write at a cell counts
pub twice : (t : Tables) (c : Cell) (old new : Option RowValues) → with_row (with_row t c old) c new ≡ with_row t c new
twice t c old new = same_map cells_total cells_antisymmetric _ _ (λ q.
    get-with_row (with_row t c old) c new q ∙ ap (cond (eq_by_cmp cell_cmp q c) new) (get-with_row t c old q) ∙ go q (eq_by_cmp cell_cmp q c) ∙ sym (get-with_row t c new q))
  where
    go : (q : Cell) (b : Bool) → cond b new (cond b old (get t q)) ≡ cond b new (get t q)
    go q true = refl
    go q false = refl

-- writes at two cells change places
pub exchanged : (t : Tables) (a b : Cell) (x y : Option RowValues) → eq_by_cmp cell_cmp a b ≡ false → with_row (with_row t a x) b y ≡ with_row (with_row t b y) a x
exchanged t a b x y other = same_map cells_total cells_antisymmetric _ _ (λ q.
    get-with_row (with_row t a x) b y q ∙ ap (cond (eq_by_cmp cell_cmp q b) y) (get-with_row t a x q)
    ∙ go q (eq_by_cmp cell_cmp q a) (eq_by_cmp cell_cmp q b) refl refl
    ∙ sym (get-with_row (with_row t b y) a x q ∙ ap (cond (eq_by_cmp cell_cmp q a) x) (get-with_row t b y q)))
  where
    go : (q : Cell) (m n : Bool) → eq_by_cmp cell_cmp q a ≡ m → eq_by_cmp cell_cmp q b ≡ n → cond n y (cond m x (get t q)) ≡ cond m x (cond n y (get t q))
    go q true true at_a at_b = absurd (true≢false (sym at_b ∙ ap (λ c. eq_by_cmp cell_cmp c b) (tied_same q a at_a) ∙ other))
    go q true false at_a at_b = refl
    go q false true at_a at_b = refl
    go q false false at_a at_b = refl

-- ---- the first write at a cell

-- the write at this position is the first at the cell
pub record IsFirstAt (cell : Cell) (ws : List Write) (i : ℕ) : Type 0 where
  pub inside : i < length ws
  pub here : (d : Write) → is_at cell (get_or ws i d) ≡ true
  pub before : (k : ℕ) (d : Write) → k < i → is_at cell (get_or ws k d) ≡ false

pub first_at : (cell : Cell) (ws : List Write) (i : ℕ) → position (is_at cell) ws ≡ Some i → IsFirstAt cell ws i
first_at cell ws i e = record {
  inside = go ws e;
  here = λ d. (position-Some (is_at cell) ws i d e).1;
  before = λ k d lt. (position-Some (is_at cell) ws i d e).2 k lt;
}
  where
    go : (ws : List Write) → position (is_at cell) ws ≡ Some i → i < length ws
    go [] e = cc
    go (w ∷ ws) e = (position-Some (is_at cell) (w ∷ ws) i w e).0

-- of a list after one that is not at the cell
later_first : (cell : Cell) (w : Write) (ws : List Write) (i : ℕ) → IsFirstAt cell (w ∷ ws) (suc i) → IsFirstAt cell ws i
later_first cell w ws i f = record {
  inside = (let lt = f.inside in omega (arith, lt));
  here = f.here;
  before = λ k d lt. f.before (suc k) d (omega (arith, lt));
}

module _ (t : Tables) (cell : Cell) where
  pub get-found : (ws : List Write) (i : ℕ) (d : Write) → IsFirstAt cell ws i → get (written t ws) cell ≡ (get_or ws i d).row
  get-found [] i d f = absurd (let lt : i < 0 = f.inside in omega (arith, lt))
  get-found (w ∷ ws) zero d f = get-with_row (written t ws) (cell_written w) w.row cell ∙ ap (λ b. cond b w.row (get (written t ws) cell)) (f.here d)
  get-found (w ∷ ws) (suc i) d f =
      get-with_row (written t ws) (cell_written w) w.row cell ∙ ap (λ b. cond b w.row (get (written t ws) cell)) (f.before 0 d (omega arith))
      ∙ get-found ws i d (later_first cell w ws i f)

  pub get-none : (ws : List Write) → is_written ws cell ≡ false → get (written t ws) cell ≡ get t cell
  get-none [] n = refl
  get-none (w ∷ ws) n = get-with_row (written t ws) (cell_written w) w.row cell ∙ go (eq_by_cmp cell_cmp cell (cell_written w)) n (get-none ws)
    where
      go : (b : Bool) → (b || is_written ws cell) ≡ false → (is_written ws cell ≡ false → get (written t ws) cell ≡ get t cell) → cond b w.row (get (written t ws) cell) ≡ get t cell
      go true n rest = absurd (true≢false n)
      go false n rest = rest n

-- none is at the cell
pub none_at : (cell : Cell) (ws : List Write) → position (is_at cell) ws ≡ None → is_written ws cell ≡ false
none_at cell ws e = all ws (past (nat_lt (position_or_len (is_at cell) ws) (length ws)) refl e)
  where
    past : (b : Bool) → nat_lt (position_or_len (is_at cell) ws) (length ws) ≡ b → cond b (Some (position_or_len (is_at cell) ws)) None ≡ None → length ws ≤ position_or_len (is_at cell) ws
    past true t h = cc
    past false t h = ltb-false _ _ t

    all : (ws : List Write) → length ws ≤ prefix_len (λ w. not (is_at cell w)) ws → is_written ws cell ≡ false
    all [] le = refl
    all (w ∷ ws) le = go (is_at cell w) le (all ws)
      where
        go : (b : Bool) → length (w ∷ ws) ≤ cond (not b) (1 + prefix_len (λ w. not (is_at cell w)) ws) 0 → (length ws ≤ prefix_len (λ w. not (is_at cell w)) ws → is_written ws cell ≡ false) → (b || is_written ws cell) ≡ false
        go true le rest = absurd (omega (arith, le))
        go false le rest = rest (omega (arith, le))

-- ---- a write in place of another

module _ (cell : Cell) (row : Option RowValues) (w' : Write) (is_row : w'.row ≡ row) where
  -- the write is at the cell of the one in whose place it stands
  abbrev Replaces : List Write → ℕ → Type 0
  Replaces ws i = (d : Write) → cell_written w' ≡ cell_written (get_or ws i d)

  set_tables : (t : Tables) (ws : List Write) (i : ℕ) → IsFirstAt cell ws i → Replaces ws i → written t (slice_set ws i w') ≡ with_row (written t ws) cell row
  set_tables t [] i f r = absurd (let lt : i < 0 = f.inside in omega (arith, lt))
  set_tables t (w ∷ ws) zero f r =
      let same : cell ≡ cell_written w = tied_same cell (cell_written w) (f.here w) in
      ap (λ c. with_row (written t ws) c w'.row) (r w ∙ sym same) ∙ ap (with_row (written t ws) cell) is_row
      ∙ sym (ap (λ c. with_row (with_row (written t ws) c w.row) cell row) (sym same) ∙ twice (written t ws) cell w.row row)
  set_tables t (w ∷ ws) (suc i) f r =
      ap (λ (m : Tables). with_row m (cell_written w) w.row) (set_tables t ws i (later_first cell w ws i f) r)
      ∙ exchanged (written t ws) cell (cell_written w) row w.row (f.before 0 w (omega arith))

  or-same : (b c : Bool) → (b || c) ≡ (b || (b || c))
  or-same true c = refl
  or-same false c = refl

  or-swap : (a b c : Bool) → (a || (b || c)) ≡ (b || (a || c))
  or-swap true true c = refl
  or-swap true false c = refl
  or-swap false b c = refl

  set_at : (a : Cell) (ws : List Write) (i : ℕ) → IsFirstAt cell ws i → Replaces ws i → is_written (slice_set ws i w') a ≡ (eq_by_cmp cell_cmp a cell || is_written ws a)
  set_at a [] i f r = absurd (let lt : i < 0 = f.inside in omega (arith, lt))
  set_at a (w ∷ ws) zero f r =
      let same : cell ≡ cell_written w = tied_same cell (cell_written w) (f.here w) in
      ap (λ c. eq_by_cmp cell_cmp a c || is_written ws a) (r w ∙ sym same)
      ∙ or-same (eq_by_cmp cell_cmp a cell) (is_written ws a)
      ∙ ap (λ c. eq_by_cmp cell_cmp a cell || (eq_by_cmp cell_cmp a c || is_written ws a)) same
  set_at a (w ∷ ws) (suc i) f r =
      ap (λ b. eq_by_cmp cell_cmp a (cell_written w) || b) (set_at a ws i (later_first cell w ws i f) r)
      ∙ or-swap (eq_by_cmp cell_cmp a (cell_written w)) (eq_by_cmp cell_cmp a cell) (is_written ws a)

  set_same : (a : Cell) (ws : List Write) (i : ℕ) → Replaces ws i → is_written (slice_set ws i w') a ≡ is_written ws a
  set_same a [] i r = refl
  set_same a (w ∷ ws) zero r = ap (λ c. eq_by_cmp cell_cmp a c || is_written ws a) (r w)
  set_same a (w ∷ ws) (suc i) r = ap (λ b. eq_by_cmp cell_cmp a (cell_written w) || b) (set_same a ws i r)

  set_once : (ws : List Write) (i : ℕ) → Replaces ws i → IsOnce ws → IsOnce (slice_set ws i w')
  set_once [] i r o = o
  set_once (w ∷ ws) zero r o = (ap (is_written ws) (r w) ∙ o.0, o.1)
  set_once (w ∷ ws) (suc i) r o = (set_same (cell_written w) ws i r ∙ o.0, set_once ws i r o.1)

  pub replaced : (ws : List Write) (i : ℕ) → IsFirstAt cell ws i → Replaces ws i → IsOnce ws → ChangesCell cell row ws (slice_set ws i w')
  replaced ws i f r o = record { tables = λ t. set_tables t ws i f r; at = λ a. set_at a ws i f r; once = set_once ws i r o }

-- one more write, where there was none
pub added : (w : Write) (ws : List Write) → is_written ws (cell_written w) ≡ false → IsOnce ws → ChangesCell (cell_written w) w.row ws (w ∷ ws)
added w ws n o = record { tables = λ t. refl; at = λ a. refl; once = (n, o) }
