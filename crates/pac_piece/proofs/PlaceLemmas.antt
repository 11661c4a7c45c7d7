-- Tables in which a piece runs: what undoes its writes, and what it sees while rows that it deleted still stand.
use Rattle.std.proofs.Common.{◌≡◌, ℕ, ◌<◌, Bool, true, false, cond, ◌||◌, List, [], ◌∷◌, ◌++◌, Option, Some, refl, sym, ap, ◌∙◌, subst}
use Rattle.std.specs.Prelude.{IsSome}
use Rattle.std.specs.Ordering.{eq_by_cmp}
use Rattle.std.specs.FinMap.{get, insert, same_map}
use Rattle.pac_base.proofs.TestLemmas.{or_left, or_right}
use Rattle.pac_value.specs.State.{Cell, cell_cmp, RowValues, Tables, with_row}
use Rattle.pac_value.proofs.CellLemmas.{cells_total, cells_antisymmetric, same-cell, tied_same, get-with_row}
use Rattle.pac_tables.specs.declared.writes.Write.{Write}
use Rattle.pac_tables.specs.Written.{IsOnce, cell_written, is_written, written}
use Rattle.pac_tables.specs.Room.{IsReady}
use Rattle.pac_tables.proofs.WriteLemmas.{written-last}
use Rattle.pac_piece.specs.InPlace.{HaveCellRoom}
use Rattle.pac_piece.proofs.WriteLookups.{exchanged, get-none}

-- ---- the last of the writes is made first

pub room-last : (n : ℕ) (t : Tables) (ws : List Write) (w : Write) → HaveCellRoom n t (ws ++ w ∷ []) → IsReady n t w × HaveCellRoom n (with_row t (cell_written w) w.row) ws
room-last n t [] w h = (h.0, tt)
room-last n t (v ∷ ws) w h =
    let rest = room-last n t ws w h.1 in
    (rest.0, (subst (λ (m : Tables). IsReady n m v) (written-last t ws w) h.0, rest.1))

pub room-more : (n : ℕ) (t s : Tables) (ws : List Write) (w : Write) → with_row s (cell_written w) w.row ≡ t → IsReady n s w → HaveCellRoom n t ws → HaveCellRoom n s (ws ++ w ∷ [])
room-more n t s [] w back ready h = (ready, tt)
room-more n t s (v ∷ ws) w back ready h =
    (subst (λ (m : Tables). IsReady n m v) (sym (written-last s ws w ∙ ap (λ (m : Tables). written m ws) back)) h.0, room-more n t s ws w back ready h.1)

-- what stood at the cell is put back
pub put-back : (t : Tables) (c : Cell) (row old : Option RowValues) → old ≡ get t c → with_row (with_row t c row) c old ≡ t
put-back t c row old is = same_map cells_total cells_antisymmetric _ _ (λ q.
    get-with_row (with_row t c row) c old q ∙ ap (cond (eq_by_cmp cell_cmp q c) old) (get-with_row t c row q) ∙ go q (eq_by_cmp cell_cmp q c) refl)
  where
    go : (q : Cell) (b : Bool) → eq_by_cmp cell_cmp q c ≡ b → cond b old (cond b row (get t q)) ≡ get t q
    go q true at = is ∙ ap (get t) (sym (tied_same q c at))
    go q false at = refl

-- ---- what is to stand at the end

-- no cell is written twice, and a row stands at each: all find room
pub room-ends : (n : ℕ) (t : Tables) (ws : List Write) → IsOnce ws → ((a : Cell) → is_written ws a ≡ true → a.0 < n) → ((a : Cell) → is_written ws a ≡ true → IsSome (get t a)) → HaveCellRoom n t ws
room-ends n t [] once there placed = tt
room-ends n t (w ∷ ws) once there placed = (
  record {
    within = there (cell_written w) here;
    placed = λ some. subst (λ (o : Option RowValues). IsSome o) (sym (get-none t (cell_written w) ws once.0)) (placed (cell_written w) here);
  },
  room-ends n t ws once.1 (λ a e. there a (or_right (eq_by_cmp cell_cmp a (cell_written w)) (is_written ws a) e)) (λ a e. placed a (or_right (eq_by_cmp cell_cmp a (cell_written w)) (is_written ws a) e)),
)
  where
    here : is_written (w ∷ ws) (cell_written w) ≡ true
    here = or_left (eq_by_cmp cell_cmp (cell_written w) (cell_written w)) (is_written ws (cell_written w)) (same-cell (cell_written w))

-- a row that is put where none of them is made stands after them too
pub seen-put : (t : Tables) (c : Cell) (row : Option RowValues) (ws : List Write) → is_written ws c ≡ false → written (with_row t c row) ws ≡ with_row (written t ws) c row
seen-put t c row [] n = refl
seen-put t c row (w ∷ ws) n = go (eq_by_cmp cell_cmp c (cell_written w)) refl n (seen-put t c row ws)
  where
    go : (b : Bool) → eq_by_cmp cell_cmp c (cell_written w) ≡ b → (b || is_written ws c) ≡ false → (is_written ws c ≡ false → written (with_row t c row) ws ≡ with_row (written t ws) c row)
        → written (with_row t c row) (w ∷ ws) ≡ with_row (written t (w ∷ ws)) c row
    go true at n rest = cc
    go false at n rest = ap (λ (m : Tables). with_row m (cell_written w) w.row) (rest n) ∙ exchanged (written t ws) c (cell_written w) row w.row at

-- where a row stood, one stands still
pub still : (t : Tables) (c : Cell) (row : RowValues) (a : Cell) → IsSome (get t a) → IsSome (get (insert t c row) a)
still t c row a some = subst (λ (o : Option RowValues). IsSome o) (sym (get-with_row t c (Some row) a)) (go (eq_by_cmp cell_cmp a c))
  where
    go : (b : Bool) → IsSome (cond b (Some row) (get t a))
    go true = refl
    go false = some

-- ---- one more row is put

module _ (t : Tables) (cell : Cell) (row : RowValues) (s : Tables) (olds news : List Write) (old : Write) (put : s ≡ insert t cell row)
    (old_is : old ≡ record { table = cell.0; key = cell.1; row = get t cell }) (more : news ≡ olds ++ old ∷ []) where
  back : with_row s (cell_written old) old.row ≡ t
  back = (λ i. with_row (put i) (cell_written (old_is i)) (old_is i).row) ∙ put-back t cell (Some row) (get t cell) refl

  pub before-kept : written s news ≡ written t olds
  before-kept = ap (written s) more ∙ written-last s olds old ∙ ap (λ (m : Tables). written m olds) back

  pub room-kept : (n : ℕ) → cell.0 < n → HaveCellRoom n t olds → HaveCellRoom n s news
  room-kept n there room = subst (HaveCellRoom n s) (sym more) (room-more n t s olds old back (record {
    within = subst (λ (w : Write). w.table < n) (sym old_is) there;
    placed = λ some. subst (λ (m : Tables). IsSome (get m (cell_written old))) (sym put) (still_at (cell_written old) (ap cell_written old_is));
  }) room)
    where
      still_at : (a : Cell) → a ≡ cell → IsSome (get (insert t cell row) a)
      still_at a same = subst (λ (o : Option RowValues). IsSome o) (sym (get-with_row t cell (Some row) a ∙ ap (λ b. cond b (Some row) (get t a)) (ap (λ (x : Cell). eq_by_cmp cell_cmp x cell) same ∙ same-cell cell))) refl
