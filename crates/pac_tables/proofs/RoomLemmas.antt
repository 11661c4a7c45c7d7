-- Room that is made for writes changes nothing of what they leave, and can be taken back.
use Rattle.std.proofs.Common.{◌≡◌, ℕ, Bool, true, false, cond, ◌||◌, List, [], ◌∷◌, ◌++◌, Option, Some, None, IsSome, is_some, Result, Ok, Err, OnOk, OnErr, refl, sym, ap, subst, ◌∙◌}
use Rattle.std.specs.List.{AllByRecursion}
use Rattle.std.specs.Ordering.{eq_by_cmp}
use Rattle.std.specs.FinMap.{get, insert, get-insert, same_map}
use Rattle.pac_value.specs.State.{Cell, cell_cmp, RowValues, Tables, with_row}
use Rattle.pac_value.proofs.CellLemmas.{cells_total, cells_antisymmetric, get-with_row, same-cell}
use Rattle.pac_base.specs.declared.no_memory.NoMemory.{NoMemory}
use Rattle.pac_tables.specs.declared.writes.Write.{Write}
use Rattle.pac_tables.specs.Written.{cell_written, written, is_written, IsOnce, HasRow}
use Rattle.pac_tables.specs.Room.{without_cells, Grows, IsReady}
use Rattle.pac_tables.proofs.WriteLemmas.{remove-absent, remove-inserted, without_cells-last}

pub Grows-none : (ws : List Write) (t : Tables) → Grows ws t t
Grows-none ws t = record { kept = λ c h. h; others = λ c h. refl }

either : (a b : Bool) → (a || b) ≡ false → a ≡ false
either true b h = h
either false b h = refl

rest : (a b : Bool) → (a || b) ≡ false → b ≡ false
rest true b h = absurd cc
rest false b h = h

Grows-insert : (w : Write) (t : Tables) (v : RowValues) → Grows (w ∷ []) t (insert t (cell_written w) v)
Grows-insert w t v = record {
  kept = λ c h. subst (λ (o : Option RowValues). IsSome o) (sym (get-insert cells_total t (cell_written w) v c)) (kept c (eq_by_cmp cell_cmp c (cell_written w)) h);
  others = λ c h. get-insert cells_total t (cell_written w) v c ∙ ap (λ b. cond b (Some v) (get t c)) (either (eq_by_cmp cell_cmp c (cell_written w)) false h);
}
  where
    kept : (c : Cell) (b : Bool) → IsSome (get t c) → IsSome (cond b (Some v) (get t c))
    kept c true h = refl
    kept c false h = h

-- the row that is put, or the tables as they were
module _ (w : Write) (v : RowValues) (t n : Tables) (absent : get t (cell_written w) ≡ None) where
  pub offset-put : (r : Result (Unit {0}) NoMemory) → OnOk r (n ≡ insert t (cell_written w) v) → OnOk r (HasRow n w)
  offset-put (Ok x) is = λ _. ap (λ (m : Tables). is_some (get m (cell_written w))) is ∙ ap is_some (get-insert cells_total t (cell_written w) v (cell_written w) ∙ ap (λ b. cond b (Some v) (get t (cell_written w))) (same-cell (cell_written w)))
  offset-put (Err e) is = tt

  pub grows-put : (r : Result (Unit {0}) NoMemory) → OnOk r (n ≡ insert t (cell_written w) v) → OnErr r (n ≡ t) → Grows (w ∷ []) t n
  grows-put (Ok x) is same = subst (λ m. Grows (w ∷ []) t m) (sym is) (Grows-insert w t v)
  grows-put (Err e) is same = subst (λ m. Grows (w ∷ []) t m) (sym same) (Grows-none (w ∷ []) t)

  pub back-put : (r : Result (Unit {0}) NoMemory) → OnOk r (n ≡ insert t (cell_written w) v) → OnErr r (n ≡ t) → (cs : List Cell) → without_cells n (cs ++ cell_written w ∷ []) ≡ without_cells t cs
  back-put (Ok x) is same cs = ap (λ m. without_cells m (cs ++ cell_written w ∷ [])) is ∙ without_cells-last (insert t (cell_written w) v) cs (cell_written w) ∙ ap (λ m. without_cells m cs) (remove-inserted t (cell_written w) absent v)
  back-put (Err e) is same cs = ap (λ m. without_cells m (cs ++ cell_written w ∷ [])) same ∙ without_cells-last t cs (cell_written w) ∙ ap (λ m. without_cells m cs) (remove-absent t (cell_written w) absent)

-- tables that differ where writes are made are the same once they are made
get-applied : (ws : List Write) (s t : Tables) (q : Cell) → (is_written ws q ≡ false → get s q ≡ get t q) → get (written s ws) q ≡ get (written t ws) q
get-applied [] s t q same = same refl
get-applied (w ∷ ws) s t q same =
    get-with_row (written s ws) (cell_written w) w.row q
    ∙ go (get-applied ws s t q) (eq_by_cmp cell_cmp q (cell_written w)) refl
    ∙ sym (get-with_row (written t ws) (cell_written w) w.row q)
  where
    go : ((is_written ws q ≡ false → get s q ≡ get t q) → get (written s ws) q ≡ get (written t ws) q) → (b : Bool) → eq_by_cmp cell_cmp q (cell_written w) ≡ b → cond b w.row (get (written s ws) q) ≡ cond b w.row (get (written t ws) q)
    go later true e = refl
    go later false e = later (λ h. same (ap (λ b. b || is_written ws q) e ∙ h))

pub written-grown : (ws : List Write) (s t : Tables) → Grows ws s t → written t ws ≡ written s ws
written-grown ws s t grows = same_map cells_total cells_antisymmetric _ _ (λ q. get-applied ws t s q (grows.others q))

-- a write at another cell leaves a write ready
ready-after : (n : ℕ) (t : Tables) (v w : Write) → eq_by_cmp cell_cmp (cell_written v) (cell_written w) ≡ false → IsReady n t v → IsReady n (with_row t (cell_written w) w.row) v
ready-after n t v w apart ready = record {
  within = ready.within;
  placed = λ h. subst (λ (o : Option RowValues). IsSome o) (sym (get-with_row t (cell_written w) w.row (cell_written v) ∙ ap (λ b. cond b w.row (get t (cell_written v))) apart)) (ready.placed h);
}

none : (a b : Bool) → a ≡ false → b ≡ false → (a || b) ≡ false
none a b h k = ap (λ x. x || b) h ∙ k

-- where none of several writes is made, neither the last nor another is
apart-last : (c : Cell) (vs : List Write) (w : Write) → is_written (vs ++ w ∷ []) c ≡ false → (is_written vs c ≡ false) × (eq_by_cmp cell_cmp c (cell_written w) ≡ false)
apart-last c [] w h = (refl, either _ _ h)
apart-last c (v ∷ vs) w h =
    let later = apart-last c vs w (rest _ _ h) in
    (none _ _ (either _ _ h) later.0, later.1)

-- once the last of several writes is made, the others are still ready
pub ready-others : (n : ℕ) (t : Tables) (vs : List Write) (w : Write) → AllByRecursion (IsReady n t) (vs ++ w ∷ []) → IsOnce (vs ++ w ∷ []) → IsReady n t w × (AllByRecursion (IsReady n (with_row t (cell_written w) w.row)) vs × IsOnce vs)
ready-others n t [] w ready once = (ready.0, (tt, tt))
ready-others n t (v ∷ vs) w ready once =
    let later = ready-others n t vs w ready.1 once.1 in
    let apart = apart-last (cell_written v) vs w once.0 in
    (later.0, ((ready-after n t v w apart.1 ready.0, later.1.0), (apart.0, later.1.1)))
