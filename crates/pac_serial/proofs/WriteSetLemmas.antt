-- The tables as a transaction sees them.
use Rattle.std.proofs.Common.{◌≡◌, ℕ, ◌<◌, Bool, true, false, cond, List, [], ◌∷◌, Option, Some, None, is_some, refl, sym, ap, subst, ◌∙◌}
use Rattle.std.specs.Ordering.{eq_by_cmp}
use Rattle.std.specs.FinMap.{get, find, entries, insert, empty, get-entries, get-empty, get-insert, get-from_sorted, from_sorted, same_map}
use Rattle.pac_value.specs.State.{Cell, cell_cmp, RowValues, Tables, with_row}
use Rattle.pac_value.proofs.CellLemmas.{cells_total, cells_antisymmetric, tied_same, get-with_row}
use Rattle.pac_serial.specs.declared.pending.Pending.{Pending}
use Rattle.pac_serial.specs.WriteSets.{Change, Changes, laid, as_changed, AreUnmade}

-- the row of a change, or the one that stood there
abbrev pub row_or : Option Pending → Option RowValues → Option RowValues
row_or None row = row
row_or (Some pending) row = pending.row

pub get-laid : (t : Tables) (cs : List Change) (q : Cell) → get (laid t cs) q ≡ row_or (find cell_cmp q cs) (get t q)
get-laid t [] q = refl
get-laid t (c ∷ cs) q =
    get-with_row (laid t cs) c.0 c.1.row q ∙ ap (cond (eq_by_cmp cell_cmp q c.0) c.1.row) (get-laid t cs q) ∙ go (eq_by_cmp cell_cmp q c.0) (find cell_cmp q cs)
  where
    go : (b : Bool) (o : Option Pending) → cond b c.1.row (row_or o (get t q)) ≡ row_or (cond b (Some c.1) o) (get t q)
    go true o = refl
    go false o = refl

pub get-seen : (t : Tables) (cs : Changes) (q : Cell) → get (as_changed t cs) q ≡ row_or (get cs q) (get t q)
get-seen t cs q = get-laid t (entries cs) q ∙ ap (λ o. row_or o (get t q)) (sym (get-entries cs q))

pub no-changes : ◌≡◌ {A = Changes} (from_sorted []) empty
no-changes = same_map cells_total cells_antisymmetric _ _ (λ q. get-from_sorted cell_cmp [] q tt ∙ sym (get-empty cell_cmp q))

-- where nothing is changed, the tables are seen as they are
pub seen-none : (t : Tables) → as_changed t empty ≡ t
seen-none t = same_map cells_total cells_antisymmetric _ _ (λ q. get-seen t empty q ∙ ap (λ (o : Option Pending). row_or o (get t q)) (get-empty cell_cmp q))

-- one more change
pub seen-insert : (t : Tables) (cs : Changes) (p : Cell) (pending : Pending) → as_changed t (insert cs p pending) ≡ with_row (as_changed t cs) p pending.row
seen-insert t cs p pending = same_map cells_total cells_antisymmetric _ _ (λ q.
    get-seen t (insert cs p pending) q
    ∙ ap (λ o. row_or o (get t q)) (get-insert cells_total cs p pending q)
    ∙ go q (eq_by_cmp cell_cmp q p) (get cs q)
    ∙ ap (cond (eq_by_cmp cell_cmp q p) pending.row) (sym (get-seen t cs q))
    ∙ sym (get-with_row (as_changed t cs) p pending.row q))
  where
    go : (q : Cell) (b : Bool) (o : Option Pending) → row_or (cond b (Some pending) o) (get t q) ≡ cond b pending.row (row_or o (get t q))
    go q true o = refl
    go q false o = refl

pub unmade-none : (n : ℕ) → AreUnmade n empty
unmade-none n cell pending found =
    let none : ◌≡◌ {A = Option Pending} None (Some pending) = sym (get-empty cell_cmp cell) ∙ found in
    let no_way : ⊥ = cc in
    absurd no_way

pub unmade-insert : (n : ℕ) (cs : Changes) (p : Cell) (new : Pending) → p.0 < n → new.puts ≡ is_some new.row → AreUnmade n cs → AreUnmade n (insert cs p new)
unmade-insert n cs p new within puts unmade q pending found = go (eq_by_cmp cell_cmp q p) refl (sym (get-insert cells_total cs p new q) ∙ found)
  where
    go : (b : Bool) → eq_by_cmp cell_cmp q p ≡ b → cond b (Some new) (get cs q) ≡ Some pending → (q.0 < n) × (pending.puts ≡ is_some pending.row)
    go true e h =
        let same : new ≡ pending = cc in
        subst (λ (z : Cell). (z.0 < n) × (pending.puts ≡ is_some pending.row)) (sym (tied_same q p e))
        (subst (λ (z : Pending). (p.0 < n) × (z.puts ≡ is_some z.row)) same (within, puts))
    go false e h = unmade q pending h
