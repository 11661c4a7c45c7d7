-- Before-images are found by their cells, and a noted one puts back what stands there.
use Rattle.std.proofs.Common.{◌≡◌, Bool, true, false, cond, ◌&&◌, ◌||◌, nat_eq, List, [], ◌∷◌, ◌++◌, Option, Some, None, is_some, refl, sym, ap, ◌∙◌}
use Rattle.std.specs.Option.{unwrap_or}
use Rattle.std.specs.Ordering.{eq_by_cmp, nat_cmp}
use Rattle.std.specs.Cmp.{both_tied, unsigned_ties}
use Rattle.std.specs.Map.{lookup}
use Rattle.std.specs.FinMap.{get, same_map}
use Rattle.std.proofs.lemmas.List.{map-append}
use Rattle.indexmap.specs.IndexMap.{insert_entry}
use Rattle.indexmap.proofs.MapLemmas.{absent_from_lookup, insert_entry-absent}
use Rattle.pac_value.specs.contracts.values.KeyPartialEq.TheImpl.{ghosts}
use Rattle.pac_value.specs.Keys.{key_cmp, key_ties}
use Rattle.pac_value.specs.State.{Cell, cell_cmp, RowValues, Tables, with_row}
use Rattle.pac_value.proofs.CellLemmas.{cells_total, cells_antisymmetric, get-with_row, same-cell, tied_same}
use Rattle.pac_tables.specs.declared.writes.Write.{Write}
use Rattle.pac_tables.specs.Written.{cell_written, is_written, written}
use Rattle.pac_tables.proofs.WriteLemmas.{written-last}
use Rattle.pac_undo.specs.Images.{as_writes, before_image_at}

-- cells as `==` tells them apart
abbrev pub cell_eq : Cell → Cell → Bool
cell_eq a b = nat_eq a.0 b.0 && (ghosts).eq a.1 b.1

cells_tie : (a b : Cell) → cell_eq a b ≡ eq_by_cmp cell_cmp a b
cells_tie a b = both_tied (nat_eq a.0 b.0) ((ghosts).eq a.1 b.1) (nat_cmp a.0 b.0) (key_cmp a.1 b.1) (unsigned_ties a.0 b.0) (key_ties a.1 b.1)

-- a look-up by `==` finds the image
pub lookup-image : (es : List (Cell × Option RowValues)) (q : Cell) → before_image_at (as_writes es) q ≡ lookup (cell_eq q) es
lookup-image [] q = refl
lookup-image (e ∷ es) q = ap (λ b. cond b (Some e.1) (before_image_at (as_writes es) q)) (sym (cells_tie q e.0)) ∙ ap (cond (cell_eq q e.0) (Some e.1)) (lookup-image es q)

-- a cell is written exactly where it has an image
pub written-image : (ws : List Write) (q : Cell) → is_written ws q ≡ is_some (before_image_at ws q)
written-image [] q = refl
written-image (w ∷ ws) q = go (eq_by_cmp cell_cmp q (cell_written w)) (written-image ws q)
  where
    go : (b : Bool) → is_written ws q ≡ is_some (before_image_at ws q) → (b || is_written ws q) ≡ is_some (cond b (Some w.row) (before_image_at ws q))
    go true h = refl
    go false h = h

-- what stands at a cell once the images are put back
pub get-written : (t : Tables) (ws : List Write) (q : Cell) → get (written t ws) q ≡ unwrap_or (before_image_at ws q) (get t q)
get-written t [] q = refl
get-written t (w ∷ ws) q =
    get-with_row (written t ws) (cell_written w) w.row q
    ∙ go (eq_by_cmp cell_cmp q (cell_written w)) (get-written t ws q)
  where
    go : (b : Bool) → get (written t ws) q ≡ unwrap_or (before_image_at ws q) (get t q) → cond b w.row (get (written t ws) q) ≡ unwrap_or (cond b (Some w.row) (before_image_at ws q)) (get t q)
    go true h = refl
    go false h = h

absent : {A : Type 0} (o : Option A) → is_some o ≡ false → o ≡ None
absent None h = refl
absent (Some x) h = absurd cc

-- an image of a cell that has none goes last
pub note-last : (es : List (Cell × Option RowValues)) (c : Cell) (image : Option RowValues) → is_written (as_writes es) c ≡ false
    → as_writes (insert_entry cell_eq es c image) ≡ as_writes es ++ record { table = c.0; key = c.1; row = image } ∷ []
note-last es c image none =
    ap as_writes (insert_entry-absent cell_eq c image es (absent_from_lookup (cell_eq c) es (sym (lookup-image es c) ∙ absent _ (sym (written-image (as_writes es) c) ∙ none))))
    ∙ map-append _ es ((c, image) ∷ [])

-- a row that stands is put where it stands
with_same_row : (t : Tables) (c : Cell) → with_row t c (get t c) ≡ t
with_same_row t c = same_map cells_total cells_antisymmetric _ _ (λ q. get-with_row t c (get t c) q ∙ go q (eq_by_cmp cell_cmp q c) refl)
  where
    go : (q : Cell) (b : Bool) → eq_by_cmp cell_cmp q c ≡ b → cond b (get t c) (get t q) ≡ get t q
    go q true h = sym (ap (get t) (tied_same q c h))
    go q false h = refl

-- a row that is noted where it stands changes nothing of what the images put back
pub noted-same : (t : Tables) (ws : List Write) (w : Write) → w.row ≡ get t (cell_written w) → written t (ws ++ w ∷ []) ≡ written t ws
noted-same t ws w is =
    written-last t ws w
    ∙ ap (λ (m : Tables). written m ws) (ap (with_row t (cell_written w)) is ∙ with_same_row t (cell_written w))

either : (a b : Bool) → a ≡ true → (a || b) ≡ true
either true b h = refl
either false b h = absurd cc

-- the cell of the last image has one
pub written-last_cell : (ws : List Write) (w : Write) → is_written (ws ++ w ∷ []) (cell_written w) ≡ true
written-last_cell [] w = either _ _ (same-cell (cell_written w))
written-last_cell (v ∷ ws) w = later (eq_by_cmp cell_cmp (cell_written w) (cell_written v)) (written-last_cell ws w)
  where
    later : (b : Bool) → is_written (ws ++ w ∷ []) (cell_written w) ≡ true → (b || is_written (ws ++ w ∷ []) (cell_written w)) ≡ true
    later true h = refl
    later false h = h
