-- What an image that is noted changes, and what writes change once their cells have images.
use Rattle.std.proofs.Common.{◌≡◌, ◌≢◌, ℕ, ◌<◌, Bool, true, false, ◌||◌, List, [], ◌∷◌, ◌++◌, Option, Some, None, is_some, Result, Ok, Err, OnOk, OnErr, refl, sym, ap, subst, ◌∙◌}
use Rattle.std.specs.List.{All, AllByRecursion}
use Rattle.std.specs.Option.{option_map, unwrap_or}
use Rattle.std.specs.Ordering.{eq_by_cmp}
use Rattle.std.specs.FinMap.{get, same_map}
use Rattle.std.proofs.lemmas.List.Elements.{All-push, recursion_from_All}
use Rattle.pac_base.specs.declared.no_memory.NoMemory.{NoMemory}
use Rattle.pac_value.specs.State.{Cell, cell_cmp, RowValues, Tables}
use Rattle.pac_value.proofs.CellLemmas.{cells_total, cells_antisymmetric, tied_same}
use Rattle.pac_tables.specs.declared.writes.Write.{Write}
use Rattle.pac_tables.specs.Written.{AreWithin, cell_written, is_written, written}
use Rattle.pac_undo.specs.Images.{HaveBeforeImages, before_image_at}
use Rattle.pac_undo.specs.Undo.{Undoable}
use Rattle.pac_undo.proofs.ImageLemmas.{get-written, noted-same, written-image, written-last_cell}

pub map-some : {A B : Type 0} (f : A → B) (o : Option A) → is_some (option_map f o) ≡ is_some o
map-some f None = refl
map-some f (Some x) = refl

-- whether a cell has an image, by a look-up that gives a reference to it
pub found-image : {A : Type 0} (f : A → Option RowValues) (o : Option A) (ws : List Write) (q : Cell) (b : Bool) → option_map f o ≡ before_image_at ws q → is_some o ≡ b → is_written ws q ≡ b
found-image f o ws q b found is = written-image ws q ∙ ap is_some (sym found) ∙ map-some f o ∙ is

-- one more image, or none: it says what stands there
module _ (t : Tables) (ws vs : List Write) (w : Write) where
  pub noted-opening : (r : Result (Unit {0}) NoMemory) → OnOk r (vs ≡ ws ++ w ∷ []) → OnErr r (vs ≡ ws) → w.row ≡ get t (cell_written w) → written t vs ≡ written t ws
  noted-opening (Ok x) is kept row = ap (written t) is ∙ noted-same t ws w row
  noted-opening (Err e) is kept row = ap (written t) kept

  pub noted-within : (r : Result (Unit {0}) NoMemory) → OnOk r (vs ≡ ws ++ w ∷ []) → OnErr r (vs ≡ ws) → (n : ℕ) → w.table < n → AreWithin n ws → AreWithin n vs
  noted-within (Ok x) is kept n lt all = subst (λ us. AreWithin n us) (sym is) (All-push (λ (v : Write). v.table < n) ws w all lt)
  noted-within (Err e) is kept n lt all = subst (λ us. AreWithin n us) (sym kept) all

  pub noted-cell : (r : Result (Unit {0}) NoMemory) → OnOk r (vs ≡ ws ++ w ∷ []) → OnOk r (is_written vs (cell_written w) ≡ true)
  noted-cell (Ok x) is = ap (λ us. is_written us (cell_written w)) is ∙ written-last_cell ws w
  noted-cell (Err e) is = tt

-- what holds of the cell of each write holds of each cell that is written
at-cell : (P : Cell → Type 0) (ws : List Write) (q : Cell) → AllByRecursion (λ w. P (cell_written w)) ws → is_written ws q ≡ true → P q
at-cell P [] q all h = absurd cc
at-cell P (w ∷ ws) q all h = go (at-cell P ws q all.1) (eq_by_cmp cell_cmp q (cell_written w)) refl h
  where
    go : (is_written ws q ≡ true → P q) → (b : Bool) → eq_by_cmp cell_cmp q (cell_written w) ≡ b → (b || is_written ws q) ≡ true → P q
    go later true e h = subst P (sym (tied_same q (cell_written w) e)) all.0
    go later false e h = later h

pub at-written : (P : Cell → Type 0) (ws : List Write) (q : Cell) → All (λ w. P (cell_written w)) ws → is_written ws q ≡ true → P q
at-written P ws q all h = at-cell P ws q (recursion_from_All _ ws all) h

-- where nothing is written, what stood there stands
pub get-unwritten : (t : Tables) (ws : List Write) (q : Cell) → is_written ws q ≡ false → get (written t ws) q ≡ get t q
get-unwritten t ws q none = get-written t ws q ∙ go (before_image_at ws q) (sym (written-image ws q) ∙ none)
  where
    go : (o : Option (Option RowValues)) → is_some o ≡ false → unwrap_or o (get t q) ≡ get t q
    go None h = refl
    go (Some x) h = absurd cc

-- writes at cells that have images change nothing of what the images put back
pub put_back-written : (t : Tables) (ws before : List Write) → HaveBeforeImages before ws → written (written t ws) before ≡ written t before
put_back-written t ws before have = same_map cells_total cells_antisymmetric _ _ (λ q.
    get-written (written t ws) before q ∙ at q (before_image_at before q) refl ∙ sym (get-written t before q))
  where
    go : (q : Cell) → is_written before q ≡ false → (b : Bool) → is_written ws q ≡ b → get (written t ws) q ≡ get t q
    go q none true h = let there = at-written (λ c. is_written before c ≡ true) ws q have h in absurd cc
    go q none false h = get-unwritten t ws q h

    at : (q : Cell) (o : Option (Option RowValues)) → before_image_at before q ≡ o → unwrap_or o (get (written t ws) q) ≡ unwrap_or o (get t q)
    at q None h = go q (written-image before q ∙ ap is_some h) (is_written ws q) refl
    at q (Some x) h = refl

-- tables whose parts are the same
pub same-undoable : {a b : ℕ} {s t u v : Tables} → a ≡ b → s ≡ t → u ≡ v → ◌≡◌ {A = Undoable} (record { tables = a; opening = s; current = u }) (record { tables = b; opening = t; current = v })
same-undoable e f h = λ i. record { tables = e i; opening = f i; current = h i }

-- a cell that has another row than at the opening has a before-image
pub changed-noted : (t : Tables) (before : List Write) (q : Cell) → get t q ≢ get (written t before) q → is_written before q ≡ true
changed-noted t before q changed = go (is_written before q) refl
  where
    go : (b : Bool) → is_written before q ≡ b → is_written before q ≡ true
    go true h = h
    go false h = absurd (changed (sym (get-unwritten t before q h)))
