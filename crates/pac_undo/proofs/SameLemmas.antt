-- Tables that are the same at each key at which one of them has a row, and at each image, are the same.
use Rattle.std.proofs.Common.{◌≡◌, ◌↔◌, ◌==◌, ℕ, ◌<◌, ◌+◌, Bool, true, false, IsTrue, cond, List, [], ◌∷◌, map, filter, length, get_or, Option, Some, None, is_some, refl, sym, ap, subst, ◌∙◌, arith, below_more, eq-eqb}
use Rattle.std.specs.List.{All, AllByRecursion}
use Rattle.std.specs.Ordering.{eq_by_cmp}
use Rattle.std.specs.FinMap.{entries, find, get, get-entries, same_map}
use Rattle.std.proofs.lemmas.List.{get_or-map, length-map}
use Rattle.std.proofs.lemmas.List.Elements.{recursion_from_All}
use Rattle.pac_value.specs.declared.values.Key.{Key}
use Rattle.pac_value.specs.State.{Cell, cell_cmp, RowValues, Tables, keys_among, keys_of}
use Rattle.pac_value.proofs.CellLemmas.{cells_total, cells_antisymmetric, tied_same}
use Rattle.pac_tables.specs.declared.writes.Write.{Write}
use Rattle.pac_tables.specs.Written.{AreWithin, cell_written, is_written, written}
use Rattle.pac_undo.specs.Images.{AreSameAt, AreSameWhereChanged}
use Rattle.pac_undo.specs.Undo.{AreSameIn, HasRowsIn}
use Rattle.pac_undo.proofs.NoteLemmas.{at-written, get-unwritten}

-- a test of two equal things
pub iff-same : {A P : Type 0} {a b x y : A} → P ↔ (a ≡ b) → a ≡ x → b ≡ y → P ↔ (x ≡ y)
iff-same h e f = (λ p. sym e ∙ h.0 p ∙ f, λ q. h.1 (e ∙ q ∙ sym f))

-- what holds of the keys of listed rows, at the next of them
module _ {X : Type 0} (f : X → Key) (P : Key → Type 0) (xs : List X) (i : ℕ) (x : X) (lt : i < length xs) (is : x ≡ get_or xs i x) where
  at-item : (d : Key) → get_or (map f xs) i d ≡ f x
  at-item d = get_or-map f xs i x d lt ∙ ap f (sym is)

  pub holds-more : ((k : ℕ) (d : Key) → k < i → P (get_or (map f xs) k d)) → P (f x) → (k : ℕ) (d : Key) → k < i + 1 → P (get_or (map f xs) k d)
  holds-more before here k d within = below_more (λ j. (d : Key) → P (get_or (map f xs) j d)) i (λ j h e. before j e h) (λ e. subst P (sym (at-item e)) here) k within d

  pub holds-here : All P (map f xs) → P (f x)
  holds-here all = subst P (at-item (f x)) (all i (f x) (omega (arith, lt, length-map xs f)))

-- a key at which a table has a row is among its keys
among : (Q : Key → Type 0) (es : List (Cell × RowValues)) (t : ℕ) (key : Key) (row : RowValues) → AllByRecursion Q (keys_among (map (λ e. e.0) es) t) → find cell_cmp (t, key) es ≡ Some row → Q key
among Q [] t key row all found = absurd cc
among Q (e ∷ es) t key row all found = go (λ rest. among Q es t key row rest) (eq_by_cmp cell_cmp (t, key) e.0) refl (e.0.0 == t) refl all found
  where
    go : (AllByRecursion Q (keys_among (map (λ f. f.0) es) t) → find cell_cmp (t, key) es ≡ Some row → Q key)
        → (b : Bool) → eq_by_cmp cell_cmp (t, key) e.0 ≡ b → (n : Bool) → (e.0.0 == t) ≡ n
        → AllByRecursion Q (map (λ (cell : Cell). cell.1) (cond n (e.0 ∷ filter (λ cell. cell.0 == t) (map (λ f. f.0) es)) (filter (λ cell. cell.0 == t) (map (λ f. f.0) es))))
        → cond b (Some e.1) (find cell_cmp (t, key) es) ≡ Some row → Q key
    go later true tie true same all found = subst Q (sym (ap (λ (c : Cell). c.1) (tied_same (t, key) e.0 tie))) all.0
    go later true tie false apart all found =
        let one : (t, key) ≡ e.0 = tied_same (t, key) e.0 tie in
        let same : (e.0.0 == t) ≡ true = eq-eqb e.0.0 t (sym (ap (λ (c : Cell). c.0) one)) in
        absurd cc
    go later false tie true same all found = later all.1 found
    go later false tie false apart all found = later all found

pub at-key : (Q : Key → Type 0) (rows : Tables) (t : ℕ) (key : Key) (row : RowValues) → All Q (keys_of rows t) → get rows (t, key) ≡ Some row → Q key
at-key Q rows t key row all found = among Q (entries rows) t key row (recursion_from_All Q _ all) (sym (get-entries rows (t, key)) ∙ found)

-- the other tables, those of now, and the images of what stood before
module _ (other now : Tables) (before : List Write) where
  -- each of the first tables, as many as that, is the same at the keys of its rows
  abbrev pub AreSameInEach : ℕ → Type 0
  AreSameInEach n = (t : ℕ) → t < n → AreSameAt other (written now before) t (keys_of now t) × AreSameAt other (written now before) t (keys_of other t)

  module _ (count : ℕ) (each : AreSameInEach count) (images : AreSameWhereChanged other (written now before) before) where
    unchanged : (q : Cell) → q.0 < count → is_written before q ≡ false → (a b : Option RowValues) → get other q ≡ a → get now q ≡ b → get other q ≡ get (written now before) q
    unchanged q lt none (Some row) b is at = at-key (λ key. get other (q.0, key) ≡ get (written now before) (q.0, key)) other q.0 q.1 row (each q.0 lt).1 is
    unchanged q lt none None (Some row) is at = at-key (λ key. get other (q.0, key) ≡ get (written now before) (q.0, key)) now q.0 q.1 row (each q.0 lt).0 at
    unchanged q lt none None None is at = is ∙ sym (get-unwritten now before q none ∙ at)

    at-each : (q : Cell) → q.0 < count → (b : Bool) → is_written before q ≡ b → get other q ≡ get (written now before) q
    at-each q lt true h = at-written (λ c. get other c ≡ get (written now before) c) before q images h
    at-each q lt false h = unchanged q lt h (get other q) (get now q) refl refl

    pub same-in : AreSameIn count other (written now before)
    same-in q lt = at-each q lt (is_written before q) refl

  pub same-images : (count : ℕ) → AreSameIn count other (written now before) → AreWithin count before → AreSameWhereChanged other (written now before) before
  same-images count same within k d h = same (cell_written (get_or before k d)) (within k d h)

-- tables that are the same in the first tables are the same where they have no rows in others
whole : (n : ℕ) (s t : Tables) → HasRowsIn n s → HasRowsIn n t → AreSameIn n s t → s ≡ t
whole n s t first second same = same_map cells_total cells_antisymmetric s t (λ q. go q (get s q) (get t q) refl refl)
  where
    go : (q : Cell) (a b : Option RowValues) → get s q ≡ a → get t q ≡ b → get s q ≡ get t q
    go q (Some row) b is at = same q (first q (ap is_some is))
    go q None (Some row) is at = same q (second q (ap is_some at))
    go q None None is at = is ∙ sym at

-- so a test of the first tables is one of all
pub whole-from_each : (b : Bool) (n m : ℕ) (s t : Tables) → HasRowsIn n s → HasRowsIn m t → IsTrue b ↔ (n ≡ m) × AreSameIn m s t → IsTrue b ↔ (n ≡ m) × (s ≡ t)
whole-from_each b n m s t first second each = (
  λ h. let found = each.0 h in (found.0, whole m s t (subst (λ k. HasRowsIn k s) found.0 first) second found.1),
  λ same. each.1 (same.0, λ q lt. ap (λ (u : Tables). get u q) same.1),
)
