-- Lists of rows with their keys: what they have is what a look-up of each key finds.
use Rattle.std.proofs.Common.{◌≡◌, ◌<◌, ℕ, zero, suc, ◌+◌, ◌&&◌, Bool, true, false, cond, T, List, [], ◌∷◌, map, length, get_or, Some, refl, ap, ◌∙◌, arith}
use Rattle.std.specs.List.Sorted.{IsSortedBy}
use Rattle.std.specs.Cmp.{tied_itself}
use Rattle.std.specs.Ordering.{is_eq, eq_by_cmp}
use Rattle.std.specs.FinMap.{get, find, is_sorted, entries, entries_sorted, keys, get-entries}
use Rattle.std.specs.FinMap.Entries.{below_all}
use Rattle.pac_value.specs.declared.values.Key.{Key}
use Rattle.pac_value.specs.Keys.{key_cmp, keys_total}
use Rattle.pac_value.specs.State.{RowValues}
use Rattle.pac_value.proofs.OffsetLemmas.{below_at, flipped-Less}
use Rattle.pac_tables.specs.Joined.{OneTable}

pub map-map : {A B C : Type 0} (f : A → B) (g : B → C) (xs : List A) → map g (map f xs) ≡ map (λ x. g (f x)) xs
map-map f g [] = refl
map-map f g (x ∷ xs) = ap (λ ys. g (f x) ∷ ys) (map-map f g xs)

pub map-same : {A B : Type 0} (f g : A → B) → ((x : A) → f x ≡ g x) → (xs : List A) → map f xs ≡ map g xs
map-same {A = A} {B = B} f g same xs = ap (λ (h : A → B). map h xs) (λ i x. same x i)

get-map : {A B : Type 0} (f : A → B) (xs : List A) (k : ℕ) (x : A) (d : B) → k < length xs → get_or (map f xs) k d ≡ f (get_or xs k x)
get-map f [] k x d lt = absurd (omega arith)
get-map f (y ∷ ys) zero x d lt = refl
get-map f (y ∷ ys) (suc k) x d lt = get-map f ys k x d (omega arith)

length-same : {A B : Type 0} (f : A → B) (xs : List A) → length (map f xs) ≡ length xs
length-same f [] = refl
length-same f (x ∷ xs) = ap suc (length-same f xs)

-- what is sorted by a part of each element has these parts in order
pub sorted-map : {A B : Type 0} (f : A → B) (lt : B → B → Bool) (xs : List A) → IsSortedBy (λ x y. lt (f x) (f y)) xs → IsSortedBy lt (map f xs)
sorted-map f lt [] sorted k d low high = absurd (omega arith)
sorted-map f lt (x ∷ xs) sorted k d low high =
    let within : k + 1 < length (x ∷ xs) = omega (arith, high, length-same f xs) in
    (λ i. lt (get-map f (x ∷ xs) (k + 1) x d within i) (get-map f (x ∷ xs) k x d (omega (arith, within)) i)) ∙ sorted k x low within

first : (a b : Bool) → T (a && b) → T a
first true b p = tt
first false b p = p

second : (a b : Bool) → T (a && b) → T b
second true b p = p
second false b p = absurd p

-- an entry before others is at none of their keys
skipped : (e : Key × RowValues) (all es : List (Key × RowValues)) → T (below_all key_cmp e.0 es) → map (λ (f : Key × RowValues). find key_cmp f.0 (e ∷ all)) es ≡ map (λ (f : Key × RowValues). find key_cmp f.0 all) es
skipped e all [] below = refl
skipped e all (f ∷ es) below =
    let apart : eq_by_cmp key_cmp f.0 e.0 ≡ false = ap is_eq (flipped-Less keys_total e.0 f.0 (below_at keys_total e.0 (f ∷ es) 0 f below (omega arith))) in
    (λ i. cond (apart i) (Some e.1) (find key_cmp f.0 all) ∷ skipped e all es (second _ _ below) i)

each-found : (es : List (Key × RowValues)) → T (is_sorted key_cmp es) → map (λ (e : Key × RowValues). find key_cmp e.0 es) es ≡ map (λ (e : Key × RowValues). Some e.1) es
each-found [] sorted = refl
each-found (e ∷ es) sorted =
    let itself : eq_by_cmp key_cmp e.0 e.0 ≡ true = ap is_eq (tied_itself keys_total e.0) in
    (λ i. cond (itself i) (Some e.1) (find key_cmp e.0 es) ∷ (skipped e es es (first _ _ sorted) ∙ each-found es (second _ _ sorted)) i)

-- a look-up of each key finds the rows in the order of the keys
pub rows-found : (table : OneTable) → map (get table) (keys table) ≡ map (λ (e : Key × RowValues). Some e.1) (entries table)
rows-found table =
    map-map (λ (e : Key × RowValues). e.0) (get table) (entries table)
    ∙ map-same (λ (e : Key × RowValues). get table e.0) (λ (e : Key × RowValues). find key_cmp e.0 (entries table)) (λ e. get-entries table e.0) (entries table)
    ∙ each-found (entries table) (entries_sorted table)
