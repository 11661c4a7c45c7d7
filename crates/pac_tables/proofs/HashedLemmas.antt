-- The keys behind a hash, told apart by `==`, are those of the finite map; once sorted, they are its keys in order.
use Rattle.std.proofs.Common.{◌≡◌, Bool, true, false, ◌&&◌, ◌||◌, T, cond, List, [], ◌∷◌, map, length, Some, None, is_some, refl, ap, sym, subst, ◌∙◌, IsPermutation}
use Rattle.std.specs.List.{IsDistinct, AllByRecursion, dedup}
use Rattle.std.specs.List.Sorted.{IsSorted, IsStrictlySortedBy}
use Rattle.std.specs.Map.{lookup, keys_of}
use Rattle.std.specs.Set.{is_member}
use Rattle.std.specs.declared.cmp.Ordering.{Ordering}
use Rattle.std.specs.declared.cmp.Ordering.TheVariants.{Less, Equal, Greater}
use Rattle.std.specs.Ordering.{is_lt, eq_by_cmp}
use Rattle.std.specs.Cmp.{IsEquivalence, eq_by_cmp_equiv}
use Rattle.std.specs.FinMap.{same_map, entries, entries_sorted, keys, find, is_sorted, from_entries, get-entries, len, len-entries}
use Rattle.std.specs.FinMap.Entries.{below_all, same_entries}
use Rattle.std.proofs.lemmas.List.{length-map}
use Rattle.std.proofs.lemmas.List.Sorted.{list_any-IsPermutation, IsPermutation-map}
use Rattle.std.proofs.lemmas.List.Kept.{IsStrictlySortedBy-dedup}
use Rattle.std.proofs.lemmas.Map.Keys.{IsDistinct-from_sorted}
use Rattle.std.proofs.lemmas.Map.Made.{length-from_same_keys}
use Rattle.indexmap.proofs.MapLemmas.{distinct_permutation, lookup_permutation}
use Rattle.pac_value.specs.declared.values.Key.{Key}
use Rattle.pac_value.specs.contracts.values.KeyPartialEq.TheImpl.{ghosts}
use Rattle.pac_value.specs.Keys.{key_cmp, key_ties, keys_total, keys_antisymmetric}
use Rattle.pac_value.specs.State.{RowValues}
use Rattle.pac_value.proofs.EntryLemmas.{entries-from_entries}
use Rattle.pac_value.proofs.MapLemmas.{get-by_test}
use Rattle.pac_tables.specs.Joined.{OneTable}

abbrev pub key_eq : Key → Key → Bool
key_eq = (ghosts).eq

pub keys_tie : (a b : Key) → key_eq a b ≡ eq_by_cmp key_cmp a b
keys_tie = key_ties

same_test : key_eq ≡ eq_by_cmp key_cmp
same_test = λ i a b. keys_tie a b i

pub same_keys : IsEquivalence key_eq
same_keys = subst (λ (E : Key → Key → Bool). IsEquivalence E) (sym same_test) (eq_by_cmp_equiv keys_total)

-- a key is among those of entries exactly where a look-up finds it
pub member-lookup : (es : List (Key × RowValues)) (q : Key) → is_member key_eq (keys_of es) q ≡ is_some (lookup (key_eq q) es)
member-lookup [] q = refl
member-lookup (e ∷ es) q = go (key_eq q e.0) (member-lookup es q)
  where
    go : (b : Bool) → is_member key_eq (keys_of es) q ≡ is_some (lookup (key_eq q) es) → (b || is_member key_eq (keys_of es) q) ≡ is_some (cond b (Some e.1) (lookup (key_eq q) es))
    go true h = refl
    go false h = h

member-find : (es : List (Key × RowValues)) (q : Key) → is_member (eq_by_cmp key_cmp) (map (λ e. e.0) es) q ≡ is_some (find key_cmp q es)
member-find [] q = refl
member-find (e ∷ es) q = go (eq_by_cmp key_cmp q e.0) (member-find es q)
  where
    go : (b : Bool) → is_member (eq_by_cmp key_cmp) (map (λ f. f.0) es) q ≡ is_some (find key_cmp q es) → (b || is_member (eq_by_cmp key_cmp) (map (λ f. f.0) es) q) ≡ is_some (cond b (Some e.1) (find key_cmp q es))
    go true h = refl
    go false h = h

-- the finite map has the keys of the entries that it is made of
member-keys : (es : List (Key × RowValues)) (q : Key) → is_member key_eq (keys_of es) q ≡ is_member key_eq (keys (from_entries {R = key_cmp} es)) q
member-keys es q =
    let made : OneTable = from_entries es in
    member-lookup es q ∙ ap is_some (sym (get-by_test keys_total key_eq keys_tie es q) ∙ get-entries made q) ∙ sym (member-find (entries made) q)
    ∙ ap (λ (E : Key → Key → Bool). is_member E (keys made) q) (sym same_test)

first : (a b : Bool) → T (a && b) → T a
first true b p = tt
first false b p = p

second : (a b : Bool) → T (a && b) → T b
second true b p = p
second false b p = absurd p

both : (a b : Bool) → T a → T b → T (a && b)
both true b p q = q
both false b p q = p

less : (r : Ordering) → T (is_lt r) → r ≡ Less
less Less p = refl
less Equal p = absurd p
less Greater p = absurd p

all-below : (k : Key) (es : List (Key × RowValues)) → T (below_all key_cmp k es) → AllByRecursion (λ y. key_cmp k y ≡ Less) (map (λ e. e.0) es)
all-below k [] h = tt
all-below k (e ∷ es) h = (less _ (first _ _ h), all-below k es (second _ _ h))

pub strictly : (es : List (Key × RowValues)) → T (is_sorted key_cmp es) → IsStrictlySortedBy key_cmp (map (λ e. e.0) es)
unfolding IsStrictlySortedBy
strictly [] h = tt
strictly (e ∷ es) h = (all-below e.0 es (first _ _ h), strictly es (second _ _ h))

-- the keys of a finite map all differ
pub keys-differ : (made : OneTable) → IsDistinct key_eq (keys made)
keys-differ made = subst (λ (E : Key → Key → Bool). IsDistinct E (keys made)) (sym same_test) (IsDistinct-from_sorted key_cmp (keys made) (strictly (entries made) (entries_sorted made)))

-- there are as many
pub length-keys : (es : List (Key × RowValues)) → IsDistinct key_eq (keys_of es) → length es ≡ len (from_entries {R = key_cmp} es)
length-keys es distinct =
    let made : OneTable = from_entries es in
    sym (length-map es (λ e. e.0)) ∙ length-from_same_keys same_keys (keys_of es) (keys made) distinct (keys-differ made) (member-keys es)
    ∙ length-map (entries made) (λ e. e.0) ∙ sym (len-entries made)

-- ---- sorted keys

abbrev marked : List Key → List (Key × Unit {0})
marked ks = map (λ k. (k, tt)) ks

marked-below : (k : Key) (ks : List Key) → AllByRecursion (λ y. key_cmp k y ≡ Less) ks → T (below_all key_cmp k (marked ks))
marked-below k [] h = tt
marked-below k (j ∷ ks) h = both _ _ (subst (λ r. T (is_lt r)) (sym h.0) tt) (marked-below k ks h.1)

marked-sorted : (ks : List Key) → IsStrictlySortedBy key_cmp ks → T (is_sorted key_cmp (marked ks))
unfolding IsStrictlySortedBy
marked-sorted [] h = tt
marked-sorted (k ∷ ks) h = both _ _ (marked-below k ks h.0) (marked-sorted ks h.1)

marked-find : (ks : List Key) (q : Key) → find key_cmp q (marked ks) ≡ cond (is_member (eq_by_cmp key_cmp) ks q) (Some tt) None
marked-find [] q = refl
marked-find (k ∷ ks) q = go (eq_by_cmp key_cmp q k) (marked-find ks q)
  where
    go : (b : Bool) → find key_cmp q (marked ks) ≡ cond (is_member (eq_by_cmp key_cmp) ks q) (Some tt) None
        → cond b (Some tt) (find key_cmp q (marked ks)) ≡ cond (b || is_member (eq_by_cmp key_cmp) ks q) (Some tt) None
    go true h = refl
    go false h = h

marked-keys : (ks : List Key) → map (λ (e : Key × Unit {0}). e.0) (marked ks) ≡ ks
marked-keys [] = refl
marked-keys (k ∷ ks) = ap (λ js. k ∷ js) (marked-keys ks)

-- two lists of keys that ascend are one where they have the same keys
same_sorted : (ks js : List Key) → IsStrictlySortedBy key_cmp ks → IsStrictlySortedBy key_cmp js → ((q : Key) → is_member (eq_by_cmp key_cmp) ks q ≡ is_member (eq_by_cmp key_cmp) js q) → ks ≡ js
same_sorted ks js first second same =
    sym (marked-keys ks)
    ∙ ap (map (λ (e : Key × Unit {0}). e.0)) (same_entries key_cmp keys_total keys_antisymmetric (marked ks) (marked js) (marked-sorted ks first) (marked-sorted js second)
    (λ q. marked-find ks q ∙ ap (λ b. cond b (Some tt) None) (same q) ∙ sym (marked-find js q)))
    ∙ marked-keys js

-- keys that all differ are strictly sorted where they are sorted
strict : (ks : List Key) → IsSorted key_cmp ks → IsDistinct key_eq ks → IsStrictlySortedBy key_cmp ks
unfolding IsDistinct
strict ks sorted distinct = subst (λ (js : List Key). IsStrictlySortedBy key_cmp js) (undivided ks distinct) (IsStrictlySortedBy-dedup keys_total keys_tie ks sorted)
  where
    kept : (j : Key) (js : List Key) → IsDistinct key_eq (j ∷ js) → dedup key_eq (j ∷ js) ≡ j ∷ js
    kept j [] h = refl
    kept j (k ∷ js) h = ap (λ b. cond b (dedup key_eq (j ∷ js)) (j ∷ dedup key_eq (k ∷ js))) (same_keys.symm k j ∙ h.0.0) ∙ ap (λ ls. j ∷ ls) (kept k js h.1)

    undivided : (js : List Key) → IsDistinct key_eq js → dedup key_eq js ≡ js
    undivided [] h = refl
    undivided (j ∷ js) h = kept j js h

-- the keys of entries, sorted, are those of the finite map
pub keys-sorted : (es : List (Key × RowValues)) (ks : List Key) → IsDistinct key_eq (keys_of es) → IsPermutation (keys_of es) ks → IsSorted key_cmp ks → ks ≡ keys (from_entries {R = key_cmp} es)
keys-sorted es ks distinct moved sorted =
    let made : OneTable = from_entries es in
    same_sorted ks (keys made) (strict ks sorted (distinct_permutation same_keys (keys_of es) ks moved distinct)) (strictly (entries made) (entries_sorted made))
    (λ q. ap (λ (E : Key → Key → Bool). is_member E ks q) (sym same_test)
    ∙ sym (list_any-IsPermutation (key_eq q) (keys_of es) ks moved) ∙ member-keys es q
    ∙ ap (λ (E : Key → Key → Bool). is_member E (keys made) q) same_test)

-- entries that are moved into the order of their keys are those of the finite map
pub entries-sorted : (es fs : List (Key × RowValues)) → IsDistinct key_eq (keys_of es) → IsPermutation es fs → IsSorted key_cmp (map (λ e. e.0) fs) → fs ≡ entries (from_entries {R = key_cmp} es)
entries-sorted es fs distinct moved sorted =
    let apart : IsDistinct key_eq (keys_of fs) = distinct_permutation same_keys (keys_of es) (keys_of fs) (IsPermutation-map (λ e. e.0) es fs moved) distinct in
    sym (entries-from_entries keys_total fs (strict (map (λ e. e.0) fs) sorted apart))
    ∙ ap (λ (m : OneTable). entries m) (same_map keys_total keys_antisymmetric _ _ (λ q.
    get-by_test keys_total key_eq keys_tie fs q ∙ lookup_permutation same_keys es fs moved apart (key_eq q) (λ x y h. same_keys.congr q x y h) ∙ sym (get-by_test keys_total key_eq keys_tie es q)))
