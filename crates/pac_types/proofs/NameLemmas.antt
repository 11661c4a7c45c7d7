-- Names one more at a time: their numbers, and that they differ.
use Rattle.std.proofs.Common.{◌≡◌, ◌<◌, ◌≤◌, ℕ, ◌+◌, zero, suc, Bool, true, false, cond, List, [], ◌∷◌, ◌++◌, length, take, drop, get_or, Option, Some, None, refl, sym, ap, ◌∙◌, subst, arith, take-append-drop, drop-cons, ◌||◌, add-one, zero-add}
use Rattle.std.specs.Prelude.{bytes_eq, nat_lt, IfSome}
use Rattle.std.specs.List.{position_from, position_or_len, list_any, IsDistinct, AllByRecursion}
use Rattle.std.specs.Cmp.Lexicographic.{nat_list_eq_equiv}
use Rattle.std.proofs.lemmas.Grind.{common_steps}
use Rattle.std.proofs.lemmas.Slice.Eq.{bytes_eq-Decides}
use Rattle.std.proofs.lemmas.Iterator.Adapters.{position_from-zero}
use Rattle.std.proofs.lemmas.Map.Keys.{IsDistinct-push}
use Rattle.std.proofs.lemmas.Map.Made.{AllPairs-from_IsDistinct, IsDistinct-from_AllPairs}
use Rattle.std.proofs.Math.Seq.{take-suc}
use Rattle.pac_types.specs.Numbering.{AreDistinct, number_of}

pub number_is : (names : List (List ℕ)) (name : List ℕ) → number_of names name ≡ position_from (bytes_eq name) 0 names
unfolding number_of
number_is names name = position_from-zero (bytes_eq name) names

-- the number among the names from an offset on, by that among those after it
pub number-from : (names : List (List ℕ)) (i : ℕ) (y q : List ℕ) → i < length names → y ≡ get_or names i y
    → cond (bytes_eq y q) (Some i) (position_from (bytes_eq q) (i + 1) (drop (i + 1) names)) ≡ position_from (bytes_eq q) i (drop i names)
number-from names i y q within at =
    let rest : drop i names ≡ y ∷ drop (i + 1) names = drop-cons names i y within ∙ ap (λ z. z ∷ drop (suc i) names) (sym at) ∙ ap (λ n. y ∷ drop n names) (sym (add-one i)) in
    ap (λ b. cond b (Some i) (position_from (bytes_eq q) (i + 1) (drop (i + 1) names))) (nat_list_eq_equiv.symm y q) ∙ ap (position_from (bytes_eq q) i) (sym rest)

-- what has no offset isn't there
position-none : {X : Type 0} (test : X → Bool) (i : ℕ) (xs : List X) → position_from test i xs ≡ None → list_any test xs ≡ false
position-none test i [] none = refl
position-none test i (y ∷ ys) none = by (test y) none (position-none test (i + 1) ys)
  where
    by : (b : Bool) → cond b (Some i) (position_from test (i + 1) ys) ≡ None → (position_from test (i + 1) ys ≡ None → list_any test ys ≡ false) → (b || list_any test ys) ≡ false
    by true e later = cc
    by false e later = later e

-- what differs from each name before it has no offset among them
not_before : (i : ℕ) (xs ys : List (List ℕ)) (y : List ℕ) → IsDistinct bytes_eq (xs ++ y ∷ ys) → position_from (bytes_eq y) i xs ≡ None
unfolding IsDistinct
not_before i [] ys y d = refl
not_before i (x ∷ xs) ys y d = rw (nat_list_eq_equiv.symm y x ∙ at_end xs d.0) (not_before (i + 1) xs ys y d.1)
  where
    at_end : (zs : List (List ℕ)) → AllByRecursion (λ z. bytes_eq x z ≡ false) (zs ++ y ∷ ys) → bytes_eq x y ≡ false
    at_end [] h = h.0
    at_end (z ∷ zs) h = at_end zs h.1

pub distinct-push : (xs : List (List ℕ)) (y : List ℕ) → IsDistinct bytes_eq xs → number_of xs y ≡ None → IsDistinct bytes_eq (xs ++ y ∷ [])
distinct-push xs y distinct new = IsDistinct-push nat_list_eq_equiv xs y distinct (position-none (bytes_eq y) 0 xs (sym (number_is xs y) ∙ new))

pub distinct-nil : IsDistinct bytes_eq []
unfolding IsDistinct
distinct-nil = tt

pub are_distinct : (names : List (List ℕ)) → IsDistinct bytes_eq names → AreDistinct names
are_distinct names = AllPairs-from_IsDistinct bytes_eq-Decides names

-- where all names differ, none has a number among those before it
pub not_yet : (names : List (List ℕ)) (i : ℕ) (y : List ℕ) → i < length names → y ≡ get_or names i y → AreDistinct names → number_of (take i names) y ≡ None
not_yet names i y within at distinct =
    let rest : drop i names ≡ y ∷ drop (suc i) names = drop-cons names i y within ∙ ap (λ z. z ∷ drop (suc i) names) (sym at) in
    let parts : names ≡ take i names ++ y ∷ drop (suc i) names = sym (take-append-drop i names) ∙ ap (λ rest. take i names ++ rest) rest in
    number_is (take i names) y ∙ not_before 0 (take i names) (drop (suc i) names) y (subst (IsDistinct bytes_eq) parts (IsDistinct-from_AllPairs bytes_eq-Decides names distinct))

more : (names : List (List ℕ)) (i : ℕ) (y : List ℕ) → i < length names → y ≡ get_or names i y → take (i + 1) names ≡ take i names ++ y ∷ []
more names i y within at = rw add-one (take-suc names i y within ∙ ap (λ z. take i names ++ (z ∷ [])) (sym at))

pub distinct-more : (names : List (List ℕ)) (i : ℕ) (y : List ℕ) → i < length names → y ≡ get_or names i y → IsDistinct bytes_eq (take i names) → number_of (take i names) y ≡ None → IsDistinct bytes_eq (take (i + 1) names)
distinct-more names i y within at distinct new = subst (IsDistinct bytes_eq) (sym (more names i y within at)) (distinct-push (take i names) y distinct new)

-- a number below a bound
abbrev pub below : ℕ → Option ℕ → Option ℕ
below k None = None
below k (Some n) = cond (nat_lt n k) (Some n) None

below-none : {X : Type 0} (test : X → Bool) (k i : ℕ) (xs : List X) → k ≤ i → below k (position_from test i xs) ≡ None
below-none test k i [] le = refl
below-none test k i (x ∷ xs) le = by (test x) (below-none test k (i + 1) xs (omega arith))
  where
    by : (b : Bool) → below k (position_from test (i + 1) xs) ≡ None → below k (cond b (Some i) (position_from test (i + 1) xs)) ≡ None
    by true later = grind (arith, common_steps)
    by false later = later

position-take : {X : Type 0} (test : X → Bool) (k i : ℕ) (xs : List X) → position_from test i (take k xs) ≡ below (i + k) (position_from test i xs)
position-take test zero i xs = sym (below-none test (i + 0) i xs (omega arith))
position-take test (suc k) i [] = refl
position-take test (suc k) i (x ∷ xs) = by (test x) (position-take test k (i + 1) xs ∙ ap (λ n. below n (position_from test (i + 1) xs)) (omega arith))
  where
    by : (b : Bool) → position_from test (i + 1) (take k xs) ≡ below (i + suc k) (position_from test (i + 1) xs)
        → cond b (Some i) (position_from test (i + 1) (take k xs)) ≡ below (i + suc k) (cond b (Some i) (position_from test (i + 1) xs))
    by true later = grind (arith, common_steps)
    by false later = later

-- the number among the first n
pub number-take : (names : List (List ℕ)) (k : ℕ) (q : List ℕ) → number_of (take k names) q ≡ below k (number_of names q)
number-take names k q = number_is (take k names) q ∙ position-take (bytes_eq q) k 0 names ∙ ap (λ n. below n (position_from (bytes_eq q) 0 names)) (zero-add k) ∙ ap (below k) (sym (number_is names q))

pub number-within : (names : List (List ℕ)) (q : List ℕ) → IfSome (number_of names q) (λ n. n < length names)
unfolding number_of
number-within names q = go (nat_lt (position_or_len (bytes_eq q) names) (length names)) refl
  where
    go : (b : Bool) → nat_lt (position_or_len (bytes_eq q) names) (length names) ≡ b → IfSome (cond b (Some (position_or_len (bytes_eq q) names)) None) (λ n. n < length names)
    go true lt = grind (arith, common_steps)
    go false ge = tt
