-- Variables that are added to others, test by test.
use Rattle.std.proofs.Common.{◌≡◌, ◌⊎◌, ◌<◌, ◌≤◌, ◌+◌, ℕ, zero, suc, Bool, true, false, cond, not, eqb, ◌||◌, ◌&&◌, IsPermutation, arith, List, [], ◌∷◌, ◌++◌, length, get_or, take, refl, sym, ap, subst, ◌∙◌, inl, inr, Result, Ok, Err, OnOk, IfOk}
use Rattle.std.specs.Prelude.{Contains, ◌↔◌, ◌==◌}
use Rattle.std.specs.List.{list_any, filter, dedup}
use Rattle.std.specs.List.Retain.{IsFiltered, DiffersFromLast}
use Rattle.std.proofs.lemmas.List.Filters.{dedup_is}
use Rattle.std.proofs.lemmas.List.Kept.{Contains-dedup_nat, Contains-from_dedup}
use Rattle.std.proofs.lemmas.List.Sorted.{Contains-permutation, IsPermutation-sym}
use Rattle.std.proofs.lemmas.List.{take_more, take_all}
use Rattle.std.proofs.lemmas.List.Elements.{Contains-push, Contains-push_cases, Contains-append_left}
use Rattle.pac_base.proofs.TestLemmas.{or_cases, or_left, or_right, same_number, equal_number, and_both, and_left, and_right}
use Rattle.pac_ops.specs.Uses.{defined_variable}
use Rattle.pac_ops.specs.Effects.{NumberedOp, used_in, defined_in, is_var}
use Rattle.pac_keys.specs.Interfaces.{AddsVars, AreInputs}

-- nothing is added
pub adds_none : (old : List ℕ) → AddsVars (λ x. false) old old
adds_none old x = (inl, go)
  where
    go : Contains old x ⊎ (false ≡ true) → Contains old x
    go (inl h) = h
    go (inr h) = absurd (cc h)

-- one variable is
pub adds_one : (old : List ℕ) (y : ℕ) → AddsVars (λ x. y == x) old (old ++ y ∷ [])
adds_one old y x = (there, back)
  where
    there : Contains (old ++ y ∷ []) x → Contains old x ⊎ ((y == x) ≡ true)
    there h = go (Contains-push_cases old y x h)
      where
        go : Contains old x ⊎ (y ≡ x) → Contains old x ⊎ ((y == x) ≡ true)
        go (inl m) = inl m
        go (inr e) = inr (equal_number y x e)

    back : Contains old x ⊎ ((y == x) ≡ true) → Contains (old ++ y ∷ []) x
    back (inl m) = Contains-append_left old (y ∷ []) x m
    back (inr e) = subst (λ (n : ℕ). Contains (old ++ y ∷ []) n) (same_number y x e) (Contains-push old y)

-- first those that pass a test, and then those that pass another
pub adds_both : (f g : ℕ → Bool) (old mid new : List ℕ) → AddsVars f old mid → AddsVars g mid new → AddsVars (λ x. f x || g x) old new
adds_both f g old mid new first second x = (there, back)
  where
    there : Contains new x → Contains old x ⊎ ((f x || g x) ≡ true)
    there h = go ((second x).0 h)
      where
        go : Contains mid x ⊎ (g x ≡ true) → Contains old x ⊎ ((f x || g x) ≡ true)
        go (inr e) = inr (or_right (f x) (g x) e)
        go (inl m) = on ((first x).0 m)
          where
            on : Contains old x ⊎ (f x ≡ true) → Contains old x ⊎ ((f x || g x) ≡ true)
            on (inl n) = inl n
            on (inr e) = inr (or_left (f x) (g x) e)

    back : Contains old x ⊎ ((f x || g x) ≡ true) → Contains new x
    back (inl m) = (second x).1 (inl ((first x).1 (inl m)))
    back (inr e) = go (or_cases (f x) (g x) e)
      where
        go : (f x ≡ true) ⊎ (g x ≡ true) → Contains new x
        go (inl e) = (second x).1 (inl ((first x).1 (inr e)))
        go (inr e) = (second x).1 (inr e)

-- a test of one more item, after those of the items so far
pub any_push : {X : Type 0} (p : X → Bool) (xs : List X) (y : X) → list_any p (xs ++ y ∷ []) ≡ (list_any p xs || p y)
any_push p [] y = one (p y)
  where
    one : (b : Bool) → (b || false) ≡ b
    one true = refl
    one false = refl
any_push p (x ∷ xs) y = more (p x) (any_push p xs y)
  where
    more : (b : Bool) → list_any p (xs ++ y ∷ []) ≡ (list_any p xs || p y) → (b || list_any p (xs ++ y ∷ [])) ≡ ((b || list_any p xs) || p y)
    more true h = refl
    more false h = h

-- what is added for the items so far, and for one more
pub adds_item : {X : Type 0} (test : X → ℕ → Bool) (xs : List X) (i : ℕ) (d : X) (old mid new : List ℕ) → i < length xs → AddsVars (λ x. list_any (λ e. test e x) (take i xs)) old mid → AddsVars (test (get_or xs i d)) mid new
    → AddsVars (λ x. list_any (λ e. test e x) (take (i + 1) xs)) old new
adds_item test xs i d old mid new within first second x =
    let both = adds_both (λ x. list_any (λ e. test e x) (take i xs)) (test (get_or xs i d)) old mid new first second x in
    let same : list_any (λ e. test e x) (take (i + 1) xs) ≡ (list_any (λ e. test e x) (take i xs) || test (get_or xs i d) x) =
    ap (list_any (λ e. test e x)) (take_more xs i d within) ∙ any_push (λ e. test e x) (take i xs) (get_or xs i d) in
    subst (λ (b : Bool). Contains new x ↔ (Contains old x ⊎ (b ≡ true))) (sym same) both

-- what holds after an Ok holds after it of something that follows
pub on_ok : {A E : Type 0} {P Q : Type 0} (r : Result A E) → (P → Q) → OnOk r P → OnOk r Q
on_ok (Ok a) f h = f h
on_ok (Err e) f h = h

-- what holds of an Ok gives what else holds of it
pub if_ok : {A E : Type 0} {P Q : A → Type 0} (r : Result A E) → ((a : A) → P a → Q a) → IfOk r P → IfOk r Q
if_ok (Ok a) f h = f a h
if_ok (Err e) f h = h

-- the same under another name of the test
pub adds_same : (f g : ℕ → Bool) (old new : List ℕ) → ((x : ℕ) → f x ≡ g x) → AddsVars f old new → AddsVars g old new
adds_same f g old new same h x = subst (λ (b : Bool). Contains new x ↔ (Contains old x ⊎ (b ≡ true))) (same x) (h x)

-- once all items were gone through, what is added for all is
pub adds_whole : {X : Type 0} (test : X → ℕ → Bool) (xs : List X) (i : ℕ) (old new : List ℕ) → length xs ≤ i → AddsVars (λ x. list_any (λ e. test e x) (take i xs)) old new → AddsVars (λ x. list_any (λ e. test e x) xs) old new
adds_whole test xs i old new past h = adds_same (λ x. list_any (λ e. test e x) (take i xs)) (λ x. list_any (λ e. test e x) xs) old new (λ x. ap (list_any (λ e. test e x)) (take_all i xs past)) h

-- ---- the variables that are left

contains-cases : (y : ℕ) (ys : List ℕ) (x : ℕ) → Contains (y ∷ ys) x → (y ≡ x) ⊎ Contains ys x
contains-cases y ys x (zero, lt, is) = inl is
contains-cases y ys x (suc k, lt, is) = inr (k, omega arith, is)

contains-tail : (y : ℕ) (ys : List ℕ) (x : ℕ) → Contains ys x → Contains (y ∷ ys) x
contains-tail y ys x (k, lt, is) = (suc k, omega arith, is)

contains-head : (y : ℕ) (ys : List ℕ) (x : ℕ) → y ≡ x → Contains (y ∷ ys) x
contains-head y ys x e = (0, omega arith, e)

-- what passes a test stands among those that do
pub contains-filter : (p : ℕ → Bool) (ys : List ℕ) (x : ℕ) → Contains (filter p ys) x ↔ (Contains ys x × (p x ≡ true))
contains-filter p [] x = (λ h. absurd (none h), λ h. h.0)
  where
    none : Contains [] x → ⊥
    none (k, lt, is) = omega arith
contains-filter p (y ∷ ys) x = (go (p y) refl (contains-filter p ys x), back (p y) refl (contains-filter p ys x))
  where
    go : (b : Bool) → p y ≡ b → (Contains (filter p ys) x ↔ (Contains ys x × (p x ≡ true))) → Contains (cond b (y ∷ filter p ys) (filter p ys)) x → Contains (y ∷ ys) x × (p x ≡ true)
    go true is rest h = on (contains-cases y (filter p ys) x h)
      where
        on : (y ≡ x) ⊎ Contains (filter p ys) x → Contains (y ∷ ys) x × (p x ≡ true)
        on (inl e) = (contains-head y ys x e, ap p (sym e) ∙ is)
        on (inr m) = let r = rest.0 m in (contains-tail y ys x r.0, r.1)
    go false is rest h = let r = rest.0 h in (contains-tail y ys x r.0, r.1)

    back : (b : Bool) → p y ≡ b → (Contains (filter p ys) x ↔ (Contains ys x × (p x ≡ true))) → Contains (y ∷ ys) x × (p x ≡ true) → Contains (cond b (y ∷ filter p ys) (filter p ys)) x
    back b is rest (m, passes) = on b is (contains-cases y ys x m)
      where
        on : (b : Bool) → p y ≡ b → (y ≡ x) ⊎ Contains ys x → Contains (cond b (y ∷ filter p ys) (filter p ys)) x
        on true is (inl e) = contains-head y (filter p ys) x e
        on true is (inr m) = contains-tail y (filter p ys) x (rest.1 (m, passes))
        on false is (inl e) = let no : true ≡ false = sym passes ∙ ap p (sym e) ∙ is in absurd (cc no)
        on false is (inr m) = rest.1 (m, passes)

-- sorted, and each once: the same variables
pub same_vars : (xs ys zs : List ℕ) → IsPermutation xs ys → IsFiltered (DiffersFromLast eqb) [] ys zs → (x : ℕ) → Contains zs x ↔ Contains xs x
same_vars xs ys zs moved once x = (there, back)
  where
    is : zs ≡ dedup eqb ys
    is = dedup_is eqb ys zs once

    there : Contains zs x → Contains xs x
    there h = Contains-permutation ys xs x (IsPermutation-sym xs ys moved) (Contains-from_dedup eqb ys x (subst (λ (l : List ℕ). Contains l x) is h))

    back : Contains xs x → Contains zs x
    back h = subst (λ (l : List ℕ). Contains l x) (sym is) (Contains-dedup_nat ys x (Contains-permutation xs ys x moved h))

-- the inputs of operations are those that they use, without those that they define
pub inputs_are : (os : List NumberedOp) (used moved once left : List ℕ) → AddsVars (used_in os) [] used → IsPermutation used moved → IsFiltered (DiffersFromLast eqb) [] moved once → left ≡ filter (λ x. not (defined_in os x)) once → AreInputs os left
inputs_are os used moved once left adds p f is x =
    let same = same_vars used moved once p f x in
    let filtered = contains-filter (λ x. not (defined_in os x)) once x in (
      λ h. let r = filtered.0 (subst (λ (l : List ℕ). Contains l x) is h) in and_both (used_in os x) (not (defined_in os x)) (added x ((adds x).0 (same.0 r.0))) r.1,
      λ h. subst (λ (l : List ℕ). Contains l x) (sym is) (filtered.1 (same.1 ((adds x).1 (inr (and_left (used_in os x) (not (defined_in os x)) h))), and_right (used_in os x) (not (defined_in os x)) h)),
    )
  where
    added : (x : ℕ) → Contains [] x ⊎ (used_in os x ≡ true) → used_in os x ≡ true
    added x (inl (k, lt, is)) = absurd (omega arith)
    added x (inr e) = e

-- what an operation gives, if others use it, of the operations so far: what they define and others use
pub outputs_are : (os : List NumberedOp) (others : ℕ → Bool) (added moved once : List ℕ) → AddsVars (λ x. list_any (λ (o : NumberedOp). is_var x (defined_variable o.1.kind) && others x) os) [] added → IsPermutation added moved → IsFiltered (DiffersFromLast eqb) [] moved once
    → (x : ℕ) → Contains once x ↔ ((defined_in os x && others x) ≡ true)
outputs_are os others added moved once adds p f x =
    let same = same_vars added moved once p f x in
    (λ h. sym (split os) ∙ only ((adds x).0 (same.0 h)), λ h. same.1 ((adds x).1 (inr (split os ∙ h))))
  where
    split : (os : List NumberedOp) → list_any (λ (o : NumberedOp). is_var x (defined_variable o.1.kind) && others x) os ≡ (defined_in os x && others x)
    split [] = refl
    split (o ∷ os) = go (is_var x (defined_variable o.1.kind)) (others x) (split os)
      where
        spread : (a b d : Bool) → ((a && b) || (d && b)) ≡ ((a || d) && b)
        spread true true d = refl
        spread true false true = refl
        spread true false false = refl
        spread false b d = refl

        go : (a b : Bool) → list_any (λ (o : NumberedOp). is_var x (defined_variable o.1.kind) && others x) os ≡ (defined_in os x && others x) → ((a && others x) || list_any (λ (o : NumberedOp). is_var x (defined_variable o.1.kind) && others x) os) ≡ ((a || defined_in os x) && others x)
        go a b h = ap (λ c. (a && others x) || c) h ∙ spread a (others x) (defined_in os x)

    only : Contains [] x ⊎ (list_any (λ (o : NumberedOp). is_var x (defined_variable o.1.kind) && others x) os ≡ true) → list_any (λ (o : NumberedOp). is_var x (defined_variable o.1.kind) && others x) os ≡ true
    only (inl (k, lt, is)) = absurd (omega arith)
    only (inr e) = e
