-- Numbers added up over all passes, and how often something stands in a list.
use Rattle.std.proofs.Common.{◌≡◌, ◌≢◌, ℕ, zero, suc, ◌+◌, ◌<◌, ◌≤◌, Bool, true, false, ◌&&◌, eqb, List, [], ◌∷◌, ◌++◌, length, get_or, set, sym, refl, ap, ◌∙◌, subst, eq-eqb, ne_eqb, arith}
use mathlib.Core.Logic.{dite}
use mathlib.Core.Option.{some, some-injective, some-ne-none}
use native.Mathlib.Decide.{ℕ_discrete}
use lib.ListN.{get_elem?}
use Rattle.pac_countdown.specs.Lists.{one_if, same, same_pair, times_in, pair_times, pairs_to, sum_over}

-- the default of an index within a list says nothing
pub inside_default : {A : Type 0} (l : List A) (i : ℕ) (a b : A) → i < length l → get_or l i a ≡ get_or l i b
inside_default [] i a b h = absurd (omega arith)
inside_default (x ∷ xs) zero a b h = refl
inside_default (x ∷ xs) (suc i) a b h = inside_default xs i a b (omega arith)

pub same_yes : (p q : ℕ) → p ≡ q → same p q ≡ 1
same_yes p q e = ap one_if (eq-eqb p q e)

pub same_no : (p q : ℕ) → p ≢ q → same p q ≡ 0
same_no p q n = ap one_if (ne_eqb p q n)

and_yes : (a b : Bool) → a ≡ true → b ≡ true → (a && b) ≡ true
and_yes a b e f = λ i. e i && f i

pub pair_yes : (q : ℕ × ℕ) → same_pair q q ≡ 1
pair_yes q = ap one_if (and_yes (eqb q.0 q.0) (eqb q.1 q.1) (eq-eqb q.0 q.0 refl) (eq-eqb q.1 q.1 refl))

and_left : (a b : Bool) → a ≡ false → (a && b) ≡ false
and_left a b e = λ i. e i && b

and_right : (a b : Bool) → a ≡ true → b ≡ false → (a && b) ≡ false
and_right a b e f = λ i. e i && f i

pub pair_no : (q r : ℕ × ℕ) → q ≢ r → same_pair q r ≡ 0
pair_no q r n = dite (ℕ_discrete q.0 r.0)
    (λ e. ap one_if (and_right (eqb q.0 r.0) (eqb q.1 r.1) (eq-eqb q.0 r.0 e) (ne_eqb q.1 r.1 (λ f. n (λ i. (e i, f i))))))
    (λ m. ap one_if (and_left (eqb q.0 r.0) (eqb q.1 r.1) (ne_eqb q.0 r.0 m)))

pub pair_discrete : (q r : ℕ × ℕ) → Dec (q ≡ r)
pair_discrete q r = dite (ℕ_discrete q.0 r.0)
    (λ e. dite (ℕ_discrete q.1 r.1) (λ f. yes (λ i. (e i, f i))) (λ m. no (λ h. m (λ i. (h i).1))))
    (λ m. no (λ h. m (λ i. (h i).0)))

pub times_snoc : (p : ℕ) (xs : List ℕ) (x : ℕ) → times_in p (xs ++ x ∷ []) ≡ times_in p xs + same p x
times_snoc p [] x = omega arith
times_snoc p (y ∷ ys) x = let r = times_snoc p ys x in omega arith

pub times_append : (p : ℕ) (xs ys : List ℕ) → times_in p (xs ++ ys) ≡ times_in p xs + times_in p ys
times_append p [] ys = omega arith
times_append p (x ∷ xs) ys = let r = times_append p xs ys in omega arith

pub pair_times_append : (q : ℕ × ℕ) (xs ys : List (ℕ × ℕ)) → pair_times q (xs ++ ys) ≡ pair_times q xs + pair_times q ys
pair_times_append q [] ys = omega arith
pair_times_append q (x ∷ xs) ys = let r = pair_times_append q xs ys in omega arith

pub pairs_to_append : (p : ℕ) (xs ys : List (ℕ × ℕ)) → pairs_to p (xs ++ ys) ≡ pairs_to p xs + pairs_to p ys
pairs_to_append p [] ys = omega arith
pairs_to_append p (x ∷ xs) ys = let r = pairs_to_append p xs ys in omega arith

module _ {V : Type 0} where
  pub over_set : (f : V → ℕ) (l : List V) (i : ℕ) (v w : V) → get_elem? l i ≡ some v → sum_over f (set l i w) + f v ≡ sum_over f l + f w
  over_set f [] i v w e = absurd (some-ne-none v (sym e))
  over_set f (x ∷ xs) zero v w e = let is : f x ≡ f v = ap f (some-injective x v e) in omega arith
  over_set f (x ∷ xs) (suc i) v w e = let r = over_set f xs i v w e in omega arith

  pub over_snoc : (f : V → ℕ) (l : List V) (v : V) → sum_over f (l ++ v ∷ []) ≡ sum_over f l + f v
  over_snoc f [] v = omega arith
  over_snoc f (x ∷ xs) v = let r = over_snoc f xs v in omega arith

  pub over_at : (f : V → ℕ) (l : List V) (i : ℕ) (v : V) → get_elem? l i ≡ some v → f v ≤ sum_over f l
  over_at f [] i v e = absurd (some-ne-none v (sym e))
  over_at f (x ∷ xs) zero v e = let is : f x ≡ f v = ap f (some-injective x v e) in omega arith
  over_at f (x ∷ xs) (suc i) v e = let r = over_at f xs i v e in omega arith

  pub over_two : (f : V → ℕ) (l : List V) (i j : ℕ) (v w : V) → i ≢ j → get_elem? l i ≡ some v → get_elem? l j ≡ some w → f v + f w ≤ sum_over f l
  over_two f [] i j v w n e h = absurd (some-ne-none v (sym e))
  over_two f (x ∷ xs) zero zero v w n e h = absurd (n refl)
  over_two f (x ∷ xs) zero (suc j) v w n e h = let is : f x ≡ f v = ap f (some-injective x v e) in let r = over_at f xs j w h in omega arith
  over_two f (x ∷ xs) (suc i) zero v w n e h = let is : f x ≡ f w = ap f (some-injective x w h) in let r = over_at f xs i v e in omega arith
  over_two f (x ∷ xs) (suc i) (suc j) v w n e h = let r = over_two f xs i j v w (λ m. n (ap suc m)) e h in omega arith

  found_next : (f : V → ℕ) (x : V) (xs : List V) → (i : ℕ) × (v : V) × (get_elem? xs i ≡ some v) × (0 < f v) → (i : ℕ) × (v : V) × (get_elem? (x ∷ xs) i ≡ some v) × (0 < f v)
  found_next f x xs r = (suc r.0, r.1, r.2, r.3)

  pub over_find : (f : V → ℕ) (l : List V) → 0 < sum_over f l → (i : ℕ) × (v : V) × (get_elem? l i ≡ some v) × (0 < f v)
  over_find f [] h = absurd (omega arith)
  over_find f (x ∷ xs) h = dite (ℕ_discrete (f x) 0)
      (λ z. found_next f x xs (over_find f xs (omega arith)))
      (λ m. (0, x, refl, omega arith))

  -- the lists of all, joined
  gather : {A : Type 0} → (V → List A) → List V → List A
  gather g [] = []
  gather g (v ∷ vs) = g v ++ gather g vs

  gather_pairs_to : (p : ℕ) (g : V → List (ℕ × ℕ)) (l : List V) → sum_over (λ v. pairs_to p (g v)) l ≡ pairs_to p (gather g l)
  unfolding gather
  gather_pairs_to p g [] = refl
  gather_pairs_to p g (v ∷ vs) = let r = gather_pairs_to p g vs in let s = pairs_to_append p (g v) (gather g vs) in omega arith

  gather_pair_times : (q : ℕ × ℕ) (g : V → List (ℕ × ℕ)) (l : List V) → sum_over (λ v. pair_times q (g v)) l ≡ pair_times q (gather g l)
  unfolding gather
  gather_pair_times q g [] = refl
  gather_pair_times q g (v ∷ vs) = let r = gather_pair_times q g vs in let s = pair_times_append q (g v) (gather g vs) in omega arith

-- zs is ys without one q
record Without (q : ℕ × ℕ) (ys zs : List (ℕ × ℕ)) : Type 0 where
  pub pairs : (r : ℕ × ℕ) → pair_times r ys ≡ same_pair r q + pair_times r zs
  pub laters : (p : ℕ) → pairs_to p ys ≡ same p q.1 + pairs_to p zs

without_next : (q y : ℕ × ℕ) (ys : List (ℕ × ℕ)) → (zs : List (ℕ × ℕ)) × Without q ys zs → (zs : List (ℕ × ℕ)) × Without q (y ∷ ys) zs
without_next q y ys t = (y ∷ t.0, record { pairs = λ r. let h = t.1.pairs r in omega arith; laters = λ p. let h = t.1.laters p in omega arith })

without : (q : ℕ × ℕ) (ys : List (ℕ × ℕ)) → 0 < pair_times q ys → (zs : List (ℕ × ℕ)) × Without q ys zs
without q [] h = absurd (omega arith)
without q (y ∷ ys) h = dite (pair_discrete q y)
    (λ e. (ys, subst (λ z. Without q (z ∷ ys) ys) e (record { pairs = λ r. refl; laters = λ p. refl })))
    (λ m. let none = pair_no q y m in without_next q y ys (without q ys (omega arith)))

-- where each pair of xs stands in ys as often, each piece is the later one of as many
covers : (xs ys : List (ℕ × ℕ)) → ((r : ℕ × ℕ) → pair_times r xs ≤ pair_times r ys) → (p : ℕ) → pairs_to p xs ≤ pairs_to p ys
covers [] ys h p = omega arith
covers (x ∷ xs) ys h p = let one = pair_yes x in let first = h x in let t = without x ys (omega arith) in
    let r = covers xs t.0 (λ (r : ℕ × ℕ). let a = h r in let b = t.1.pairs r in omega arith) p in let l = t.1.laters p in omega arith

module _ {V : Type 0} (g : V → List (ℕ × ℕ)) (pairs : List (ℕ × ℕ)) (l : List V) (once : (r : ℕ × ℕ) → sum_over (λ v. pair_times r (g v)) l ≤ pair_times r pairs) where
  pub within : (p : ℕ) → sum_over (λ v. pairs_to p (g v)) l ≤ pairs_to p pairs
  within p = let all = gather_pairs_to p g l in
      let c = covers (gather g l) pairs (λ (r : ℕ × ℕ). let o = once r in let e = gather_pair_times r g l in omega arith) p in omega arith

  -- where a pair isn't counted yet, one more to its later piece can be
  pub room : (q : ℕ × ℕ) → 0 < pair_times q pairs → sum_over (λ v. pair_times q (g v)) l ≡ 0 → sum_over (λ v. pairs_to q.1 (g v)) l + 1 ≤ pairs_to q.1 pairs
  room q is none = let all = gather_pairs_to q.1 g l in
      let each : (r : ℕ × ℕ) → pair_times r (q ∷ gather g l) ≤ pair_times r pairs = λ (r : ℕ × ℕ). let o = once r in let e = gather_pair_times r g l in
      dite (pair_discrete r q)
      (λ same_one. let z = subst (λ (x : ℕ × ℕ). pair_times x (gather g l) ≡ 0) (sym same_one) (sym (gather_pair_times q g l) ∙ none) in
      let one = subst (λ (x : ℕ × ℕ). same_pair r x ≡ 1) same_one (pair_yes r) in let there = subst (λ (x : ℕ × ℕ). 0 < pair_times x pairs) (sym same_one) is in omega arith)
      (λ other. let z = pair_no r q other in omega arith) in
      let c = covers (q ∷ gather g l) pairs each q.1 in let one = same_yes q.1 q.1 refl in omega arith

-- the same of one later piece
pub covers_at : (p : ℕ) (xs ys : List (ℕ × ℕ)) → ((e : ℕ) → pair_times (e, p) xs ≤ pair_times (e, p) ys) → pairs_to p xs ≤ pairs_to p ys
covers_at p [] ys h = omega arith
covers_at p (x ∷ xs) ys h = dite (ℕ_discrete p x.1)
    (λ same_later. let here : same_pair (x.0, p) x ≡ 1 = ap (λ (k : ℕ). same_pair (x.0, k) x) same_later ∙ pair_yes x in
    let first = h x.0 in let there : pair_times x ys ≡ pair_times (x.0, p) ys = ap (λ (k : ℕ). pair_times (x.0, k) ys) (sym same_later) in
    let t = without x ys (omega arith) in
    let r = covers_at p xs t.0 (λ (e : ℕ). let a = h e in let b = t.1.pairs (e, p) in omega arith) in let l = t.1.laters p in omega arith)
    (λ ne. let none = same_no p x.1 ne in
    let r = covers_at p xs ys (λ (e : ℕ). let a = h e in let z = pair_no (e, p) x (λ (k : (e, p) ≡ x). ne (λ i. (k i).1)) in omega arith) in omega arith)

module _ {V : Type 0} (g : V → List (ℕ × ℕ)) (l : List V) where
  -- where each pair to a piece is counted, as many are counted as there are
  pub all_there : (p : ℕ) (pairs : List (ℕ × ℕ)) → ((e : ℕ) → pair_times (e, p) pairs ≤ sum_over (λ v. pair_times (e, p) (g v)) l) → pairs_to p pairs ≤ sum_over (λ v. pairs_to p (g v)) l
  all_there p pairs h = let a = gather_pairs_to p g l in
      let c = covers_at p pairs (gather g l) (λ (e : ℕ). let o = h e in let b = gather_pair_times (e, p) g l in omega arith) in omega arith
