-- Where a key stands among sorted entries, and what an entry that is set or added there makes of their map.
use Rattle.std.proofs.Common.{◌≡◌, ◌<◌, ◌≤◌, ℕ, zero, suc, ◌&&◌, Bool, true, false, cond, T, List, [], ◌∷◌, length, get_or, set, Some, None, inl, inr, refl, sym, ap, subst, ◌∙◌, arith}
use Rattle.std.specs.List.{insert}
use Rattle.std.specs.List.Sorted.{IsNonDecreasingBy}
use Rattle.std.specs.declared.cmp.Ordering.{Ordering}
use Rattle.std.specs.declared.cmp.Ordering.TheVariants.{Less, Equal, Greater}
use Rattle.std.specs.Cmp.{IsTotalOrder, alike_right}
use Rattle.std.specs.Ordering.{is_lt, is_eq, ordering_reverse, ordering_index}
use Rattle.std.specs.FinMap.{find, put, is_sorted, from_sorted, entries-from_sorted, entries-insert, same_entries_map}
use Rattle.std.specs.FinMap as fin
use Rattle.std.specs.FinMap.Entries.{by_order, below_all, is_sorted-put}
use Rattle.std.proofs.lemmas.Bool.{cases_lt}

first : (a b : Bool) → T (a && b) → T a
first true b p = tt
first false b p = p

second : (a b : Bool) → T (a && b) → T b
second true b p = p
second false b p = absurd p

less : (r : Ordering) → T (is_lt r) → r ≡ Less
less Less p = refl
less Equal p = absurd p
less Greater p = absurd p

-- what is less than something less does not come after
rising : (a b : Ordering) → (b ≡ Less → a ≡ Less) → (b ≡ Equal → a ≡ Less) → ordering_index a ≤ ordering_index b
rising Less b l e = omega arith
rising Equal Less l e = absurd (cc (l refl))
rising Equal Equal l e = omega arith
rising Equal Greater l e = omega arith
rising Greater Less l e = absurd (cc (l refl))
rising Greater Equal l e = absurd (cc (e refl))
rising Greater Greater l e = omega arith

module _ {K : Type 0} {R : K → K → Ordering} (o : IsTotalOrder R) where
  pub flipped-Less : (x k : K) → R x k ≡ Less → R k x ≡ Greater
  flipped-Less x k e = o.antisymm k x ∙ ap ordering_reverse e

  pub flipped-Greater : (x k : K) → R x k ≡ Greater → R k x ≡ Less
  flipped-Greater x k e = o.antisymm k x ∙ ap ordering_reverse e

  pub flipped-Equal : (x k : K) → R x k ≡ Equal → R k x ≡ Equal
  flipped-Equal x k e = o.antisymm k x ∙ ap ordering_reverse e

module _ {K X : Type 0} {R : K → K → Ordering} (o : IsTotalOrder R) where
  pub below_at : (k : K) (es : List (K × X)) (j : ℕ) (d : K × X) → T (below_all R k es) → j < length es → R k (get_or es j d).0 ≡ Less
  below_at k [] j d h lt = absurd (omega arith)
  below_at k (e ∷ es) zero d h lt = less _ (first _ _ h)
  below_at k (e ∷ es) (suc j) d h lt = below_at k es j d (second _ _ h) (omega arith)

  -- an earlier entry is less than a later one
  pub less_at : (es : List (K × X)) (i j : ℕ) (d : K × X) → T (is_sorted R es) → i < j → j < length es → R (get_or es i d).0 (get_or es j d).0 ≡ Less
  less_at [] i j d h lt within = absurd (omega arith)
  less_at (e ∷ es) zero zero d h lt within = absurd (omega arith)
  less_at (e ∷ es) zero (suc j) d h lt within = below_at e.0 es j d (first _ _ h) (omega arith)
  less_at (e ∷ es) (suc i) zero d h lt within = absurd (omega arith)
  less_at (e ∷ es) (suc i) (suc j) d h lt within = less_at es i j d (second _ _ h) (omega arith) (omega arith)

  -- compared with a key the entries rise, as a binary search asks
  pub rises : (es : List (K × X)) (k : K) → T (is_sorted R es) → IsNonDecreasingBy (λ e. ordering_index (R e.0 k)) es
  rises es k h i j d le within = elim (cases_lt i j) [
    | inl lt ↦ rising (R (get_or es i d).0 k) (R (get_or es j d).0 k)
        (λ e. o.trans (get_or es i d).0 (get_or es j d).0 k (less_at es i j d h lt within) e)
        (λ e. sym (alike_right o (get_or es j d).0 k (get_or es i d).0 e) ∙ less_at es i j d h lt within)
    | inr ge ↦ let same : i ≡ j = omega arith in subst (λ n. ordering_index (R (get_or es i d).0 k) ≤ ordering_index (R (get_or es n d).0 k)) same (omega arith)
  ]

  -- an entry at a key that stands there
  module _ (k : K) (v : X) where
    pub put-found : (es : List (K × X)) (at : ℕ) (d : K × X) → T (is_sorted R es) → at < length es → R (get_or es at d).0 k ≡ Equal → put R k v es ≡ set es at ((get_or es at d).0, v)
    put-found [] at d h lt e = absurd (omega arith)
    put-found (x ∷ es) zero d h lt e = ap (λ r. by_order r ((k, v) ∷ x ∷ es) ((x.0, v) ∷ es) (x ∷ put R k v es)) (flipped-Equal o x.0 k e)
    put-found (x ∷ es) (suc at) d h lt e =
        let before : R x.0 k ≡ Less = sym (alike_right o (get_or es at d).0 k x.0 e) ∙ less_at (x ∷ es) zero (suc at) d h (omega arith) lt in
        ap (λ r. by_order r ((k, v) ∷ x ∷ es) ((x.0, v) ∷ es) (x ∷ put R k v es)) (flipped-Less o x.0 k before)
        ∙ ap (λ (fs : List (K × X)). x ∷ fs) (put-found es at d (second _ _ h) (omega arith) e)

    pub put-gap : (es : List (K × X)) (at : ℕ) → at ≤ length es → ((j : ℕ) (d : K × X) → j < at → R (get_or es j d).0 k ≡ Less) → ((j : ℕ) (d : K × X) → at ≤ j → j < length es → R (get_or es j d).0 k ≡ Greater) → put R k v es ≡ insert es at (k, v)
    put-gap [] zero le before after = refl
    put-gap [] (suc at) le before after = absurd (omega arith)
    put-gap (x ∷ es) zero le before after = ap (λ r. by_order r ((k, v) ∷ x ∷ es) ((x.0, v) ∷ es) (x ∷ put R k v es)) (flipped-Greater o x.0 k (after zero x (omega arith) (omega arith)))
    put-gap (x ∷ es) (suc at) le before after =
        ap (λ r. by_order r ((k, v) ∷ x ∷ es) ((x.0, v) ∷ es) (x ∷ put R k v es)) (flipped-Less o x.0 k (before zero x (omega arith)))
        ∙ ap (λ (fs : List (K × X)). x ∷ fs) (put-gap es at (omega arith) (λ j d lt. before (suc j) d (omega arith)) (λ j d lo hi. after (suc j) d (omega arith) (omega arith)))

  pub find-found : (k : K) (es : List (K × X)) (at : ℕ) (d : K × X) → T (is_sorted R es) → at < length es → R (get_or es at d).0 k ≡ Equal → find R k es ≡ Some (get_or es at d).1
  find-found k [] at d h lt e = absurd (omega arith)
  find-found k (x ∷ es) zero d h lt e = ap (λ r. cond (is_eq r) (Some x.1) (find R k es)) (flipped-Equal o x.0 k e)
  find-found k (x ∷ es) (suc at) d h lt e =
      let before : R x.0 k ≡ Less = sym (alike_right o (get_or es at d).0 k x.0 e) ∙ less_at (x ∷ es) zero (suc at) d h (omega arith) lt in
      ap (λ r. cond (is_eq r) (Some x.1) (find R k es)) (flipped-Less o x.0 k before) ∙ find-found k es at d (second _ _ h) (omega arith) e

  pub find-gap : (k : K) (es : List (K × X)) (at : ℕ) → ((j : ℕ) (d : K × X) → j < at → R (get_or es j d).0 k ≡ Less) → ((j : ℕ) (d : K × X) → at ≤ j → j < length es → R (get_or es j d).0 k ≡ Greater) → find R k es ≡ None
  find-gap k [] at before after = refl
  find-gap k (x ∷ es) zero before after =
      ap (λ r. cond (is_eq r) (Some x.1) (find R k es)) (flipped-Greater o x.0 k (after zero x (omega arith) (omega arith)))
      ∙ find-gap k es zero (λ j d lt. absurd (omega arith)) (λ j d lo hi. after (suc j) d (omega arith) (omega arith))
  find-gap k (x ∷ es) (suc at) before after =
      ap (λ r. cond (is_eq r) (Some x.1) (find R k es)) (flipped-Less o x.0 k (before zero x (omega arith)))
      ∙ find-gap k es at (λ j d lt. before (suc j) d (omega arith)) (λ j d lo hi. after (suc j) d (omega arith) (omega arith))

  -- the map of the entries with one more
  pub from-put : (es : List (K × X)) (k : K) (v : X) → T (is_sorted R es) → from_sorted {R = R} (put R k v es) ≡ fin.insert (from_sorted es) k v
  from-put es k v h = same_entries_map _ _ (
      entries-from_sorted R (put R k v es) (is_sorted-put R o k v es h)
      ∙ ap (put R k v) (sym (entries-from_sorted R es h))
      ∙ sym (entries-insert o (from_sorted es) k v))
