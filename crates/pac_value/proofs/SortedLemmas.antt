-- What an entry that is set or added makes of sorted entries, and where a search among them ends.
use Rattle.std.proofs.Common.{◌≡◌, ℕ, T, List, [], ◌-◌, ◌<◌, inl, inr, length, get_or, set, Some, None, Result, Ok, Err, IfOk, IfErr, sym, ap, subst, ◌∙◌, arith}
use Rattle.std.specs.List.{insert}
use Rattle.std.specs.List.Sorted.{IsSearchInRange, IsBinarySearchResult}
use Rattle.std.specs.Bool.{Decides}
use Rattle.std.specs.declared.cmp.Ordering.{Ordering}
use Rattle.std.specs.declared.cmp.Ordering.TheVariants.{Less, Equal}
use Rattle.std.specs.Cmp.{IsTotalOrder, tied_itself}
use Rattle.std.specs.FinMap.{IsAntisymmetric, get, put, is_sorted, entries, from_sorted, get-from_sorted, entries-from_sorted, same_map}
use Rattle.std.specs.FinMap as fin
use Rattle.std.proofs.lemmas.Bool.{cases_lt}
use Rattle.std.specs.FinMap.Entries.{is_sorted-put}
use Rattle.pac_value.specs.Sorted.{IsOffsetOf, IsGapFor}
use Rattle.pac_value.proofs.OffsetLemmas.{less_at, rises, put-found, put-gap, find-found, find-gap, from-put}

module _ {K X : Type 0} {R : K → K → Ordering} (total : IsTotalOrder R) where
  -- a binary search ends at the key, or at the gap for it
  pub searched : IsAntisymmetric R → (es : List (K × X)) → T (is_sorted R es) → (k : K) (r : Result ℕ ℕ) → IsSearchInRange r (length es) → IsBinarySearchResult (λ e. R e.0 k) es r
      → IfOk r (IsOffsetOf es k) × IfErr r (IsGapFor R es k)
  searched exact es sorted k (Ok at) in_range equal = (record { within = in_range; same = λ d. exact (get_or es at d).0 k (equal d) }, tt)
  searched exact es sorted k (Err at) in_range parted =
      let ends = parted (rises total es k sorted) in
      (tt, record { within = in_range; lesser = λ j d lt. ends.0 j d (omega arith) lt; greater = ends.1 })

  -- past the last entry of sorted ones is the gap for a key above it
  pub above-gap : (es : List (K × X)) → T (is_sorted R es) → (k : K) → ((d : K × X) → R (get_or es (length es - 1) d).0 k ≡ Less) → IsGapFor R es k (length es)
  above-gap es sorted k above = record { within = omega arith; lesser = before; greater = λ j d le lt. absurd (omega arith) } where
    before : (j : ℕ) (d : K × X) → j < length es → R (get_or es j d).0 k ≡ Less
    before j d lt = elim (cases_lt j (length es - 1)) [
      | inl earlier ↦ total.trans (get_or es j d).0 (get_or es (length es - 1) d).0 k (less_at total es j (length es - 1) d sorted earlier (omega arith)) (above d)
      | inr last ↦ let is : j ≡ length es - 1 = omega arith in subst (λ n. R (get_or es n d).0 k ≡ Less) (sym is) (above d)
    ]

  module _ (es : List (K × X)) (sorted : T (is_sorted R es)) (k : K) (at : ℕ) where
    module _ (offset : IsOffsetOf es k at) (d : K × X) where
      ties : R (get_or es at d).0 k ≡ Equal
      ties = subst (λ (q : K). R q k ≡ Equal) (sym (offset.same d)) (tied_itself total k)

      set-put : (x : X) → set es at ((get_or es at d).0, x) ≡ put R k x es
      set-put x = sym (put-found total k x es at d sorted offset.within ties)

      pub found-sorted : (x : X) → T (is_sorted R (set es at ((get_or es at d).0, x)))
      found-sorted x = subst (λ (fs : List (K × X)). T (is_sorted R fs)) (sym (set-put x)) (is_sorted-put R total k x es sorted)

      pub found-map : (x : X) → from_sorted {R = R} (set es at ((get_or es at d).0, x)) ≡ fin.insert (from_sorted es) k x
      found-map x = ap from_sorted (set-put x) ∙ from-put total es k x sorted

      pub found-get : get {R = R} (from_sorted es) k ≡ Some (get_or es at d).1
      found-get = get-from_sorted R es k sorted ∙ find-found total k es at d sorted offset.within ties

    module _ (gap : IsGapFor R es k at) where
      insert-put : (x : X) → insert es at (k, x) ≡ put R k x es
      insert-put x = sym (put-gap total k x es at gap.within gap.lesser gap.greater)

      pub gap-sorted : (x : X) → T (is_sorted R (insert es at (k, x)))
      gap-sorted x = subst (λ (fs : List (K × X)). T (is_sorted R fs)) (sym (insert-put x)) (is_sorted-put R total k x es sorted)

      pub gap-map : (x : X) → from_sorted {R = R} (insert es at (k, x)) ≡ fin.insert (from_sorted es) k x
      gap-map x = ap from_sorted (insert-put x) ∙ from-put total es k x sorted

      pub gap-get : get {R = R} (from_sorted es) k ≡ None
      gap-get = get-from_sorted R es k sorted ∙ find-gap total k es at gap.lesser gap.greater

-- a test that tells sorted entries apart tells their maps apart
pub sorted_decide : {K X : Type 0} {R : K → K → Ordering} (es fs : List (K × X)) → T (is_sorted R es) → T (is_sorted R fs) → (r : _) → Decides r (es ≡ fs) → Decides r (from_sorted {R = R} es ≡ from_sorted fs)
sorted_decide {R = R} es fs first second r d =
    (λ h. ap (from_sorted {R = R}) (d.0 h), λ e. d.1 (sym (entries-from_sorted R es first) ∙ ap entries e ∙ entries-from_sorted R fs second))

-- no entries are the map without any
pub no-entries : {K X : Type 0} {R : K → K → Ordering} → IsTotalOrder R → IsAntisymmetric R → from_sorted {X = X} {R = R} [] ≡ fin.empty
no-entries {R = R} total exact = same_map total exact _ _ (λ q. get-from_sorted R [] q tt ∙ sym (fin.get-empty R q))
