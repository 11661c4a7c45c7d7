-- What stands in a list of sets, and what is kept of each.
use Rattle.std.proofs.Common.{◌≡◌, ◌<◌, ℕ, suc, Bool, true, false, cond, T, List, [], ◌∷◌, length, get_or, Option, Some, None, refl, sym, ap, subst, ◌∙◌}
use Rattle.std.specs.Prelude.{slice_get}
use Rattle.std.specs.declared.cmp.Ordering.{Ordering}
use Rattle.std.specs.declared.cmp.Ordering.TheVariants.{Less, Equal, Greater}
use Rattle.std.specs.Ordering.{eq_by_cmp}
use Rattle.std.specs.Cmp.{Equal-is, tied_itself}
use Rattle.std.proofs.lemmas.Bool.{cases_lt}
use Rattle.std.proofs.Common.{◌⊎◌, ◌≤◌, inl, inr}
use Rattle.pac_base.proofs.ItemLemmas.{item_at}
use Rattle.std.specs.FinMap.{IsAntisymmetric, find, get, from_sorted, get-from_sorted, is_sorted}
use Rattle.std.proofs.lemmas.Option.{slice_get_within, get_or_from_slice_get}
use Rattle.pac_value.specs.Sorted.{IsOffsetOf, IsGapFor}
use Rattle.pac_value.proofs.SortedLemmas.{found-get, gap-get}
use Rattle.pac_value.proofs.OffsetLemmas.{less_at}
use Rattle.pac_sets.specs.declared.set_id.SetId.{SetId}
use Rattle.pac_sets.specs.SetOrder.{set_cmp}
use Rattle.pac_sets.specs.Sets.{Kept, IsSetAt, flattened, kept_of}
use Rattle.pac_sets.proofs.OrderLemmas.{sets_total, sets_antisymmetric}

-- what is found of a key stands beside it
find_place : {K X : Type 0} {R : K → K → Ordering} → IsAntisymmetric R → (k : K) (es : List (K × X)) (x : X) → find R k es ≡ Some x → (i : ℕ) × (slice_get es i ≡ Some (k, x))
find_place exact k [] x h = absurd (cc h)
find_place {K = K} {X = X} {R = R} exact k (e ∷ es) x h = go (eq_by_cmp R k e.0) refl h (λ g. find_place exact k es x g)
  where
    go : (b : Bool) → eq_by_cmp R k e.0 ≡ b → cond b (Some e.1) (find R k es) ≡ Some x → (find R k es ≡ Some x → (i : ℕ) × (slice_get es i ≡ Some (k, x))) → (i : ℕ) × (slice_get (e ∷ es) i ≡ Some (k, x))
    go true tie is rest =
        let key : k ≡ e.0 = exact k e.0 ((Equal-is (R k e.0)).0 tie) in
        let value : e.1 ≡ x = cc is in
        (0, λ i. Some (sym key i, value i))
    go false tie is rest = let found = rest is in (suc found.0, found.1)

module _ {P : Type 0} (sets : List (Kept P)) (sorted : T (is_sorted set_cmp sets)) where
  -- of a set that stands in the list, what stands beside it is kept
  pub kept_there : (j : ℕ) (set : SetId) (p : Option P) → slice_get sets j ≡ Some (set, p) → kept_of set sets ≡ p
  kept_there j set p there =
      let within : j < length sets = slice_get_within sets j (set, p) there in
      let is = λ (d : Kept P). get_or_from_slice_get sets j (set, p) d there in
      let offset : IsOffsetOf sets set j = record { within = within; same = λ d. ap (λ (e : Kept P). e.0) (is d) } in
      ap flattened (found-get sets_total sets sorted set j offset (set, p) ∙ ap (λ (e : Kept P). Some e.1) (is (set, p)))

  -- the same where a search ended at the set
  pub kept_offset : (set : SetId) (j : ℕ) → IsOffsetOf sets set j → (d : Kept P) → kept_of set sets ≡ (get_or sets j d).1
  kept_offset set j offset d = ap flattened (found-get sets_total sets sorted set j offset d)

  -- and where it ended at a gap, nothing is kept
  pub kept_gap : (set : SetId) (j : ℕ) → IsGapFor set_cmp sets set j → kept_of set sets ≡ None
  kept_gap set j gap = ap flattened (gap-get sets_total sets sorted set j gap)

  -- what is kept of a set stands in the list
  pub there_kept : (set : SetId) (p : P) → kept_of set sets ≡ Some p → (j : ℕ) × (slice_get sets j ≡ Some (set, Some p))
  there_kept set p kept = go (get (from_sorted sets) set) refl kept
    where
      go : (r : Option (Option P)) → get (from_sorted {R = set_cmp} sets) set ≡ r → flattened r ≡ Some p → (j : ℕ) × (slice_get sets j ≡ Some (set, Some p))
      go None is h = absurd (cc h)
      go (Some r) is h = find_place sets_antisymmetric set sets (Some p) (sym (get-from_sorted set_cmp sets set sorted) ∙ is ∙ ap Some h)

  -- an earlier set is less than a later one
  pub less_there : (i j : ℕ) (a b : Kept P) → slice_get sets i ≡ Some a → slice_get sets j ≡ Some b → i < j → set_cmp a.0 b.0 ≡ Less
  less_there i j a b first second lt =
      let within : j < length sets = slice_get_within sets j b second in
      let less = less_at sets_total sets i j a sorted lt within in
      subst (λ (x : Kept P). set_cmp a.0 x.0 ≡ Less) (get_or_from_slice_get sets j b a second)
      (subst (λ (x : Kept P). set_cmp x.0 (get_or sets j a).0 ≡ Less) (get_or_from_slice_get sets i a a first) less)

  -- a set that stands in the list is found there
  pub at_offset : (set : SetId) (at : ℕ) → IsOffsetOf sets set at → IsSetAt sets set at
  at_offset set at offset = go (item_at sets at offset.within)
    where
      go : (e : Kept P) × (slice_get sets at ≡ Some e) → IsSetAt sets set at
      go (e, there) = let same : e.0 ≡ set = ap (λ (x : Kept P). x.0) (sym (get_or_from_slice_get sets at e e there)) ∙ offset.same e in
          (e.1, there ∙ (λ i. Some (same i, e.1)))

  -- and one for which there is a gap stands nowhere
  pub no_offset : (set : SetId) (gap_at : ℕ) → IsGapFor set_cmp sets set gap_at → (at : ℕ) → IsSetAt sets set at → ⊥
  no_offset set gap_at gap at (kept, there) = go (cases_lt at gap_at)
    where
      tie : set_cmp set set ≡ Equal
      tie = tied_itself sets_total set

      go : (at < gap_at) ⊎ (gap_at ≤ at) → ⊥
      go (inl before) =
          let less = gap.lesser at (set, kept) before in
          let own : set_cmp set set ≡ Less = subst (λ (e : Kept P). set_cmp e.0 set ≡ Less) (get_or_from_slice_get sets at (set, kept) (set, kept) there) less in
          cc (own, tie)
      go (inr after) =
          let more = gap.greater at (set, kept) after (slice_get_within sets at (set, kept) there) in
          let own : set_cmp set set ≡ Greater = subst (λ (e : Kept P). set_cmp e.0 set ≡ Greater) (get_or_from_slice_get sets at (set, kept) (set, kept) there) more in
          cc (own, tie)
