-- A sorted list of pairs without those that stand twice ascends, and has the same pairs.
use Rattle.std.proofs.Common.{◌≡◌, ℕ, Bool, true, ◌&&◌, ◌==◌, List, [], ◌∷◌, refl, sym, ap, ap₂, ◌∙◌, subst, inl, inr, arith}
use Rattle.std.specs.Prelude.{Contains}
use Rattle.std.specs.declared.cmp.Ordering.{Ordering}
use Rattle.std.specs.declared.cmp.Ordering.TheVariants.{Less, Equal, Greater}
use Rattle.std.specs.Ordering.{nat_cmp, is_eq, eq_by_cmp, ordering_then}
use Rattle.std.specs.Cmp.{IsTotalOrder, IsEquivalence, nat_cmp_total, Equal-is, tied_itself, both_ways}
use Rattle.std.specs.List.{dedup}
use Rattle.std.specs.List.Sorted.{IsSorted, IsStrictlySortedBy}
use Rattle.std.proofs.lemmas.Cmp.{on_total, then_total, ranked, eq_by_cmp_equiv}
use Rattle.std.proofs.lemmas.List.Elements.{All-from_recursion, All-weaker}
use Rattle.std.proofs.lemmas.List.Kept.{AllPairs-cons, IsStrictlySortedBy-dedup, Contains-dedup, Contains-from_dedup}
use Rattle.std.proofs.lemmas.Map.Lookups.{exact_pairs, exact_unsigned}
use Rattle.pac_base.proofs.TestLemmas.{and_left, and_right, and_both, same_number, equal_number}
use Rattle.pac_graph.specs.Groups.{IsPairBelow, ArePairsAscending}

abbrev pub pair_cmp : ℕ × ℕ → ℕ × ℕ → Ordering
pair_cmp p q = ordering_then (nat_cmp p.0 q.0) (nat_cmp p.1 q.1)

abbrev pub pair_eq : ℕ × ℕ → ℕ × ℕ → Bool
pair_eq p q = p.0 == q.0 && p.1 == q.1

pairs_total : IsTotalOrder pair_cmp
pairs_total = then_total (on_total (λ (p : ℕ × ℕ). p.0) nat_cmp_total) (on_total (λ (p : ℕ × ℕ). p.1) nat_cmp_total)

one_pair : (p q : ℕ × ℕ) → pair_eq p q ≡ true → p ≡ q
one_pair p q h = ap₂ (λ a b. (a, b)) (same_number p.0 q.0 (and_left (p.0 == q.0) (p.1 == q.1) h)) (same_number p.1 q.1 (and_right (p.0 == q.0) (p.1 == q.1) h))

tied : (p q : ℕ × ℕ) → p ≡ q → eq_by_cmp pair_cmp p q ≡ true
tied p q e = subst (λ r. eq_by_cmp pair_cmp p r ≡ true) e (ap is_eq (tied_itself pairs_total p))

ties : (p q : ℕ × ℕ) → pair_eq p q ≡ eq_by_cmp pair_cmp p q
ties p q = both_ways (pair_eq p q) (eq_by_cmp pair_cmp p q)
    (λ h. tied p q (one_pair p q h))
    (λ h. let e = exact_pairs nat_cmp nat_cmp exact_unsigned exact_unsigned p q ((Equal-is (pair_cmp p q)).0 h) in
    and_both (p.0 == q.0) (p.1 == q.1) (equal_number p.0 q.0 (ap (λ r. r.0) e)) (equal_number p.1 q.1 (ap (λ r. r.1) e)))

pairs_equiv : IsEquivalence pair_eq
pairs_equiv = record {
  refl = λ p. and_both (p.0 == p.0) (p.1 == p.1) (equal_number p.0 p.0 refl) (equal_number p.1 p.1 refl);
  symm = λ p q. ties p q ∙ (eq_by_cmp_equiv pairs_total).symm p q ∙ sym (ties q p);
  congr = λ p q r h. ties p r ∙ (eq_by_cmp_equiv pairs_total).congr p q r (sym (ties p q) ∙ h) ∙ sym (ties q r);
}

less : (p q : ℕ × ℕ) → pair_cmp p q ≡ Less → IsPairBelow p q
less p q h = go (nat_cmp p.0 q.0) (nat_cmp p.1 q.1) refl refl h
  where
    go : (o r : Ordering) → o ≡ nat_cmp p.0 q.0 → r ≡ nat_cmp p.1 q.1 → ordering_then o r ≡ Less → IsPairBelow p q
    go Less r e f h = inl (ranked p.0 q.0 Less e)
    go Equal Less e f h = inr (ranked p.0 q.0 Equal e, ranked p.1 q.1 Less f)
    go Equal Equal e f h = cc
    go Equal Greater e f h = cc
    go Greater r e f h = cc

strict : (pairs : List (ℕ × ℕ)) → IsStrictlySortedBy pair_cmp pairs → ArePairsAscending pairs
unfolding IsStrictlySortedBy
strict [] up = λ i j d lt within. absurd (omega (arith, within))
strict (p ∷ ps) up = AllPairs-cons IsPairBelow p ps (All-weaker _ _ (λ q h. less p q h) ps (All-from_recursion (λ q. pair_cmp p q ≡ Less) ps up.0)) (strict ps up.1)

module _ (sorted : List (ℕ × ℕ)) (order : IsSorted pair_cmp sorted) where
  pub ascends : ArePairsAscending (dedup pair_eq sorted)
  ascends = strict (dedup pair_eq sorted) (IsStrictlySortedBy-dedup pairs_total {E = pair_eq} ties sorted order)

  pub kept : (p : ℕ × ℕ) → Contains sorted p → Contains (dedup pair_eq sorted) p
  kept p h = Contains-dedup pairs_equiv one_pair sorted p h

  pub from : (p : ℕ × ℕ) → Contains (dedup pair_eq sorted) p → Contains sorted p
  from p h = Contains-from_dedup pair_eq sorted p h
