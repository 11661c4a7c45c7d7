-- Pairs that are added in two steps, and counts of them.
use Rattle.std.proofs.Common.{ℕ, ◌+◌, ◌≤◌, ◌↔◌, List, ◌⊎◌, inl, inr, subst, arith}
use Rattle.std.specs.Prelude.{Contains}
use Rattle.std.proofs.lemmas.Bool.{cases_eq}
use Rattle.pac_batch.specs.declared.queues.Queued.{Queued}
use Rattle.pac_batch.specs.Queues.{entry, AreJoinedAt, AreJoinedBelow, IsPairOf, IsPairSince, ArePairsAdded}

-- two steps are one
pub added_then : (a b c : List (ℕ × ℕ)) (P Q R : ℕ → ℕ → Type 0) → ((i j : ℕ) → P i j → R i j) → ((i j : ℕ) → Q i j → R i j) → ((i j : ℕ) → R i j → P i j ⊎ Q i j)
    → ArePairsAdded a b P → ArePairsAdded b c Q → ArePairsAdded a c R
added_then a b c P Q R left right split first second = record {
  kept = λ i j h. second.kept i j (first.kept i j h);
  added = λ i j r. elim (split i j r) [ inl p ↦ second.kept i j (first.added i j p) | inr q ↦ second.added i j q ];
  only = λ i j h. elim (second.only i j h) [
    | inl old ↦ elim (first.only i j old) [ inl older ↦ inl older | inr p ↦ inr (left i j p) ]
    | inr q ↦ inr (right i j q)
  ];
}

-- the same pairs, told otherwise
pub added_as : (a b : List (ℕ × ℕ)) (P Q : ℕ → ℕ → Type 0) → ((i j : ℕ) → P i j → Q i j) → ((i j : ℕ) → Q i j → P i j) → ArePairsAdded a b P → ArePairsAdded a b Q
added_as a b P Q to from added = record {
  kept = added.kept;
  added = λ i j q. added.added i j (from i j q);
  only = λ i j h. elim (added.only i j h) [ inl old ↦ inl old | inr p ↦ inr (to i j p) ];
}

-- nothing was added
pub added_none : (a : List (ℕ × ℕ)) (P : ℕ → ℕ → Type 0) → ((i j : ℕ) → P i j → ⊥) → ArePairsAdded a a P
added_none a P none = record { kept = λ i j h. h; added = λ i j p. absurd (none i j p); only = λ i j h. inl h }

-- the pairs of one entry more
pub added_more : (queued : List Queued) (start p end : ℕ) (a b c : List (ℕ × ℕ)) → start ≤ p
    → ArePairsAdded a b (IsPairSince queued start p end) → ArePairsAdded b c (IsPairOf (entry queued p) (entry queued end)) → ArePairsAdded a c (IsPairSince queued start (p + 1) end)
added_more queued start p end a b c le = added_then a b c (IsPairSince queued start p end) (IsPairOf (entry queued p) (entry queued end)) (IsPairSince queued start (p + 1) end)
    (λ i j (q, from, to, pair). (q, from, omega (arith, to), pair))
    (λ i j pair. (p, le, omega arith, pair))
    (λ i j (q, from, to, pair). elim (cases_eq q p) [
      | inl e ↦ inr (subst (λ k. IsPairOf (entry queued k) (entry queued end) i j) e pair)
      | inr ne ↦ inl (q, from, omega (arith, to, ne), pair)
    ])

-- the pairs below one position more
pub below_next : (queued : List Queued) (end : ℕ) (old new : List (ℕ × ℕ)) → ((i j : ℕ) → Contains old (i, j) ↔ AreJoinedBelow queued end i j)
    → ArePairsAdded old new (AreJoinedAt queued end) → (i j : ℕ) → Contains new (i, j) ↔ AreJoinedBelow queued (end + 1) i j
below_next queued end old new are added i j = (
  (λ h. elim (added.only i j h) [ inl before ↦ let b = (are i j).0 before in let lt = b.1 in (b.0, omega (arith, lt), b.2) | inr at ↦ (end, omega arith, at) ]),
  (λ (q, lt, at). elim (cases_eq q end) [
    | inl e ↦ added.added i j (subst (λ k. AreJoinedAt queued k i j) e at)
    | inr ne ↦ added.kept i j ((are i j).1 (q, omega (arith, lt, ne), at))
  ]),
)
