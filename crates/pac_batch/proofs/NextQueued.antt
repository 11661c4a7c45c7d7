-- Next pairs of accesses are those of entries that are next to each other in a queue.
use Rattle.std.proofs.Common.{◌≡◌, ℕ, zero, suc, ◌<◌, ◌≤◌, Bool, true, false, ◌&&◌, ◌||◌, ◌==◌, ◌↔◌, List, length, Option, Some, None, refl, sym, ap, ◌∙◌, subst, ◌⊎◌, inl, inr, ⊎_elim, arith, IsPermutation}
use Rattle.std.specs.Ordering.{is_eq}
use Rattle.std.specs.Cmp.{Equal-is}
use Rattle.std.proofs.lemmas.Bool.{cases_eq, cases_lt}
use Rattle.pac_base.proofs.TestLemmas.{or_left, or_right, or_cases, and_left, and_right, and_both, same_number, equal_number, not_false, unlike}
use Rattle.pac_value.specs.State.{Cell}
use Rattle.pac_plan.specs.declared.access.Access.{Access}
use Rattle.pac_plan.specs.NextPairs.{NoneBetween, IsNextPair}
use Rattle.pac_batch.specs.declared.queues.Queued.{Queued}
use Rattle.pac_batch.specs.Conflicts.{access_in}
use Rattle.pac_batch.specs.Queues.{queued_all, stands_in, writes_in, entry, AreInOrder, AreJoined, AreJoinedBelow}
use Rattle.pac_batch.proofs.QueueOrder.{row_cmp, tied_rows, same_rows}
use Rattle.pac_batch.proofs.QueueMembers.{member, placed, written}

-- ---- the first and the last that pass a test

pub last_such : (test : ℕ → Bool) (n p : ℕ) → p < n → test p ≡ true → (q : ℕ) × (q < n) × (test q ≡ true) × ((m : ℕ) → q < m → m < n → test m ≡ false)
last_such test zero p lt h = absurd (omega (arith, lt))
last_such test (suc n) p lt h = go (last_such test n) (test n) refl
  where
    go : ((k : ℕ) → k < n → test k ≡ true → (q : ℕ) × (q < n) × (test q ≡ true) × ((m : ℕ) → q < m → m < n → test m ≡ false)) → (b : Bool) → test n ≡ b
        → (q : ℕ) × (q < suc n) × (test q ≡ true) × ((m : ℕ) → q < m → m < suc n → test m ≡ false)
    go below true t = (n, omega arith, t, λ m above under. absurd (omega (arith, above, under)))
    go below false t = elim (cases_eq p n) [
      | inl e ↦ absurd (not_false (test n) t (ap test (sym e) ∙ h))
      | inr ne ↦
          let rest = below p (omega (arith, lt, ne)) h in
          let within = rest.1 in
          (rest.0, omega (arith, within), rest.2, λ m above under. elim (cases_eq m n) [ inl e ↦ ap test e ∙ t | inr other ↦ rest.3 m above (omega (arith, under, other)) ])
    ]

-- one below n passes, and none before it, or none below n does
first_below : (test : ℕ → Bool) (n : ℕ) → ((q : ℕ) × (q < n) × (test q ≡ true) × ((m : ℕ) → m < q → test m ≡ false)) ⊎ ((m : ℕ) → m < n → test m ≡ false)
first_below test zero = inr (λ m lt. absurd (omega (arith, lt)))
first_below test (suc n) = elim (first_below test n) [
  | inl found ↦ let within = found.1 in inl (found.0, omega (arith, within), found.2, found.3)
  | inr none ↦ go none (test n) refl
]
  where
    go : ((m : ℕ) → m < n → test m ≡ false) → (b : Bool) → test n ≡ b → ((q : ℕ) × (q < suc n) × (test q ≡ true) × ((m : ℕ) → m < q → test m ≡ false)) ⊎ ((m : ℕ) → m < suc n → test m ≡ false)
    go none true t = inl (n, omega arith, t, none)
    go none false t = inr (λ m lt. elim (cases_eq m n) [ inl e ↦ ap test e ∙ t | inr ne ↦ none m (omega (arith, lt, ne)) ])

pub first_such : (test : ℕ → Bool) (p : ℕ) → test p ≡ true → (q : ℕ) × (q ≤ p) × (test q ≡ true) × ((m : ℕ) → m < q → test m ≡ false)
first_such test p h = elim (first_below test (suc p)) [
  | inl found ↦ let within = found.1 in (found.0, omega (arith, within), found.2, found.3)
  | inr none ↦ absurd (not_false (test p) (none p (omega arith)) h)
]

-- ---- a queue of its own for the block

-- some queue has both, one of which modifies, with no modification between
abbrev pub InQueue : (ℕ → Access) → ℕ → ℕ → Type 0
InQueue at i j = (r : Option Cell) × (stands_in (at i) r ≡ true) × (stands_in (at j) r ≡ true) × ((writes_in (at i) r || writes_in (at j) r) ≡ true) × NoneBetween (λ m. writes_in (at m) r) i j

in_queue : (at : ℕ → Access) (i j : ℕ) → IsNextPair at i j → InQueue at i j
in_queue at i j (lt, inl (a, one, other, w, none)) = (Some a, one, other, w, none)
in_queue at i j (lt, inr (w, none)) = (None, refl, refl, w, none)

is_next : (at : ℕ → Access) (i j : ℕ) → i < j → InQueue at i j → IsNextPair at i j
is_next at i j lt (Some a, one, other, w, none) = (lt, inl (a, one, other, w, none))
is_next at i j lt (None, one, other, w, none) = (lt, inr (w, none))

-- ---- entries

module _ (accesses : List Access) (queued : List Queued) (moved : IsPermutation (queued_all accesses) queued) (order : AreInOrder queued) where
  abbrev row : ℕ → Option Cell
  row p = (entry queued p).row

  abbrev index : ℕ → ℕ
  index p = (entry queued p).index

  abbrev writes : ℕ → Bool
  writes p = (entry queued p).is_write

  abbrev at : ℕ → Access
  at = access_in accesses

  -- an entry of an access in a queue
  of_access : Option Cell → ℕ → ℕ → Bool
  of_access r i p = is_eq (row_cmp (row p) r) && index p == i

  is_of : (r : Option Cell) (i p : ℕ) → row p ≡ r → index p ≡ i → of_access r i p ≡ true
  unfolding of_access
  is_of r i p e f = and_both (is_eq (row_cmp (row p) r)) (index p == i) (ap is_eq (same_rows (row p) r e)) (equal_number (index p) i f)

  of_row : (r : Option Cell) (i p : ℕ) → of_access r i p ≡ true → row p ≡ r
  unfolding of_access
  of_row r i p h = tied_rows (row p) r ((Equal-is (row_cmp (row p) r)).0 (and_left (is_eq (row_cmp (row p) r)) (index p == i) h))

  of_index : (r : Option Cell) (i p : ℕ) → of_access r i p ≡ true → index p ≡ i
  unfolding of_access
  of_index r i p h = same_number (index p) i (and_right (is_eq (row_cmp (row p) r)) (index p == i) h)

  -- in one queue the entry of an earlier access stands before that of a later one
  stands_before : (p q : ℕ) → p < length queued → row p ≡ row q → index p < index q → p < q
  stands_before p q within same lt = elim (cases_lt p q) [
    | inl before ↦ before
    | inr le ↦ absurd (let up = order.ascend q p le within (sym same) in omega (arith, up, lt))
  ]

  module _ (r : Option Cell) (i j : ℕ) (lt : i < j) (inside : j < length accesses) (none : NoneBetween (λ m. writes_in (at m) r) i j) where
    -- the last entry of the one and an entry of the other, before which none of that one's modifies
    next_below : (p q : ℕ) → p < length queued → q < length queued → row p ≡ r → index p ≡ i → row q ≡ r → index q ≡ j
        → ((m : ℕ) → p < m → m < length queued → of_access r i m ≡ false) → ((m : ℕ) → m < q → of_access r j m ≡ true → writes m ≡ true → ⊥)
        → (writes p || writes q) ≡ true → AreJoinedBelow queued (length queued) i j
    next_below p q in_p in_q e f g h last first w = (
      q,
      in_q,
      (
        p,
        (record {
          before = before;
          row = same;
          earlier = earlier;
          writes = w;
          none = λ m above below. unlike (writes m) (between m above below);
        }),
        f,
        h,
      ),
    )
      where
        same : row p ≡ row q
        same = e ∙ sym g

        earlier : index p < index q
        earlier = omega (arith, f, h, lt)

        before : p < q
        before = stands_before p q in_p same earlier

        between : (m : ℕ) → p < m → m < q → writes m ≡ true → ⊥
        between m above below wrote =
            let of_r : row m ≡ r = sym (order.together p m q (omega (arith, above)) (omega (arith, below)) in_q same) ∙ e in
            let in_m : m < length queued = omega (arith, below, in_q) in
            let from = order.ascend p m (omega (arith, above)) in_m (e ∙ sym of_r) in
            let to = order.ascend m q (omega (arith, below)) in_q (of_r ∙ sym g) in
            let not_i : index m ≡ i → ⊥ = λ k. not_false (of_access r i m) (last m above in_m) (is_of r i m of_r k) in
            let not_j : index m ≡ j → ⊥ = λ k. first m below (is_of r j m of_r k) wrote in
            let says : writes_in (at (index m)) r ≡ true = subst (λ s. writes_in (at (index m)) s ≡ true) of_r ((member accesses queued moved m in_m).1.2 wrote) in
            not_false (writes_in (at (index m)) r) (none (index m) (grind (arith, from, f, not_i)) (grind (arith, to, h, not_j))) says

    pub to_entries : stands_in (at i) r ≡ true → stands_in (at j) r ≡ true → (writes_in (at i) r || writes_in (at j) r) ≡ true → AreJoinedBelow queued (length queued) i j
    to_entries one other w = ⊎_elim by_first by_second (or_cases (writes_in (at i) r) (writes_in (at j) r) w)
      where
        by_first : writes_in (at i) r ≡ true → AreJoinedBelow queued (length queued) i j
        by_first wi =
            let p0 = written accesses queued moved i r (omega (arith, lt, inside)) wi in
            let p = last_such (of_access r i) (length queued) p0.0 p0.1 (is_of r i p0.0 p0.2 p0.3) in
            let e = of_row r i p.0 p.2 in
            let f = of_index r i p.0 p.2 in
            let after : p0.0 ≤ p.0 = elim (cases_lt p.0 p0.0) [ inl below ↦ absurd (not_false (of_access r i p0.0) (p.3 p0.0 below p0.1) (is_of r i p0.0 p0.2 p0.3)) | inr le ↦ le ] in
            let wrote : writes p.0 ≡ true = order.writes_last p0.0 p.0 after p.1 (p0.2 ∙ sym e) (p0.3 ∙ sym f) p0.4 in
            let q0 = placed accesses queued moved j r inside other i (omega (arith, lt, inside)) wi in
            let q = first_such (of_access r j) q0.0 (is_of r j q0.0 q0.2 q0.3) in
            let near = q.1 in
            let limit = q0.1 in
            next_below p.0 q.0 p.1 (omega (arith, near, limit)) e f (of_row r j q.0 q.2) (of_index r j q.0 q.2) p.3
            (λ m below is wr. not_false (of_access r j m) (q.3 m below) is) (or_left (writes p.0) (writes q.0) wrote)

        by_second : writes_in (at j) r ≡ true → AreJoinedBelow queued (length queued) i j
        by_second wj =
            let p0 = placed accesses queued moved i r (omega (arith, lt, inside)) one j inside wj in
            let p = last_such (of_access r i) (length queued) p0.0 p0.1 (is_of r i p0.0 p0.2 p0.3) in
            let q0 = written accesses queued moved j r inside wj in
            let q = first_such (λ m. of_access r j m && writes m) q0.0 (and_both (of_access r j q0.0) (writes q0.0) (is_of r j q0.0 q0.2 q0.3) q0.4) in
            let near = q.1 in
            let limit = q0.1 in
            let is_q = and_left (of_access r j q.0) (writes q.0) q.2 in
            next_below p.0 q.0 p.1 (omega (arith, near, limit)) (of_row r i p.0 p.2) (of_index r i p.0 p.2) (of_row r j q.0 is_q) (of_index r j q.0 is_q) p.3
            (λ m below is wr. not_false (of_access r j m && writes m) (q.3 m below) (and_both (of_access r j m) (writes m) is wr))
            (or_right (writes p.0) (writes q.0) (and_right (of_access r j q.0) (writes q.0) q.2))

  -- entries that are next to each other stand for a next pair
  from_entries : (p q : ℕ) → q < length queued → AreJoined queued p q → (index q < length accesses) × IsNextPair at (index p) (index q)
  from_entries p q in_q next =
      let before = next.before in
      let in_p : p < length queued = omega (arith, before, in_q) in
      let one = member accesses queued moved p in_p in
      let other = member accesses queued moved q in_q in
      let w : (writes_in (at (index p)) (row p) || writes_in (at (index q)) (row p)) ≡ true = ⊎_elim
      (λ h. or_left (writes_in (at (index p)) (row p)) (writes_in (at (index q)) (row p)) (one.1.2 h))
      (λ h. or_right (writes_in (at (index p)) (row p)) (writes_in (at (index q)) (row p)) (subst (λ s. writes_in (at (index q)) s ≡ true) (sym next.row) (other.1.2 h)))
      (or_cases (writes p) (writes q) next.writes) in (
        other.0,
        is_next at (index p) (index q) next.earlier (row p, one.1.1, subst (λ s. stands_in (at (index q)) s ≡ true) (sym next.row) other.1.1, w, λ m above below. unlike (writes_in (at m) (row p)) (between m above below)),
      )
    where
      between : (m : ℕ) → index p < m → m < index q → writes_in (at m) (row p) ≡ true → ⊥
      between m above below wrote =
          let before = next.before in
          let limit = (member accesses queued moved q in_q).0 in
          let t = written accesses queued moved m (row p) (omega (arith, below, limit)) wrote in
          let after : p < t.0 = stands_before p t.0 (omega (arith, before, in_q)) (sym t.2) (subst (λ k. index p < k) (sym t.3) above) in
          let ahead : t.0 < q = stands_before t.0 q t.1 (t.2 ∙ next.row) (subst (λ k. k < index q) (sym t.3) below) in
          not_false (writes t.0) (next.none t.0 after ahead) t.4

  pub next_pairs : (i j : ℕ) → AreJoinedBelow queued (length queued) i j ↔ ((j < length accesses) × IsNextPair at i j)
  next_pairs i j = (
    (λ (q, in_q, (p, next, e, f)). subst (λ k. (k < length accesses) × IsNextPair at i k) f (subst (λ k. (index q < length accesses) × IsNextPair at k (index q)) e (from_entries p q in_q next))),
    (λ (inside, next). let h = in_queue at i j next in to_entries h.0 i j next.0 inside h.4 h.1 h.2 h.3),
  )
