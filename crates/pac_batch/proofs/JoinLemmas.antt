-- Which entries of queues are next to the one at a position: those from the start on that are of another access and of which one of
-- the two modifies.
use Rattle.std.proofs.Common.{◌≡◌, ℕ, ◌+◌, ◌<◌, ◌≤◌, true, false, List, length, Option, sym, ap, ◌∙◌, subst, true≢false, ◌⊎◌, inl, inr, arith}
use Rattle.std.proofs.lemmas.Bool.{cases_eq, cases_lt}
use Rattle.pac_value.specs.State.{Cell}
use Rattle.pac_base.proofs.TestLemmas.{or_left, or_right, or_cases, not_false}
use Rattle.pac_batch.specs.declared.queues.Queued.{Queued}
use Rattle.pac_batch.specs.Queues.{entry, AreInOrder, AreJoined, AreJoinedAt, IsStart, IsPairOf, IsPairSince}

module _ (queued : List Queued) (order : AreInOrder queued) (start end : ℕ) (at : IsStart queued start end) (inside : end < length queued) where
  abbrev row : ℕ → Option Cell
  row p = (entry queued p).row

  -- ---- another queue begins

  module _ (new : row start ≡ row end → ⊥) where
    none_before : (p : ℕ) → p < end → row p ≡ row end → ⊥
    none_before p lt same = elim (cases_lt p start) [
      | inl below ↦ new (sym (order.together p start end (omega (arith, below)) at.within inside same) ∙ same)
      | inr le ↦ new (sym (at.same p le lt) ∙ same)
    ]

    pub new_start : IsStart queued end (end + 1)
    new_start = record {
      within = omega arith;
      same = λ m le lt. let e : m ≡ end = omega (arith, le, lt) in ap row e;
      reads = λ m le lt. absurd (omega (arith, le, lt));
      first = inr none_before;
    }

    pub none_next : (i j : ℕ) → AreJoinedAt queued end i j → ⊥
    none_next i j (p, next, e, f) = none_before p next.before next.row

  -- ---- the queue goes on

  module _ (same : row start ≡ row end) where
    -- what is next to it is not before the start
    from_start : (p : ℕ) → AreJoined queued p end → start ≤ p
    from_start p next = elim (cases_lt p start) [
      | inl below ↦ elim at.first [
        | inl writer ↦ absurd (true≢false (sym writer.1 ∙ next.none start below writer.0))
        | inr none ↦ absurd (none p below (next.row ∙ sym same))
      ]
      | inr le ↦ le
    ]

    of_queue : (p : ℕ) → start ≤ p → p < end → row p ≡ row end
    of_queue p le lt = at.same p le lt ∙ same

    module _ (writes : (entry queued end).is_write ≡ true) where
      pub write_next : (i j : ℕ) → IsPairSince queued start end end i j → AreJoinedAt queued end i j
      write_next i j (p, le, lt, (earlier, e, f)) = (
        p,
        (record {
          before = lt;
          row = of_queue p le lt;
          earlier = earlier;
          writes = or_right (entry queued p).is_write (entry queued end).is_write writes;
          none = λ m above below. at.reads m (omega (arith, le, above)) below;
        }),
        e,
        f,
      )

      pub write_only : (i j : ℕ) → AreJoinedAt queued end i j → IsPairSince queued start end end i j
      write_only i j (p, next, e, f) = (p, from_start p next, next.before, (next.earlier, e, f))

    module _ (reads : (entry queued end).is_write ≡ false) where
      -- what is next to it is the start, and modifies
      writer : (p : ℕ) → AreJoined queued p end → (p ≡ start) × ((entry queued p).is_write ≡ true)
      writer p next = go (or_cases (entry queued p).is_write (entry queued end).is_write next.writes)
        where
          go : ((entry queued p).is_write ≡ true) ⊎ ((entry queued end).is_write ≡ true) → (p ≡ start) × ((entry queued p).is_write ≡ true)
          go (inr w) = absurd (not_false _ reads w)
          go (inl w) = elim (cases_eq p start) [
            | inl e ↦ (e, w)
            | inr ne ↦ absurd (let le = from_start p next in not_false _ (at.reads p (omega (arith, le, ne)) next.before) w)
          ]

      pub read_next : (entry queued start).is_write ≡ true → (i j : ℕ) → IsPairOf (entry queued start) (entry queued end) i j → AreJoinedAt queued end i j
      read_next w i j (earlier, e, f) = (
        start,
        (record {
          before = elim (cases_eq start end) [
            | inl same ↦ absurd (let alike : (entry queued start).index ≡ (entry queued end).index = ap (λ k. (entry queued k).index) same in omega (arith, alike, earlier))
            | inr ne ↦ let le = at.within in omega (arith, le, ne)
          ];
          row = same;
          earlier = earlier;
          writes = or_left (entry queued start).is_write (entry queued end).is_write w;
          none = λ m above below. at.reads m above below;
        }),
        e,
        f,
      )

      pub read_only : (i j : ℕ) → AreJoinedAt queued end i j → IsPairOf (entry queued start) (entry queued end) i j
      read_only i j (p, next, e, f) =
          let is : p ≡ start = (writer p next).0 in
          let alike : (entry queued p).index ≡ (entry queued start).index = ap (λ k. (entry queued k).index) is in
          (subst (λ k. k < (entry queued end).index) alike next.earlier, sym alike ∙ e, f)
