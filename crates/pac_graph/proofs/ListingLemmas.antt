-- The edges of a graph are listed one after another: those of one node after those of the nodes before it.
use Rattle.std.proofs.Common.{◌≡◌, ◌⊎◌, ◌↔◌, ℕ, ◌+◌, ◌<◌, ◌≤◌, List, [], ◌∷◌, ◌++◌, length, get_or, sym, ap, subst, inl, inr, arith, length-append}
use Rattle.std.specs.Prelude.{Contains}
use Rattle.std.proofs.lemmas.Bool.{cases_eq, cases_lt}
use Rattle.std.proofs.lemmas.List.{get_or_append_left}
use Rattle.std.proofs.lemmas.List.Elements.{Contains-get_or, Contains-append_left, Contains-push, Contains-push_cases}
use Rattle.std.proofs.Math.Seq.{get_or-append_seam}
use Rattle.pac_graph.specs.Graph.{Graph, HasEdge}
use Rattle.pac_graph.specs.Groups.{ArePairsAscending, IsPairBelow}
use Rattle.pac_graph.specs.Listing.{AreEdgesBelow}
use Rattle.pac_graph.proofs.GraphLemmas.{leads_from}

module _ (g : Graph) where
  pub none_listed : AreEdgesBelow g [] 0 0
  none_listed = record {
    lists = λ b c. ((λ h. absurd (omega (arith, h.1))), (λ (edge, offset). absurd (elim offset [ inl lt ↦ omega (arith, lt) | inr (e, lt) ↦ omega (arith, lt) ])));
    ascends = λ i j d lt within. absurd (omega (arith, within));
  }

  -- an edge more, with none between
  pub one_listed : (pairs : List (ℕ × ℕ)) (from to at : ℕ) → at ≤ to → HasEdge g from to → ((b : ℕ) → at ≤ b → b < to → HasEdge g from b → ⊥) → AreEdgesBelow g pairs from at → AreEdgesBelow g (pairs ++ (from, to) ∷ []) from (to + 1)
  one_listed pairs from to at le edge none a = record { lists = λ b c. (was b c, is b c); ascends = ascends }
    where
      was : (b c : ℕ) → Contains (pairs ++ (from, to) ∷ []) (b, c) → HasEdge g b c × ((b < from) ⊎ ((b ≡ from) × (c < to + 1)))
      was b c h = elim (Contains-push_cases pairs (from, to) (b, c) h) [
        | inl old ↦ (let r = (a.lists b c).0 old in (r.0, elim r.1 [ inl lt ↦ inl lt | inr (e, lt) ↦ inr (e, omega (arith, lt, le)) ]))
        | inr e ↦ (let first : from ≡ b = ap (λ (p : ℕ × ℕ). p.0) e in
            let second : to ≡ c = ap (λ (p : ℕ × ℕ). p.1) e in
            (subst (λ x. HasEdge g x c) first (subst (λ y. HasEdge g from y) second edge), inr (sym first, omega (arith, second))))
      ]

      is : (b c : ℕ) → HasEdge g b c × ((b < from) ⊎ ((b ≡ from) × (c < to + 1))) → Contains (pairs ++ (from, to) ∷ []) (b, c)
      is b c (e, inl lt) = Contains-append_left pairs ((from, to) ∷ []) (b, c) ((a.lists b c).1 (e, inl lt))
      is b c (e, inr (same, lt)) = elim (cases_lt c at) [
        | inl old ↦ Contains-append_left pairs ((from, to) ∷ []) (b, c) ((a.lists b c).1 (e, inr (same, old)))
        | inr new ↦ elim (cases_eq c to) [
          | inl at_to ↦ (let here : ◌≡◌ {A = ℕ × ℕ} (from, to) (b, c) = λ i. (sym same i, sym at_to i) in subst (Contains (pairs ++ (from, to) ∷ [])) here (Contains-push pairs (from, to)))
          | inr ne ↦ absurd (none c new (omega (arith, lt, ne)) (subst (λ x. HasEdge g x c) same e))
        ]
      ]

      before : (p : ℕ × ℕ) → Contains pairs p → IsPairBelow p (from, to)
      before p h = elim ((a.lists p.0 p.1).0 h).1 [ inl lt ↦ inl lt | inr (e, lt) ↦ inr (e, omega (arith, lt, le)) ]

      ascends : ArePairsAscending (pairs ++ (from, to) ∷ [])
      ascends i j d lt within = elim (cases_lt j (length pairs)) [
        | inl old ↦ (let early : i < length pairs = omega (arith, lt, old) in
            subst (λ q. IsPairBelow (get_or (pairs ++ (from, to) ∷ []) i d) q) (sym (get_or_append_left pairs ((from, to) ∷ []) d j old))
            (subst (λ p. IsPairBelow p (get_or pairs j d)) (sym (get_or_append_left pairs ((from, to) ∷ []) d i early)) (a.ascends i j d lt old)))
        | inr new ↦ (let last : length pairs ≡ j = omega (arith, within, new, length-append pairs ((from, to) ∷ [])) in
            let early : i < length pairs = omega (arith, lt, last) in
            subst (λ q. IsPairBelow (get_or (pairs ++ (from, to) ∷ []) i d) q) (subst (λ k. (from, to) ≡ get_or (pairs ++ (from, to) ∷ []) k d) last (sym (get_or-append_seam pairs (from, to) [] d)))
            (subst (λ p. IsPairBelow p (from, to)) (sym (get_or_append_left pairs ((from, to) ∷ []) d i early)) (before (get_or pairs i d) (Contains-get_or pairs i d early))))
      ]

  -- a node has no edge more
  pub row_listed : (pairs : List (ℕ × ℕ)) (from at : ℕ) → ((b : ℕ) → at ≤ b → HasEdge g from b → ⊥) → AreEdgesBelow g pairs from at → AreEdgesBelow g pairs (from + 1) 0
  row_listed pairs from at none a = record { lists = λ b c. (was b c, is b c); ascends = a.ascends }
    where
      was : (b c : ℕ) → Contains pairs (b, c) → HasEdge g b c × ((b < from + 1) ⊎ ((b ≡ from + 1) × (c < 0)))
      was b c h = let r = (a.lists b c).0 h in (r.0, elim r.1 [ inl lt ↦ inl (omega (arith, lt)) | inr (e, lt) ↦ inl (omega (arith, e)) ])

      is : (b c : ℕ) → HasEdge g b c × ((b < from + 1) ⊎ ((b ≡ from + 1) × (c < 0))) → Contains pairs (b, c)
      is b c (e, inr (same, lt)) = absurd (omega (arith, lt))
      is b c (e, inl lt) = elim (cases_eq b from) [
        | inr ne ↦ (a.lists b c).1 (e, inl (omega (arith, lt, ne)))
        | inl same ↦ elim (cases_lt c at) [
          | inl old ↦ (a.lists b c).1 (e, inr (same, old))
          | inr new ↦ absurd (none c new (subst (λ x. HasEdge g x c) same e))
        ]
      ]

  -- all edges are listed
  pub all_listed : (pairs : List (ℕ × ℕ)) (nodes : ℕ) → g.nodes ≤ nodes → AreEdgesBelow g pairs nodes 0 → (b c : ℕ) → Contains pairs (b, c) ↔ HasEdge g b c
  all_listed pairs nodes le a b c = ((λ h. ((a.lists b c).0 h).0), (λ e. (a.lists b c).1 (e, inl (omega (arith, leads_from g b c e, le)))))
