-- Nodes of any kind that a graph's numbers stand for: the groups of the graph are theirs.
use Rattle.std.proofs.Common.{◌≡◌, ◌⊎◌, ◌↔◌, ℕ, ◌<◌, List, get_or, refl, sym, ap, ◌∙◌, subst, inl, inr, ⊎_elim, arith}
use Rattle.std.specs.Prelude.{Contains, slice_index}
use Rattle.pac_graph.specs.Graph.{Graph, HasEdge, Reach, Here, Onward, ReachEachOther}
use Rattle.pac_graph.specs.Groups.{IsEdgeBetween, HasFirstNode, AreGroups}
use Rattle.pac_graph.proofs.GraphLemmas.{along, one_edge}

-- a graph stands for nodes: they have numbers in their order, a link is a way in the graph, and an edge is flow or leads
-- between two nodes that links lead between both ways
pub record IsDrawing {N : Type 0} (g : Graph) (IsNode : N → Type 0) (before link flow : N → N → Type 0) (index : N → ℕ) : Type 0 where
  pub within : (n : N) → IsNode n → index n < g.nodes
  pub each : (u : ℕ) → u < g.nodes → (n : N) × IsNode n × (index n ≡ u)
  pub rises : (m n : N) → IsNode m → IsNode n → before m n → index m < index n
  pub total : (m n : N) → before m n ⊎ (m ≡ n) ⊎ before n m
  pub is_way : (m n : N) → link m n → Reach (HasEdge g) (index m) (index n)
  pub is_link : (m n : N) → flow m n → link m n
  pub is_edge : (m n : N) → flow m n → HasEdge g (index m) (index n)
  pub nodes : (m n : N) → flow m n → IsNode m × IsNode n
  pub edge_is : (u v : ℕ) → HasEdge g u v → (m : N) × (n : N) × IsNode m × IsNode n × (index m ≡ u) × (index n ≡ v) × (flow m n ⊎ ReachEachOther link m n)

module _ {N : Type 0} (g : Graph) (IsNode : N → Type 0) (before link flow : N → N → Type 0) (index : N → ℕ) (d : IsDrawing g IsNode before link flow index) where
  one_node : (m n : N) → IsNode m → IsNode n → index m ≡ index n → m ≡ n
  one_node m n im in_ e = elim (d.total m n) [
    | inl lt ↦ absurd (omega (arith, d.rises m n im in_ lt, e))
    | inr (inl same) ↦ same
    | inr (inr lt) ↦ absurd (omega (arith, d.rises n m in_ im lt, e))
  ]

  earlier : (m n : N) → IsNode m → IsNode n → index m < index n → before m n
  earlier m n im in_ below = elim (d.total m n) [
    | inl lt ↦ lt
    | inr (inl same) ↦ absurd (let e : index m ≡ index n = ap index same in omega (arith, e, below))
    | inr (inr lt) ↦ absurd (omega (arith, d.rises n m in_ im lt, below))
  ]

  way : {m n : N} → Reach link m n → Reach (HasEdge g) (index m) (index n)
  way (Here m) = Here (index m)
  way (Onward l m n e r) = along (d.is_way l m e) (way r)

  links : (m n : N) → flow m n ⊎ ReachEachOther link m n → Reach link m n
  links m n (inl f) = one_edge m n (d.is_link m n f)
  links m n (inr r) = r.0

  back : {u v : ℕ} → Reach (HasEdge g) u v → (m n : N) → IsNode m → IsNode n → index m ≡ u → index n ≡ v → Reach link m n
  back (Here u) m n im in_ em en = subst (λ k. Reach link m k) (one_node m n im in_ (em ∙ sym en)) (Here m)
  back (Onward u v w e r) m n im in_ em en =
      let x = d.edge_is u v e in
      let same : x.0 ≡ m = one_node x.0 m x.2 im (x.4 ∙ sym em) in
      along (subst (λ k. Reach link k x.1) same (links x.0 x.1 x.6)) (back r x.1 n x.3 in_ x.5 en)

  module _ (numbers : List ℕ) (count : ℕ) (pairs : List (ℕ × ℕ)) (are : AreGroups (λ u. u < g.nodes) ◌<◌ (HasEdge g) (HasEdge g) (slice_index numbers) count pairs) (group : N → ℕ) (numbered : (n : N) → IsNode n → group n ≡ get_or numbers (index n) 0) where
    same : (m n : N) → IsNode m → IsNode n → (group m ≡ group n) ↔ ReachEachOther link m n
    same m n im in_ = (to, from)
      where
        there : (get_or numbers (index m) 0 ≡ get_or numbers (index n) 0) ↔ ReachEachOther (HasEdge g) (index m) (index n)
        there = are.same (index m) (index n) (d.within m im) (d.within n in_)

        to : group m ≡ group n → ReachEachOther link m n
        to e = let r = there.0 (sym (numbered m im) ∙ (e ∙ numbered n in_)) in (back r.0 m n im in_ refl refl, back r.1 n m in_ im refl refl)

        from : ReachEachOther link m n → group m ≡ group n
        from r = numbered m im ∙ (there.1 (way r.0, way r.1) ∙ sym (numbered n in_))

    edges : (b c : ℕ) → Contains pairs (b, c) ↔ IsEdgeBetween flow group b c
    edges b c = (λ h. to ((are.edges b c).0 h), λ h. (are.edges b c).1 (from h))
      where
        to : IsEdgeBetween (HasEdge g) (slice_index numbers) b c → IsEdgeBetween flow group b c
        to (ne, (u, v, e, eu, ev)) =
            let x = d.edge_is u v e in
            let em : group x.0 ≡ b = numbered x.0 x.2 ∙ (ap (λ k. get_or numbers k 0) x.4 ∙ eu) in
            let en : group x.1 ≡ c = numbered x.1 x.3 ∙ (ap (λ k. get_or numbers k 0) x.5 ∙ ev) in
            ⊎_elim (λ f. (ne, (x.0, x.1, f, em, en))) (λ r. absurd (ne (sym em ∙ ((same x.0 x.1 x.2 x.3).1 r ∙ en)))) x.6

        from : IsEdgeBetween flow group b c → IsEdgeBetween (HasEdge g) (slice_index numbers) b c
        from (ne, (m, n, f, em, en)) = let is = d.nodes m n f in (ne, (index m, index n, d.is_edge m n f, sym (numbered m is.0) ∙ em, sym (numbered n is.1) ∙ en))

    first : (b c : ℕ) → b < c → c < count → ((e : ℕ) → Contains pairs (e, c) → e < b) → HasFirstNode IsNode before group b c
    first b c lt lc led =
        let f = are.first b c lt lc led in
        let x = d.each f.0 f.1 in (
          x.0,
          x.1,
          numbered x.0 x.1 ∙ (ap (λ k. get_or numbers k 0) x.2 ∙ f.2),
          λ n in_ en.
              earlier x.0 n x.1 in_ (let below : f.0 < index n = f.3 (index n) (d.within n in_) (sym (numbered n in_) ∙ en) in omega (arith, below, x.2)),
        )

    used : (b : ℕ) → b < count → (n : N) × IsNode n × (group n ≡ b)
    used b lt =
        let f = are.used b lt in
        let x = d.each f.0 f.1 in
        (x.0, x.1, numbered x.0 x.1 ∙ (ap (λ k. get_or numbers k 0) x.2 ∙ f.2))

    pub drawn_groups : AreGroups IsNode before link flow group count pairs
    drawn_groups = record {
      below = λ n is. (let lt = are.below (index n) (d.within n is) in omega (arith, lt, numbered n is));
      used = used;
      same = same;
      edges = edges;
      ascending = are.ascending;
      rises = are.rises;
      first = first;
    }
