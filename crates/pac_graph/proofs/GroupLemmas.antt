-- The classes of a graph's nodes, as they are numbered, are the groups of the nodes.
use Rattle.std.proofs.Common.{◌≡◌, ◌↔◌, ℕ, ◌<◌, List, length, get_or, refl, sym, ap, ◌∙◌, subst, arith}
use Rattle.std.specs.Prelude.{Contains, slice_index}
use Rattle.pac_graph.specs.Graph.{Graph, HasEdge, ReachEachOther}
use Rattle.pac_graph.specs.Classes.{class_count, AreClasses, HaveNodes}
use Rattle.pac_graph.specs.Groups.{IsEdgeBetween, HasFirstNode, ArePairsAscending, AreGroups}
use Rattle.pac_graph.specs.Numbering.{IsClassEdge, IsClassReady, IsNumbering}
use Rattle.pac_graph.proofs.GraphLemmas.{leads_from, leads_to}
use Rattle.pac_graph.proofs.ClassLemmas.{below_count}
use Rattle.pac_graph.proofs.CondensedLemmas.{class_within}
use Rattle.pac_graph.proofs.LawLemmas.{same_turn}

module _ (g : Graph) (classes order turns numbers : List ℕ) (pairs : List (ℕ × ℕ)) (are : AreClasses g classes) (numbering : IsNumbering g classes order turns) (ranks : (u : ℕ) → u < g.nodes → get_or order u 0 ≡ u) (each : (u : ℕ) → u < length classes → get_or numbers u 0 ≡ get_or turns (get_or classes u 0) 0) (have : HaveNodes classes (class_count classes)) (lists : (b c : ℕ) → Contains pairs (b, c) ↔ IsEdgeBetween (HasEdge g) (slice_index numbers) b c) (ascends : ArePairsAscending pairs) where
  class_of : (u : ℕ) → u < g.nodes → get_or classes u 0 < class_count classes
  class_of u lt = below_count classes u (omega (arith, lt, are.each))

  number_of : (u : ℕ) → u < g.nodes → get_or numbers u 0 ≡ get_or turns (get_or classes u 0) 0
  number_of u lt = each u (omega (arith, lt, are.each))

  -- a node is in the group of its class's number
  in_group : (u class b : ℕ) → u < g.nodes → get_or classes u 0 ≡ class → get_or turns class 0 ≡ b → get_or numbers u 0 ≡ b
  in_group u class b lt is numbered = number_of u lt ∙ (ap (λ k. get_or turns k 0) is ∙ numbered)

  one_class : (c d : ℕ) → c < class_count classes → d < class_count classes → get_or turns c 0 ≡ get_or turns d 0 → c ≡ d
  one_class c d lc ld e = same_turn g classes order turns numbering c d lc ld e

  same : (u v : ℕ) → u < g.nodes → v < g.nodes → (get_or numbers u 0 ≡ get_or numbers v 0) ↔ ReachEachOther (HasEdge g) u v
  same u v lu lv = (
    λ e. (are.same u v lu lv).0 (one_class (get_or classes u 0) (get_or classes v 0) (class_of u lu) (class_of v lv) (sym (number_of u lu) ∙ (e ∙ number_of v lv))),
    λ r. number_of u lu ∙ (ap (λ k. get_or turns k 0) ((are.same u v lu lv).1 r) ∙ sym (number_of v lv)),
  )

  used : (b : ℕ) → b < class_count classes → (u : ℕ) × (u < g.nodes) × (get_or numbers u 0 ≡ b)
  used b lt =
      let k = numbering.each b lt in
      let n = have k.0 k.1 in
      let within : n.0 < g.nodes = omega (arith, n.1, are.each) in
      (n.0, within, in_group n.0 k.0 b within n.2 k.2)

  rises : (b c : ℕ) → Contains pairs (b, c) → b < c
  rises b c contained = go ((lists b c).0 contained)
    where
      go : IsEdgeBetween (HasEdge g) (slice_index numbers) b c → b < c
      go (ne, (u, v, e, eu, ev)) =
          let lu = leads_from g u v e in
          let lv = leads_to g u v e in
          let apart : get_or classes u 0 ≡ get_or classes v 0 → ⊥ = λ one. ne (sym eu ∙ (number_of u lu ∙ (ap (λ k. get_or turns k 0) one ∙ (sym (number_of v lv) ∙ ev)))) in
          let below : get_or turns (get_or classes u 0) 0 < get_or turns (get_or classes v 0) 0 = (numbering.ready (get_or classes v 0) (class_of v lv)).1 (get_or classes u 0) (apart, (u, v, e, refl, refl)) in
          omega (arith, below, number_of u lu, number_of v lv, eu, ev)

  first : (b c : ℕ) → b < c → c < class_count classes → ((d : ℕ) → Contains pairs (d, c) → d < b) → HasFirstNode (λ u. u < g.nodes) ◌<◌ (slice_index numbers) b c
  first b c lt lc led = (m.0, in_nodes, in_group m.0 kb.0 b in_nodes m.2 kb.2, below)
    where
      kb : (class : ℕ) × (class < class_count classes) × (get_or turns class 0 ≡ b)
      kb = numbering.each b (omega (arith, lt, lc))

      kc : (class : ℕ) × (class < class_count classes) × (get_or turns class 0 ≡ c)
      kc = numbering.each c lc

      apart : kc.0 ≡ kb.0 → ⊥
      apart e = let one : get_or turns kc.0 0 ≡ get_or turns kb.0 0 = ap (λ k. get_or turns k 0) e in omega (arith, one, kb.2, kc.2, lt)

      led_from : (o : ℕ) → IsClassEdge g classes o kc.0 → get_or turns o 0 < b
      led_from o (ne, (u, v, e, eu, ev)) =
          let within = (class_within g classes are o kc.0 (ne, (u, v, e, eu, ev))).0 in
          led (get_or turns o 0) ((lists (get_or turns o 0) c).1 (
            (λ one. ne (one_class o kc.0 within kc.1 (one ∙ sym kc.2))),
            (u, v, e, in_group u o (get_or turns o 0) (leads_from g u v e) eu refl, in_group v kc.0 c (leads_to g u v e) ev kc.2),
          ))

      ready : IsClassReady (IsClassEdge g classes) turns b kc.0
      ready = (omega (arith, kc.2, lt), led_from)

      m : (u : ℕ) × (u < length classes) × (get_or classes u 0 ≡ kb.0) × ((v : ℕ) → v < length classes → get_or classes v 0 ≡ kc.0 → get_or order u 0 < get_or order v 0)
      m = numbering.least kb.0 kc.0 kb.1 kc.1 apart (subst (λ n. IsClassReady (IsClassEdge g classes) turns n kc.0) (sym kb.2) ready)

      in_nodes : m.0 < g.nodes
      in_nodes = omega (arith, m.1, are.each)

      below : (v : ℕ) → v < g.nodes → get_or numbers v 0 ≡ c → m.0 < v
      below v lv ev =
          let is : get_or classes v 0 ≡ kc.0 = one_class (get_or classes v 0) kc.0 (class_of v lv) kc.1 (sym (number_of v lv) ∙ (ev ∙ sym kc.2)) in
          omega (arith, m.3 v (omega (arith, lv, are.each)) is, ranks m.0 in_nodes, ranks v lv)

  pub numbered_groups : AreGroups (λ u. u < g.nodes) ◌<◌ (HasEdge g) (HasEdge g) (slice_index numbers) (class_count classes) pairs
  numbered_groups = record {
    below = λ u lt. (let t = numbering.below (get_or classes u 0) (class_of u lt) in omega (arith, t, number_of u lt));
    used = used;
    same = same;
    edges = lists;
    ascending = ascends;
    rises = rises;
    first = first;
  }
