-- The graph of classes: it has no cycle, and least ranks stand for the classes' nodes.
use Rattle.std.proofs.Common.{◌≡◌, ◌⊎◌, ◌↔◌, ℕ, ◌+◌, ◌<◌, ◌≤◌, List, length, get_or, set, min, sym, ap, ◌∙◌, subst, inl, inr, arith}
use Rattle.std.proofs.lemmas.Bool.{cases_eq, cases_lt}
use Rattle.std.proofs.lemmas.List.{length-set, get_or-set_other, get_or-set_same}
use Rattle.pac_graph.specs.Graph.{Graph, HasEdge, Reach, Here, Onward}
use Rattle.pac_graph.specs.Classes.{class_count, AreClasses}
use Rattle.pac_graph.specs.Numbering.{IsClassEdge, HasLesserNode, IsInTurn}
use Rattle.pac_graph.specs.Condensed.{AreLeastRanks}
use Rattle.pac_graph.proofs.GraphLemmas.{along, one_edge, leads_from, leads_to}
use Rattle.pac_graph.proofs.ClassLemmas.{below_count}

-- an edge leads from one of the classes to one of them
pub class_within : (g : Graph) (classes : List ℕ) → AreClasses g classes → (a b : ℕ) → IsClassEdge g classes a b → (a < class_count classes) × (b < class_count classes)
class_within g classes are a b (ne, (u, v, e, eu, ev)) = (
  let from : get_or classes u 0 < class_count classes = below_count classes u (omega (arith, leads_from g u v e, are.each)) in omega (arith, from, eu),
  let to : get_or classes v 0 < class_count classes = below_count classes v (omega (arith, leads_to g u v e, are.each)) in omega (arith, to, ev),
)

module _ (g : Graph) (classes : List ℕ) (are : AreClasses g classes) where
  -- from each node of a class a way leads to some node of each class that is reached
  node_way : {a b : ℕ} → Reach (IsClassEdge g classes) a b → (u : ℕ) → u < g.nodes → get_or classes u 0 ≡ a → (v : ℕ) × (v < g.nodes) × (get_or classes v 0 ≡ b) × Reach (HasEdge g) u v
  node_way (Here a) u lu eu = (u, lu, eu, Here u)
  node_way (Onward a b c (ne, (x, y, xy, ex, ey)) rest) u lu eu =
      let on = node_way rest y (leads_to g x y xy) ey in
      let there : Reach (HasEdge g) u x = ((are.same u x lu (leads_from g x y xy)).0 (eu ∙ sym ex)).0 in
      (on.0, on.1, on.2, along there (Onward x y on.0 xy on.3))

  -- no way leads back along an edge between classes: its ends were of one class
  pub cycle_free : (a b : ℕ) → IsClassEdge g classes a b → Reach (IsClassEdge g classes) b a → ⊥
  cycle_free a b (ne, (x, y, xy, ex, ey)) back =
      let lx = leads_from g x y xy in
      let ly = leads_to g x y xy in
      let on = node_way back y ly ey in
      let home : Reach (HasEdge g) on.0 x = ((are.same on.0 x on.1 lx).0 (on.2 ∙ sym ex)).0 in
      ne (sym ex ∙ ((are.same x y lx ly).1 (one_edge x y xy, along on.3 home) ∙ ey))

module _ (classes order ranks : List ℕ) (nodes : ℕ) (each : length classes ≡ nodes) (different : (u v : ℕ) → u < nodes → v < nodes → get_or order u 0 ≡ get_or order v 0 → u ≡ v) (least : AreLeastRanks classes order ranks) where
  -- no two classes have one least rank
  pub ranks_apart : (c d : ℕ) → c < class_count classes → d < class_count classes → get_or ranks c 0 ≡ get_or ranks d 0 → c ≡ d
  ranks_apart c d lc ld e =
      let m = least.node c lc in
      let n = least.node d ld in
      let same : m.0 ≡ n.0 = different m.0 n.0 (omega (arith, m.1, each)) (omega (arith, n.1, each)) (m.3 ∙ (e ∙ sym n.3)) in
      sym m.2 ∙ (ap (λ u. get_or classes u 0) same ∙ n.2)

  -- the class of the lower rank has a node of a rank below each of the other's
  pub by_ranks : (c o : ℕ) → c < class_count classes → (o ≡ c → ⊥) → get_or ranks c 0 ≤ get_or ranks o 0 → HasLesserNode classes order c o
  by_ranks c o lc ne le = let m = least.node c lc in (
    m.0,
    m.1,
    m.2,
    λ v lv is.
        let low : get_or ranks o 0 ≤ get_or order v 0 = subst (λ k. get_or ranks k 0 ≤ get_or order v 0) is (least.least v lv) in
        elim (cases_eq (get_or order m.0 0) (get_or order v 0)) [
          | inl same ↦ absurd (ne (sym (sym m.2 ∙ (ap (λ k. get_or classes k 0) (different m.0 v (omega (arith, m.1, each)) (omega (arith, lv, each)) same) ∙ is))))
          | inr apart ↦ omega (arith, low, le, m.3, apart)
        ],
  )

-- the same numbering by other words for the same facts
pub in_other_words : (edge edge' before before' : ℕ → ℕ → Type 0) (count : ℕ) (numbers : List ℕ) → ((o c : ℕ) → edge o c ↔ edge' o c) → ((c o : ℕ) → c < count → (o ≡ c → ⊥) → before c o → before' c o) → IsInTurn edge before count numbers → IsInTurn edge' before' count numbers
in_other_words edge edge' before before' count numbers same rank t = record {
  size = t.size;
  below = t.below;
  each = t.each;
  ready = λ c lt. (let r = t.ready c lt in (r.0, λ o e. r.1 o ((same o c).1 e)));
  least = λ c o lc lo ne r. rank c o lc ne (t.least c o lc lo ne (r.0, λ p e. r.1 p ((same p o).0 e)));
}

-- the least ranks of the first nodes; a class with none of them has the greatest rank there is
pub record AreRanked (classes order ranks : List ℕ) (count nodes : ℕ) : Type 0 where
  pub size : length ranks ≡ count
  pub least : (u : ℕ) → u < nodes → get_or ranks (get_or classes u 0) 0 ≤ get_or order u 0
  pub node : (c : ℕ) → c < count → (get_or ranks c 0 ≡ 18446744073709551615) ⊎ ((u : ℕ) × (u < nodes) × (get_or classes u 0 ≡ c) × (get_or order u 0 ≡ get_or ranks c 0))

-- the rank of one node more is taken into its class
pub one_ranked : (classes order ranks : List ℕ) (count i class old now : ℕ) → length ranks ≡ count → class ≡ get_or classes i 0 → class < count → old ≡ get_or ranks class 0 → now ≡ min old (get_or order i 0) → AreRanked classes order ranks count i → AreRanked classes order (set ranks class now) count (i + 1)
one_ranked classes order ranks count i class old now size is_class in_count is_old is_now ranked = record { size = length-set ranks class now ∙ size; least = least_after; node = node_after }
  where
    this : (c : ℕ) → c ≡ class → get_or (set ranks class now) c 0 ≡ now
    this c e = ap (λ k. get_or (set ranks class now) k 0) e ∙ get_or-set_same ranks class now 0 (omega (arith, size, in_count))

    other : (c : ℕ) → (c ≡ class → ⊥) → get_or (set ranks class now) c 0 ≡ get_or ranks c 0
    other c ne = get_or-set_other ranks class c now 0 ne

    least_after : (u : ℕ) → u < i + 1 → get_or (set ranks class now) (get_or classes u 0) 0 ≤ get_or order u 0
    least_after u lt = elim (cases_eq (get_or classes u 0) class) [
      | inl same ↦ elim (cases_lt u i) [
        | inl before ↦ (let a : get_or ranks (get_or classes u 0) 0 ≡ get_or ranks class 0 = ap (λ k. get_or ranks k 0) same in omega (arith, this (get_or classes u 0) same, ranked.least u before, a, is_old, is_now))
        | inr at ↦ (let e : u ≡ i = omega (arith, lt, at) in let a : get_or order u 0 ≡ get_or order i 0 = ap (λ k. get_or order k 0) e in omega (arith, this (get_or classes u 0) same, a, is_now))
      ]
      | inr ne ↦ elim (cases_lt u i) [
        | inl before ↦ omega (arith, other (get_or classes u 0) ne, ranked.least u before)
        | inr at ↦ absurd (ne (let e : u ≡ i = omega (arith, lt, at) in ap (λ k. get_or classes k 0) e ∙ sym is_class))
      ]
    ]

    node_after : (c : ℕ) → c < count → (get_or (set ranks class now) c 0 ≡ 18446744073709551615) ⊎ ((u : ℕ) × (u < i + 1) × (get_or classes u 0 ≡ c) × (get_or order u 0 ≡ get_or (set ranks class now) c 0))
    node_after c lt = elim (cases_eq c class) [
      | inl same ↦ elim (cases_lt (get_or order i 0) old) [
        | inl lower ↦ inr (i, omega arith, sym is_class ∙ sym same, (let e : get_or order i 0 ≡ now = omega (arith, is_now, lower) in e ∙ sym (this c same)))
        | inr not_lower ↦ (let e : get_or ranks c 0 ≡ now = ap (λ k. get_or ranks k 0) same ∙ (let f : get_or ranks class 0 ≡ now = omega (arith, is_old, is_now, not_lower) in f) in elim (ranked.node c lt) [
          | inl most ↦ inl (this c same ∙ (sym e ∙ most))
          | inr (u, before, eu, er) ↦ inr (u, omega (arith, before), eu, er ∙ (e ∙ sym (this c same)))
        ])
      ]
      | inr ne ↦ elim (ranked.node c lt) [
        | inl most ↦ inl (other c ne ∙ most)
        | inr (u, before, eu, er) ↦ inr (u, omega (arith, before), eu, er ∙ sym (other c ne))
      ]
    ]
