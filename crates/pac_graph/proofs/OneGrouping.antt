-- The links and the flow between nodes make one grouping: by induction over numbers, two groupings have the same nodes in the
-- groups below each number.
use Rattle.std.proofs.Common.{◌≡◌, ◌⊎◌, ℕ, zero, suc, ◌<◌, List, [], ◌∷◌, get_or, refl, sym, ap, ◌∙◌, subst, inl, inr, arith}
use Rattle.std.specs.Prelude.{Contains}
use Rattle.std.proofs.lemmas.Bool.{cases_eq, cases_lt}
use Rattle.std.proofs.lemmas.List.{ext_get_or}
use Rattle.pac_graph.specs.declared.groups.Groups.{Groups}
use Rattle.pac_graph.specs.Graph.{Graph, HasEdge}
use Rattle.pac_graph.proofs.GraphLemmas.{leads_from, leads_to}
use Rattle.pac_graph.specs.Groups.{AreGroups, AreGroupsOf, IsEdgeBetween, IsPairBelow, ArePairsAscending}

-- ---- ascending pairs with the same members are the same

not_both : (p q : ℕ × ℕ) → IsPairBelow p q → IsPairBelow q p → ⊥
not_both p q (inl lt) (inl gt) = omega (arith, lt, gt)
not_both p q (inl lt) (inr same) = omega (arith, lt, same.0)
not_both p q (inr same) (inl gt) = omega (arith, same.0, gt)
not_both p q (inr same) (inr back) = omega (arith, same.1, back.1)

-- a member is the first pair, or one after it
member : (p q : ℕ × ℕ) (qs : List (ℕ × ℕ)) → ArePairsAscending (q ∷ qs) → Contains (q ∷ qs) p → (q ≡ p) ⊎ (IsPairBelow q p × Contains qs p)
member p q qs ascend (zero, within, is) = inl is
member p q qs ascend (suc k, within, is) = inr (subst (λ r. IsPairBelow q r) is (ascend 0 (suc k) p (omega arith) within), (k, omega (arith, within), is))

rest : (q : ℕ × ℕ) (qs : List (ℕ × ℕ)) → ArePairsAscending (q ∷ qs) → ArePairsAscending qs
rest q qs ascend i j d lt within = ascend (suc i) (suc j) d (omega (arith, lt)) (omega (arith, within))

first_same : (p q : ℕ × ℕ) (ps qs : List (ℕ × ℕ)) → ArePairsAscending (p ∷ ps) → ArePairsAscending (q ∷ qs)
    → ((r : ℕ × ℕ) → Contains (p ∷ ps) r → Contains (q ∷ qs) r) → ((r : ℕ × ℕ) → Contains (q ∷ qs) r → Contains (p ∷ ps) r) → p ≡ q
first_same p q ps qs up up' to from = elim (member p q qs up' (to p (0, omega arith, refl))) [
  | inl is ↦ sym is
  | inr behind ↦ elim (member q p ps up (from q (0, omega arith, refl))) [
    | inl is ↦ is
    | inr before ↦ absurd (not_both q p behind.0 before.0)
  ]
]

rest_too : (p q : ℕ × ℕ) (ps qs : List (ℕ × ℕ)) → p ≡ q → ArePairsAscending (p ∷ ps) → ArePairsAscending (q ∷ qs)
    → ((r : ℕ × ℕ) → Contains (p ∷ ps) r → Contains (q ∷ qs) r) → (r : ℕ × ℕ) → Contains ps r → Contains qs r
rest_too p q ps qs same up up' to r (k, within, is) = elim (member r q qs up' (to r (suc k, omega (arith, within), is))) [
  | inl first ↦ absurd (
      let above : IsPairBelow p r = subst (λ s. IsPairBelow p s) is (up 0 (suc k) r (omega arith) (omega (arith, within))) in
      let self : IsPairBelow r r = subst (λ s. IsPairBelow s r) (same ∙ first) above in
      not_both r r self self)
  | inr behind ↦ behind.1
]

pub same_pairs : (ps qs : List (ℕ × ℕ)) → ArePairsAscending ps → ArePairsAscending qs → ((r : ℕ × ℕ) → Contains ps r → Contains qs r) → ((r : ℕ × ℕ) → Contains qs r → Contains ps r) → ps ≡ qs
same_pairs [] [] up up' to from = refl
same_pairs [] (q ∷ qs) up up' to from = absurd (let none : Contains {X = ℕ × ℕ} [] q = from q (0, omega arith, refl) in omega (arith, none.1))
same_pairs (p ∷ ps) [] up up' to from = absurd (let none : Contains {X = ℕ × ℕ} [] p = to p (0, omega arith, refl) in omega (arith, none.1))
same_pairs (p ∷ ps) (q ∷ qs) up up' to from =
    let same = first_same p q ps qs up up' to from in
    ap (λ r. r ∷ ps) same ∙ ap (λ rs. q ∷ rs) (same_pairs ps qs (rest p ps up) (rest q qs up') (rest_too p q ps qs same up up' to) (rest_too q p qs ps (sym same) up' up from))

-- ---- groupings

-- a grouping of nodes
pub record Grouping {N : Type 0} (IsNode : N → Type 0) (before link flow : N → N → Type 0) : Type 0 where
  pub group : N → ℕ
  pub count : ℕ
  pub pairs : List (ℕ × ℕ)
  pub are : AreGroups IsNode before link flow group count pairs

module _ {N : Type 0} {IsNode : N → Type 0} {before link flow : N → N → Type 0} where
  -- nodes of one group are of one group by the other grouping
  across : (a b : Grouping IsNode before link flow) (m n : N) → IsNode m → IsNode n → a.group m ≡ a.group n → b.group m ≡ b.group n
  across a b m n is_m is_n e = (b.are.same m n is_m is_n).1 ((a.are.same m n is_m is_n).0 e)

  -- the nodes in the groups below a number are in the groups of the same numbers by the other
  abbrev Agrees : Grouping IsNode before link flow → Grouping IsNode before link flow → ℕ → Type 0
  Agrees a b k = (n : N) → IsNode n → a.group n < k → b.group n ≡ a.group n

  module _ (ends : (m n : N) → flow m n → IsNode m × IsNode n) where
    -- what leads to a node's group by the one grouping is below its number by the other
    ready : (a b : Grouping IsNode before link flow) (k : ℕ) → Agrees a b k → (n : N) → IsNode n → a.group n ≡ k → (e : ℕ) → Contains b.pairs (e, b.group n) → e < k
    ready a b k agree n is_n is e there =
        let edge = (b.are.edges e (b.group n)).0 there in
        let m : N = edge.1.0 in
        let o : N = edge.1.1 in
        let at = ends m o edge.1.2 in
        let from : b.group m ≡ e = edge.1.3 in
        let to : b.group o ≡ b.group n = edge.1.4 in
        let same : a.group o ≡ k = across b a o n at.1 is_n to ∙ is in
        let apart : a.group m ≡ a.group o → ⊥ = λ h. edge.0 (sym from ∙ across a b m o at.0 at.1 h ∙ to) in
        let less : a.group m < a.group o = a.are.rises (a.group m) (a.group o) ((a.are.edges (a.group m) (a.group o)).1 (apart, (m, o, edge.1.2, refl, refl))) in
        let h : b.group m ≡ a.group m = agree m at.0 (omega (arith, less, same)) in
        omega (arith, h, from, less, same)

    module _ (asymmetric : (m n : N) → before m n → before n m → ⊥) where
      -- no node's group has this number by the one grouping, and a greater one by the other
      not_greater : (a b : Grouping IsNode before link flow) (k : ℕ) → Agrees a b k → Agrees b a k → (n : N) → IsNode n → a.group n ≡ k → k < b.group n → ⊥
      not_greater a b k to from n is_n is less =
          let other = b.are.used k (omega (arith, less, b.are.below n is_n)) in
          let m : N = other.0 in
          let is_m : IsNode m = other.1 in
          let at : b.group m ≡ k = other.2 in
          let greater : k < a.group m = elim (cases_lt k (a.group m)) [
            | inl lt ↦ lt
            | inr ge ↦ elim (cases_eq (a.group m) k) [
              | inl eq ↦ absurd (let h : b.group m ≡ b.group n = across a b m n is_m is_n (eq ∙ sym is) in omega (arith, h, at, less))
              | inr ne ↦ absurd (let lt : a.group m < k = omega (arith, ge, ne) in let h : b.group m ≡ a.group m = to m is_m lt in omega (arith, h, at, lt))
            ]
          ] in
          let first_b = b.are.first k (b.group n) less (b.are.below n is_n) (ready a b k to n is_n is) in
          let first_a = a.are.first k (a.group m) greater (a.are.below m is_m) (ready b a k from m is_m at) in
          let x : N = first_b.0 in
          let y : N = first_a.0 in
          let y_is : b.group y ≡ b.group n = across a b y n first_a.1 is_n (first_a.2 ∙ sym is) in
          let x_is : a.group x ≡ a.group m = across b a x m first_b.1 is_m (first_b.2 ∙ sym at) in
          asymmetric x y (first_b.3 y first_a.1 y_is) (first_a.3 x first_b.1 x_is)

      at_number : (a b : Grouping IsNode before link flow) (k : ℕ) → Agrees a b k → Agrees b a k → (n : N) → IsNode n → a.group n ≡ k → b.group n ≡ k
      at_number a b k to from n is_n is = elim (cases_eq (b.group n) k) [
        | inl eq ↦ eq
        | inr ne ↦ elim (cases_lt k (b.group n)) [
          | inl lt ↦ absurd (not_greater a b k to from n is_n is lt)
          | inr ge ↦ absurd (let lt : b.group n < k = omega (arith, ge, ne) in let h : a.group n ≡ b.group n = from n is_n lt in omega (arith, h, is, lt))
        ]
      ]

      one_more : (a b : Grouping IsNode before link flow) (k : ℕ) → Agrees a b k → Agrees b a k → Agrees a b (suc k)
      one_more a b k to from n is_n lt = elim (cases_lt (a.group n) k) [
        | inl less ↦ to n is_n less
        | inr ge ↦ (let is : a.group n ≡ k = omega (arith, lt, ge) in at_number a b k to from n is_n is ∙ sym is)
      ]

      agree : (a b : Grouping IsNode before link flow) (k : ℕ) → Agrees a b k × Agrees b a k
      agree a b zero = ((λ n is_n lt. absurd (omega (arith, lt))), (λ n is_n lt. absurd (omega (arith, lt))))
      agree a b (suc k) = let below = agree a b k in (one_more a b k below.0 below.1, one_more b a k below.1 below.0)

      -- each node is in the group of the same number
      pub same_group : (a b : Grouping IsNode before link flow) (n : N) → IsNode n → b.group n ≡ a.group n
      same_group a b n is_n = (agree a b (suc (a.group n))).0 n is_n (omega arith)

      no_more : (a b : Grouping IsNode before link flow) → a.count < b.count → ⊥
      no_more a b less =
          let n = b.are.used a.count less in
          let h : b.group n.0 ≡ a.group n.0 = same_group a b n.0 n.1 in
          omega (arith, h, n.2, a.are.below n.0 n.1)

      pub same_count : (a b : Grouping IsNode before link flow) → a.count ≡ b.count
      same_count a b = elim (cases_lt a.count b.count) [
        | inl less ↦ absurd (no_more a b less)
        | inr ge ↦ elim (cases_lt b.count a.count) [
          | inl less ↦ absurd (no_more b a less)
          | inr le ↦ omega (arith, ge, le)
        ]
      ]

      edge_too : (a b : Grouping IsNode before link flow) (c d : ℕ) → IsEdgeBetween flow a.group c d → IsEdgeBetween flow b.group c d
      edge_too a b c d (apart, (m, n, flows, from, to)) =
          let at = ends m n flows in
          (apart, (m, n, flows, same_group a b m at.0 ∙ from, same_group a b n at.1 ∙ to))

      pair_too : (a b : Grouping IsNode before link flow) (r : ℕ × ℕ) → Contains a.pairs r → Contains b.pairs r
      pair_too a b r there = (b.are.edges r.0 r.1).1 (edge_too a b r.0 r.1 ((a.are.edges r.0 r.1).0 there))

      pub same_edges : (a b : Grouping IsNode before link flow) → a.pairs ≡ b.pairs
      same_edges a b = same_pairs a.pairs b.pairs a.are.ascending b.are.ascending (pair_too a b) (pair_too b a)

-- ---- the groupings of a graph

same_groups : (a b : Groups) → a.numbers ≡ b.numbers → a.count ≡ b.count → a.edges ≡ b.edges → a ≡ b
same_groups a b numbers count edges =
    subst (λ (g : Groups). g ≡ b) (sym refl)
    (ap (λ (xs : List ℕ). same_of xs a.count a.edges) numbers ∙ ap (λ c. same_of b.numbers c a.edges) count ∙ ap (λ (es : List (ℕ × ℕ)). same_of b.numbers b.count es) edges)
  where
    same_of : List ℕ → ℕ → List (ℕ × ℕ) → Groups
    same_of ns c es = record { numbers = ns; count = c; edges = es }

module _ (graph : Graph) where
  ends : (u v : ℕ) → HasEdge graph u v → (u < graph.nodes) × (v < graph.nodes)
  ends u v h = (leads_from graph u v h, leads_to graph u v h)

  abbrev as_grouping : (groups : Groups) → AreGroupsOf graph groups → Grouping (λ u. u < graph.nodes) ◌<◌ (HasEdge graph) (HasEdge graph)
  as_grouping groups of = record { group = λ u. get_or groups.numbers u 0; count = groups.count; pairs = groups.edges; are = of.are }

  pub one_grouping : (a b : Groups) → AreGroupsOf graph a → AreGroupsOf graph b → a ≡ b
  one_grouping a b are others =
      let one = as_grouping a are in
      let other = as_grouping b others in
      let order : (u v : ℕ) → u < v → v < u → ⊥ = λ u v lt gt. omega (arith, lt, gt) in
      same_groups a b
      (ext_get_or 0 a.numbers b.numbers (are.each ∙ sym others.each) (λ u lt. sym (same_group ends order one other u (omega (arith, lt, are.each)))))
      (same_count ends order one other)
      (same_edges ends order one other)
