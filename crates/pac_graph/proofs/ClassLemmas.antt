-- How many classes there are, and the classes that a search has found once all nodes are done.
use Rattle.std.proofs.Common.{◌≡◌, ℕ, zero, suc, ◌<◌, ◌≤◌, List, [], ◌∷◌, length, get_or, ◌∙◌, subst, arith}
use Rattle.pac_graph.specs.declared.search.Mark.{Mark}
use Rattle.pac_graph.specs.declared.search.Mark.TheVariants.{Done}
use Rattle.pac_graph.specs.Graph.{Graph, HasEdge}
use Rattle.pac_graph.specs.Classes.{class_count, AreClasses, IsClassCount}
use Rattle.pac_graph.specs.Search.{mark_of, IsSearch, IsSearched}
use Rattle.pac_graph.proofs.GraphLemmas.{falls_along, leads_from}
use Rattle.pac_graph.proofs.MarkLemmas.{done_within}

-- each class is below the count
pub below_count : (classes : List ℕ) (u : ℕ) → u < length classes → get_or classes u 0 < class_count classes
below_count [] u lt = let never : ⊥ = omega (arith, lt) in absurd never
below_count (class ∷ classes) zero lt = omega arith
below_count (class ∷ classes) (suc u) lt = let rest : get_or classes u 0 < class_count classes = below_count classes u (omega (arith, lt)) in omega (arith, rest)

-- the count is no more than what is above each class
count_below : (classes : List ℕ) (n : ℕ) → ((u : ℕ) → u < length classes → get_or classes u 0 < n) → class_count classes ≤ n
count_below [] n below = omega arith
count_below (class ∷ classes) n below =
    let here : class < n = below 0 (omega arith) in
    let rest : class_count classes ≤ n = count_below classes n (λ u lt. below (suc u) (omega (arith, lt))) in
    omega (arith, here, rest)

-- numbers below n that leave none out are n classes
pub is_count : (classes : List ℕ) (n : ℕ) → ((u : ℕ) → u < length classes → get_or classes u 0 < n) → ((c : ℕ) → c < n → (u : ℕ) × (u < length classes) × (get_or classes u 0 ≡ c)) → n ≡ class_count classes
is_count classes zero below used = omega (arith, count_below classes 0 below)
is_count classes (suc n) below used =
    let last = used n (omega arith) in
    omega (arith, count_below classes (suc n) below, below_count classes last.0 last.1, last.2)

module _ (g : Graph) (marks : List Mark) (stack : List ℕ) (count : ℕ) (numbers : List ℕ) (found : IsSearched (HasEdge g) g.nodes marks stack count) (size : length numbers ≡ length marks) (number : (u c : ℕ) → mark_of marks u ≡ Done c → get_or numbers u 0 ≡ c) where
  s : IsSearch (HasEdge g) g.nodes marks stack count
  s = found.search

  falls : (u v : ℕ) → HasEdge g u v → get_or numbers v 0 ≤ get_or numbers u 0
  falls u v e = let d = found.done u (leads_from g u v e) in let r = s.falls u v d.0 d.1 e in omega (arith, number u d.0 d.1, number v r.0 r.1, r.2)

  within : (u c : ℕ) → mark_of marks u ≡ Done c → u < length numbers
  within u c is = omega (arith, size, done_within marks u c is)

  below : (u : ℕ) → u < length numbers → get_or numbers u 0 < count
  below u lt = let d = found.done u (omega (arith, lt, size, s.size)) in omega (arith, s.below u d.0 d.1, number u d.0 d.1)

  used : (c : ℕ) → c < count → (u : ℕ) × (u < length numbers) × (get_or numbers u 0 ≡ c)
  used c lt = let r = s.used c lt in (r.0, within r.0 c r.1, number r.0 c r.1)

  is : count ≡ class_count numbers
  is = is_count numbers count below used

  pub found_count : IsClassCount numbers count
  found_count = record { is = is; used = used; few = omega (arith, s.room, size, s.size) }

  -- two nodes with one number are done with one class
  both_reach : (u v : ℕ) → u < g.nodes → v < g.nodes → get_or numbers u 0 ≡ get_or numbers v 0 → (c : ℕ) × (mark_of marks u ≡ Done c) × (mark_of marks v ≡ Done c)
  both_reach u v ul vl e =
      let du = found.done u ul in
      let dv = found.done v vl in
      let eu : get_or numbers u 0 ≡ du.0 = number u du.0 du.1 in
      let ev : get_or numbers v 0 ≡ dv.0 = number v dv.0 dv.1 in
      let same : dv.0 ≡ du.0 = omega (arith, e, eu, ev) in
      (du.0, du.1, subst (λ c. mark_of marks v ≡ Done c) same dv.1)

  pub found_classes : AreClasses g numbers
  found_classes = record {
    each = size ∙ s.size;
    same = λ u v ul vl. ((λ e. (let d = both_reach u v ul vl e in (s.same u v d.0 d.1 d.2, s.same v u d.0 d.2 d.1))), (λ r. omega (arith, falls_along numbers falls r.0, falls_along numbers falls r.1)));
  }
