-- The groups of the graph of a procedure's links are its slices.
use Rattle.std.proofs.Common.{◌≡◌, ◌⊎◌, ◌↔◌, ℕ, ◌<◌, ◌≤◌, List, length, Some, true, refl, subst, inl, inr, ⊎_elim, arith}
use Rattle.std.specs.Prelude.{slice_index}
use Rattle.std.proofs.lemmas.Bool.{cases_eq, cases_lt}
use Rattle.pac_ops.specs.declared.program.FlatOp.{FlatOp}
use Rattle.pac_ops.specs.Uses.{op_uses, defined_variable}
use Rattle.pac_ops.specs.Dependencies.{IsFlow, IsConflict}
use Rattle.pac_graph.specs.Graph.{Graph, HasEdge}
use Rattle.pac_graph.specs.Classes.{class_count}
use Rattle.pac_graph.specs.Groups.{AreGroups}
use Rattle.pac_graph.specs.Adding.{Adds, IsUpTo}
use Rattle.pac_graph.proofs.AddLemmas.{adds_then}
use Rattle.pac_graph.proofs.GraphLemmas.{one_edge, leads_from, leads_to}
use Rattle.pac_graph.proofs.ClassLemmas.{is_count}
use Rattle.pac_graph.proofs.DrawingLemmas.{IsDrawing, drawn_groups}
use Rattle.pac_slice.specs.Dependent.{IsFlowAt, IsConflictFrom}
use Rattle.pac_slice.specs.Slices.{IsLink}
use Rattle.pac_slice.proofs.FlowLemmas.{flow_zero}
use Rattle.pac_slice.proofs.PairLemmas.{only_added}
use Rattle.pac_base.proofs.ItemLemmas.{inside}
use Rattle.pac_slice.proofs.ConflictLemmas.{conflict_all}

module _ (ops : List FlatOp) where
  pub flow_inside : (i j : ℕ) → IsFlow ops i j → (i < length ops) × (j < length ops)
  flow_inside i j (lt, x) = (inside ops i (λ op. defined_variable op.kind ≡ Some x.0) x.1, inside ops j (λ op. op_uses x.0 op ≡ true) x.2)

  conflict_back : (i j : ℕ) → IsConflict ops i j → IsConflict ops j i
  conflict_back i j (t, which) = ((t.0, t.2, t.1), ⊎_elim (λ m. inr m) (λ m. inl m) which)

  -- flow was added to a graph without edges, and then the conflicts
  pub linked : (old flow g : Graph) (n : ℕ) → length ops ≤ n → ((u v : ℕ) → HasEdge old u v → ⊥) → Adds old (IsFlowAt ops 0) flow → Adds flow (IsUpTo (IsConflictFrom ops 0) n) g → (u v : ℕ) → HasEdge g u v ↔ IsLink ops u v
  linked old flow g n le none first second u v = only_added old g (λ a b. IsFlowAt ops 0 a b ⊎ IsUpTo (IsConflictFrom ops 0) n a b) (IsLink ops) none (adds_then old flow g (IsFlowAt ops 0) (IsUpTo (IsConflictFrom ops 0) n) first second)
      (λ a b. (
        (λ s. ⊎_elim (λ f. inl ((flow_zero ops a b).0 f)) (λ c. inr ((conflict_all ops n le a b).0 c)) s),
        (λ s. ⊎_elim (λ f. inl ((flow_zero ops a b).1 f)) (λ c. inr ((conflict_all ops n le a b).1 c)) s),
      )) u v

  module _ (g : Graph) (nodes : g.nodes ≡ length ops) (is : (i j : ℕ) → HasEdge g i j ↔ IsLink ops i j) where
    drawing : IsDrawing g (λ i. i < length ops) ◌<◌ (IsLink ops) (IsFlow ops) (λ i. i)
    drawing = record {
      within = λ i lt. omega (arith, lt, nodes);
      each = λ u lt. (u, omega (arith, lt, nodes), refl);
      rises = λ i j li lj lt. lt;
      total = λ i j. elim (cases_lt i j) [ inl lt ↦ inl lt | inr ge ↦ elim (cases_eq i j) [ inl e ↦ inr (inl e) | inr ne ↦ inr (inr (omega (arith, ge, ne))) ] ];
      is_way = λ i j link. one_edge i j ((is i j).1 link);
      is_link = λ i j flow. inl flow;
      is_edge = λ i j flow. (is i j).1 (inl flow);
      nodes = λ i j flow. flow_inside i j flow;
      edge_is = λ u v e. (
        u,
        v,
        omega (arith, leads_from g u v e, nodes),
        omega (arith, leads_to g u v e, nodes),
        refl,
        refl,
        ⊎_elim (λ flow. inl flow) (λ conflict. inr (one_edge u v (inr conflict), one_edge v u (inr (conflict_back u v conflict)))) ((is u v).0 e),
      );
    }

    pub slice_groups : (numbers : List ℕ) (count : ℕ) (pairs : List (ℕ × ℕ)) → length numbers ≡ g.nodes → AreGroups (λ u. u < g.nodes) ◌<◌ (HasEdge g) (HasEdge g) (slice_index numbers) count pairs → AreGroups (λ i. i < length ops) ◌<◌ (IsLink ops) (IsFlow ops) (slice_index numbers) (class_count numbers) pairs
    slice_groups numbers count pairs size are =
        let n : count ≡ class_count numbers = is_count numbers count (λ u lt. are.below u (omega (arith, lt, size))) (λ c lt. (let f = are.used c lt in (f.0, omega (arith, f.1, size), f.2))) in
        drawn_groups g (λ i. i < length ops) ◌<◌ (IsLink ops) (IsFlow ops) (λ i. i) drawing numbers (class_count numbers) pairs
        (subst (λ k. AreGroups (λ u. u < g.nodes) ◌<◌ (HasEdge g) (HasEdge g) (slice_index numbers) k pairs) n are) (slice_index numbers) (λ i lt. refl)
