-- The graph that is searched stands for all operations and virtual writes.
use Rattle.std.proofs.Common.{◌≡◌, ◌⊎◌, ◌↔◌, ℕ, ◌+◌, ◌-◌, ◌<◌, List, length, Some, refl, sym, ap, subst, inl, inr, ⊎_elim, arith}
use Rattle.std.specs.Prelude.{slice_get}
use Rattle.std.proofs.lemmas.Bool.{cases_eq, cases_lt}
use Rattle.pac_ops.specs.declared.program.FlatOp.{FlatOp}
use Rattle.pac_ops.specs.declared.program.Program.{Program}
use Rattle.pac_ops.specs.Uses.{accessed_table}
use Rattle.pac_ops.specs.Dependencies.{IsFlow, Accesses}
use Rattle.pac_graph.specs.Graph.{Graph, HasEdge, Reach, Here, ReachEachOther}
use Rattle.pac_graph.proofs.GraphLemmas.{along, one_edge}
use Rattle.pac_base.proofs.ItemLemmas.{there, item, inside}
use Rattle.pac_graph.proofs.DrawingLemmas.{IsDrawing}
use Rattle.pac_slice.specs.Dependent.{IsFlowAt}
use Rattle.pac_slice.proofs.SliceLemmas.{flow_inside}
use Rattle.pac_plan.specs.Nodes.{Node, Operation, VirtualWrite, IsNode, ComesBefore, Flows, NodeAccesses, Conflicts, IsNodeLink}
use Rattle.pac_ops.specs.Programs.{count_ops}
use Rattle.pac_global.specs.Drawing.{first_of, number_in, IsBothWays, HasHomeEdge, HasEdgeOf}
use Rattle.pac_global.proofs.OffsetLemmas.{first_within, first_later, placed}

module _ (programs : List Program) (tables : ℕ) (in_range : (p i t : ℕ) (program : Program) → slice_get programs p ≡ Some program → Accesses program.ops i t → t < tables) (g : Graph) (nodes : g.nodes ≡ count_ops programs + tables) (edges : (u v : ℕ) → HasEdge g u v ↔ ((p : ℕ) × HasEdgeOf programs p u v)) where
  number : Node → ℕ
  number n = number_in programs n

  node_at : (p i : ℕ) → IsNode programs tables (Operation p i) → (program : Program) × (slice_get programs p ≡ Some program) × (i < length program.ops)
  node_at p i node = item programs p (λ (q : Program). i < length q.ops) node

  below_count : (p i : ℕ) → IsNode programs tables (Operation p i) → first_of programs p + i < count_ops programs
  below_count p i node = let q = node_at p i node in omega (arith, first_within programs p q.0 q.1, q.2)

  within : (n : Node) → IsNode programs tables n → number_in programs n < g.nodes
  within (Operation p i) node = let lt : first_of programs p + i < count_ops programs = below_count p i node in omega (arith, lt, nodes)
  within (VirtualWrite t) node = omega (arith, node, nodes)

  each : (u : ℕ) → u < g.nodes → (n : Node) × IsNode programs tables n × (number_in programs n ≡ u)
  each u lt = elim (cases_lt u (count_ops programs)) [
    | inl op ↦ (let r = placed programs u op in (Operation r.0 r.1, there programs r.0 r.2 (λ (q : Program). r.1 < length q.ops) r.3 r.4, r.5))
    | inr after ↦ (VirtualWrite (u - count_ops programs), omega (arith, lt, nodes, after), omega (arith, after))
  ]

  rises : (m n : Node) → IsNode programs tables m → IsNode programs tables n → ComesBefore m n → number_in programs m < number_in programs n
  rises (Operation p i) (Operation q j) im in_ (inl lt) = let x = node_at p i im in omega (arith, first_later programs p q x.0 lt x.1, x.2)
  rises (Operation p i) (Operation q j) im in_ (inr (same, lt)) = let e : first_of programs p ≡ first_of programs q = ap (first_of programs) same in omega (arith, e, lt)
  rises (Operation p i) (VirtualWrite t) im in_ before = let lt : first_of programs p + i < count_ops programs = below_count p i im in omega (arith, lt)
  rises (VirtualWrite s) (Operation q j) im in_ before = absurd before
  rises (VirtualWrite s) (VirtualWrite t) im in_ before = omega (arith, before)

  total : (m n : Node) → ComesBefore m n ⊎ (m ≡ n) ⊎ ComesBefore n m
  total (Operation p i) (Operation q j) = elim (cases_lt p q) [
    | inl lt ↦ inl (inl lt)
    | inr ge ↦ elim (cases_eq p q) [
      | inr ne ↦ inr (inr (inl (omega (arith, ge, ne))))
      | inl same ↦ elim (cases_lt i j) [
        | inl lt ↦ inl (inr (same, lt))
        | inr more ↦ elim (cases_eq i j) [
          | inl here ↦ inr (inl (λ k. Operation (same k) (here k)))
          | inr apart ↦ inr (inr (inr (sym same, omega (arith, more, apart))))
        ]
      ]
    ]
  ]
  total (Operation p i) (VirtualWrite t) = inl tt
  total (VirtualWrite s) (Operation q j) = inr (inr tt)
  total (VirtualWrite s) (VirtualWrite t) = elim (cases_lt s t) [
    | inl lt ↦ inl lt
    | inr ge ↦ elim (cases_eq s t) [ inl same ↦ inr (inl (λ k. VirtualWrite (same k))) | inr ne ↦ inr (inr (omega (arith, ge, ne))) ]
  ]

  -- the edges of an operation on a table
  home_edge : (p i t u v : ℕ) → NodeAccesses programs tables (Operation p i) t → IsBothWays (first_of programs p + i) (count_ops programs + t) u v → HasEdge g u v
  home_edge p i t u v accesses both =
      let q = item programs p (λ (q : Program). Accesses q.ops i t) accesses in
      (edges u v).1 (p, there programs p q.0 (λ (r : Program). IsFlowAt r.ops (first_of programs p) u v ⊎ HasHomeEdge r.ops (first_of programs p) (count_ops programs) u v) q.1 (inr (i, (t, q.2, both))))

  to_write : (m : Node) (t : ℕ) → NodeAccesses programs tables m t → Reach (HasEdge g) (number_in programs m) (count_ops programs + t)
  to_write (Operation p i) t accesses = one_edge (first_of programs p + i) (count_ops programs + t) (home_edge p i t (first_of programs p + i) (count_ops programs + t) accesses (inl (refl, refl)))
  to_write (VirtualWrite s) t accesses = subst (λ k. Reach (HasEdge g) (count_ops programs + s) (count_ops programs + k)) accesses.0 (Here (count_ops programs + s))

  from_write : (n : Node) (t : ℕ) → NodeAccesses programs tables n t → Reach (HasEdge g) (count_ops programs + t) (number_in programs n)
  from_write (Operation p i) t accesses = one_edge (count_ops programs + t) (first_of programs p + i) (home_edge p i t (count_ops programs + t) (first_of programs p + i) accesses (inr (refl, refl)))
  from_write (VirtualWrite s) t accesses = subst (λ k. Reach (HasEdge g) (count_ops programs + k) (count_ops programs + s)) accesses.0 (Here (count_ops programs + s))

  is_edge : (m n : Node) → Flows programs m n → HasEdge g (number_in programs m) (number_in programs n)
  is_edge (Operation p i) (Operation q j) (same, flow) =
      let r = item programs p (λ (r : Program). IsFlow r.ops i j) flow in
      let e : first_of programs q + j ≡ first_of programs p + j = ap (λ k. first_of programs k + j) (sym same) in
      (edges (first_of programs p + i) (first_of programs q + j)).1 (p, there programs p r.0 (λ (s : Program). IsFlowAt s.ops (first_of programs p) (first_of programs p + i) (first_of programs q + j) ⊎ HasHomeEdge s.ops (first_of programs p) (count_ops programs) (first_of programs p + i) (first_of programs q + j)) r.1 (inl (i, (j, r.2, refl, e))))
  is_edge (Operation p i) (VirtualWrite t) flow = absurd flow
  is_edge (VirtualWrite s) n flow = absurd flow

  flow_nodes : (m n : Node) → Flows programs m n → IsNode programs tables m × IsNode programs tables n
  flow_nodes (Operation p i) (Operation q j) (same, flow) =
      let r = item programs p (λ (r : Program). IsFlow r.ops i j) flow in
      let in_ops = flow_inside r.0.ops i j r.2 in
      (there programs p r.0 (λ (s : Program). i < length s.ops) r.1 in_ops.0, subst (λ k. IsNode programs tables (Operation k j)) same (there programs p r.0 (λ (s : Program). j < length s.ops) r.1 in_ops.1))
  flow_nodes (Operation p i) (VirtualWrite t) flow = absurd flow
  flow_nodes (VirtualWrite s) n flow = absurd flow

  is_way : (m n : Node) → IsNodeLink programs tables m n → Reach (HasEdge g) (number_in programs m) (number_in programs n)
  is_way m n (inl flow) = one_edge (number_in programs m) (number_in programs n) (is_edge m n flow)
  is_way m n (inr (t, which)) = along (to_write m t.0 t.1) (from_write n t.0 t.2)

  Drawn : ℕ → ℕ → Type 0
  Drawn u v = (m : Node) × (n : Node) × IsNode programs tables m × IsNode programs tables n × (number_in programs m ≡ u) × (number_in programs n ≡ v) × (Flows programs m n ⊎ ReachEachOther (IsNodeLink programs tables) m n)

  drawn : (p : ℕ) (q : Program) → slice_get programs p ≡ Some q → (u v : ℕ) → IsFlowAt q.ops (first_of programs p) u v ⊎ HasHomeEdge q.ops (first_of programs p) (count_ops programs) u v → Drawn u v
  unfolding Drawn
  drawn p q at u v (inl (i, (j, flow, eu, ev))) =
      let in_ops = flow_inside q.ops i j flow in
      (Operation p i, Operation p j, there programs p q (λ (s : Program). i < length s.ops) at in_ops.0, there programs p q (λ (s : Program). j < length s.ops) at in_ops.1, sym eu, sym ev, inl (refl, there programs p q (λ (s : Program). IsFlow s.ops i j) at flow))
  drawn p q at u v (inr (i, (t, accesses, both))) = ⊎_elim
      (λ b. (Operation p i, VirtualWrite t, node, in_tables, sym b.0, sym b.1, inr (to, from)))
      (λ b. (VirtualWrite t, Operation p i, in_tables, node, sym b.0, sym b.1, inr (from, to))) both
    where
      node : IsNode programs tables (Operation p i)
      node = there programs p q (λ (s : Program). i < length s.ops) at (inside q.ops i (λ (op : FlatOp). accessed_table op.kind ≡ Some t) accesses)

      in_tables : t < tables
      in_tables = in_range p i t q at accesses

      op_accesses : NodeAccesses programs tables (Operation p i) t
      op_accesses = there programs p q (λ (s : Program). Accesses s.ops i t) at accesses

      to_conflict : Conflicts programs tables (Operation p i) (VirtualWrite t)
      to_conflict = ((t, op_accesses, (refl, in_tables)), inr tt)

      from_conflict : Conflicts programs tables (VirtualWrite t) (Operation p i)
      from_conflict = ((t, (refl, in_tables), op_accesses), inl tt)

      to : Reach (IsNodeLink programs tables) (Operation p i) (VirtualWrite t)
      to = one_edge (Operation p i) (VirtualWrite t) (inr to_conflict)

      from : Reach (IsNodeLink programs tables) (VirtualWrite t) (Operation p i)
      from = one_edge (VirtualWrite t) (Operation p i) (inr from_conflict)

  edge_is : (u v : ℕ) → HasEdge g u v → Drawn u v
  edge_is u v e =
      let p = (edges u v).0 e in
      let q = item programs p.0 (λ (q : Program). IsFlowAt q.ops (first_of programs p.0) u v ⊎ HasHomeEdge q.ops (first_of programs p.0) (count_ops programs) u v) p.1 in
      drawn p.0 q.0 q.1 u v q.2

  pub drawing : IsDrawing g (IsNode programs tables) ComesBefore (IsNodeLink programs tables) (Flows programs) (number_in programs)
  unfolding Drawn
  drawing = record {
    within = within;
    each = each;
    rises = rises;
    total = total;
    is_way = is_way;
    is_link = λ m n flow. inl flow;
    is_edge = is_edge;
    nodes = flow_nodes;
    edge_is = edge_is;
  }
