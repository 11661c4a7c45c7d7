-- Edges, which are there or not, and ways of edges: they are joined, and no way raises a number that no edge raises.
use Rattle.std.proofs.Common.{◌⊎◌, ℕ, ◌<◌, ◌≤◌, Bool, true, false, IsTrue, List, [], get_or, refl, inl, inr, arith}
use Rattle.std.proofs.lemmas.Bool.{cases_lt}
use Rattle.pac_graph.specs.Graph.{Graph, HasEdge, Reach, Here, Onward}

pub along : {N : Type 0} {edge : N → N → Type 0} {a b c : N} → Reach edge a b → Reach edge b c → Reach edge a c
along (Here a) s = s
along (Onward a b c e r) s = Onward a b _ e (along r s)

pub one_edge : {N : Type 0} {edge : N → N → Type 0} (a b : N) → edge a b → Reach edge a b
one_edge a b e = Onward a b b e (Here b)

pub falls_along : {edge : ℕ → ℕ → Type 0} (numbers : List ℕ) → ((u v : ℕ) → edge u v → get_or numbers v 0 ≤ get_or numbers u 0) → {u v : ℕ} → Reach edge u v → get_or numbers v 0 ≤ get_or numbers u 0
falls_along numbers falls (Here u) = omega arith
falls_along numbers falls (Onward a b c e r) = omega (arith, falls a b e, falls_along numbers falls r)

-- a way of edges is one of any edges that these are
pub by_edges : {N : Type 0} {edge edge' : N → N → Type 0} → ((a b : N) → edge a b → edge' a b) → {a b : N} → Reach edge a b → Reach edge' a b
by_edges same (Here a) = Here a
by_edges same (Onward a b c e r) = Onward a b c (same a b e) (by_edges same r)

pub leads_from : (g : Graph) (u v : ℕ) → HasEdge g u v → u < g.nodes
unfolding HasEdge
leads_from g u v e = e.0

pub leads_to : (g : Graph) (u v : ℕ) → HasEdge g u v → v < g.nodes
unfolding HasEdge
leads_to g u v e = e.1

is_or_not : (b : Bool) → IsTrue b ⊎ (IsTrue b → ⊥)
is_or_not true = inl refl
is_or_not false = inr (λ e. cc)

-- an edge is there or not
pub edge_or_none : (g : Graph) (a b : ℕ) → HasEdge g a b ⊎ (HasEdge g a b → ⊥)
unfolding HasEdge
edge_or_none g a b = elim (cases_lt a g.nodes) [
  | inr far ↦ inr (λ e. omega (arith, e.0, far))
  | inl ina ↦ elim (cases_lt b g.nodes) [
    | inr far ↦ inr (λ e. omega (arith, e.1, far))
    | inl inb ↦ elim (is_or_not (get_or (get_or g.edges a []) b false)) [ inl is ↦ inl (ina, inb, is) | inr none ↦ inr (λ e. none e.2) ]
  ]
]
