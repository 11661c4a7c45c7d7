-- The flow of a procedure's operations as edges of a graph, one operation after another.
use Rattle.std.proofs.Common.{◌≡◌, ◌↔◌, ℕ, ◌+◌, ◌<◌, ◌≤◌, List, length, Some, subst, arith}
use Rattle.pac_ops.specs.declared.program.FlatOp.{FlatOp}
use Rattle.pac_ops.specs.Uses.{defined_variable}
use Rattle.pac_ops.specs.Dependencies.{IsFlow}
use Rattle.pac_base.proofs.ItemLemmas.{inside}
use Rattle.pac_graph.specs.Adding.{IsUpTo}
use Rattle.pac_slice.specs.Dependent.{IsFlowAt, IsFlowFrom}

module _ (ops : List FlatOp) (first : ℕ) where
  -- flow from one operation to another, as an edge
  abbrev pub FlowTo : ℕ → ℕ → ℕ → ℕ → Type 0
  FlowTo from j u v = IsFlow ops from j × (u ≡ first + from) × (v ≡ first + j)

  pub flow_at : (n : ℕ) → length ops ≤ n → (u v : ℕ) → IsUpTo (IsFlowFrom ops first) n u v ↔ IsFlowAt ops first u v
  flow_at n le u v = (
    (λ (i, lt, f). (i, f)),
    (λ (i, f). (i, (let lt : i < length ops = inside ops i (λ op. defined_variable op.kind ≡ Some f.1.1.0) f.1.1.1 in omega (arith, lt, le)), f)),
  )

-- flow between operations that are the first nodes
pub flow_zero : (ops : List FlatOp) (u v : ℕ) → IsFlowAt ops 0 u v ↔ IsFlow ops u v
flow_zero ops u v = (
  (λ (i, (j, flow, eu, ev)). (let ei : i ≡ u = omega (arith, eu) in let ej : j ≡ v = omega (arith, ev) in subst (λ a. IsFlow ops a v) ei (subst (λ b. IsFlow ops i b) ej flow))),
  (λ flow. (u, (v, flow, omega arith, omega arith))),
)
