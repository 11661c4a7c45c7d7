-- The edges between operations and the virtual writes of their tables, and all edges of a procedure.
use Rattle.std.proofs.Common.{◌≡◌, ◌⊎◌, ◌↔◌, ℕ, ◌+◌, ◌<◌, ◌≤◌, List, length, Some, sym, ◌∙◌, subst, arith}
use Rattle.std.specs.Prelude.{slice_get}
use Rattle.std.proofs.lemmas.Option.{same_Some}
use Rattle.pac_ops.specs.declared.program.FlatOp.{FlatOp}
use Rattle.pac_ops.specs.declared.program.Program.{Program}
use Rattle.pac_ops.specs.Uses.{accessed_table}
use Rattle.pac_graph.specs.Adding.{IsUpTo}
use Rattle.pac_base.proofs.ItemLemmas.{there, so, inside}
use Rattle.pac_slice.specs.Dependent.{IsFlowAt}
use Rattle.pac_ops.specs.Programs.{count_ops}
use Rattle.pac_global.specs.Drawing.{first_of, IsBothWays, IsHomeEdge, HasHomeEdge, HasEdgeOf}

module _ (ops : List FlatOp) (first total : ℕ) where
  module _ (i : ℕ) (op : FlatOp) (at : slice_get ops i ≡ Some op) where
    pub home_edges : (t s : ℕ) → accessed_table op.kind ≡ Some t → s ≡ t → (u v : ℕ) → IsBothWays (first + i) (total + s) u v ↔ IsHomeEdge ops first total i u v
    home_edges t s is same u v = (
      (λ b. (t, there ops i op (λ (o : FlatOp). accessed_table o.kind ≡ Some t) at is, subst (λ k. IsBothWays (first + i) (total + k) u v) same b)),
      (λ (r, accesses, b). subst (λ k. IsBothWays (first + i) (total + k) u v) (same_Some r t (sym (so ops i op (λ (o : FlatOp). accessed_table o.kind ≡ Some r) at accesses) ∙ is) ∙ sym same) b),
    )

    pub no_home : ((t : ℕ) → accessed_table op.kind ≡ Some t → ⊥) → (u v : ℕ) → IsHomeEdge ops first total i u v → ⊥
    no_home none u v (t, accesses, b) = none t (so ops i op (λ (o : FlatOp). accessed_table o.kind ≡ Some t) at accesses)

  pub homes_all : (n : ℕ) → length ops ≤ n → (u v : ℕ) → IsUpTo (IsHomeEdge ops first total) n u v ↔ HasHomeEdge ops first total u v
  homes_all n le u v = (
    (λ (i, lt, e). (i, e)),
    (λ (i, e). (i, (let lt : i < length ops = inside ops i (λ (op : FlatOp). accessed_table op.kind ≡ Some e.0) e.1 in omega (arith, lt, le)), e)),
  )

module _ (programs : List Program) where
  pub program_edges : (p : ℕ) (program : Program) → slice_get programs p ≡ Some program → (ops : List FlatOp) (first total : ℕ) → ops ≡ program.ops → first ≡ first_of programs p → total ≡ count_ops programs → (u v : ℕ) → (IsFlowAt ops first u v ⊎ HasHomeEdge ops first total u v) ↔ HasEdgeOf programs p u v
  program_edges p program at ops first total is_ops is_first is_total u v = (
    (λ s. there programs p program (λ (q : Program). Edge q.ops (first_of programs p) (count_ops programs)) at
        (subst (λ os. Edge os (first_of programs p) (count_ops programs)) is_ops (subst (λ f. Edge ops f (count_ops programs)) is_first (subst (λ t. Edge ops first t) is_total s)))),
    (λ e. subst (λ t. Edge ops first t) (sym is_total) (subst (λ f. Edge ops f (count_ops programs)) (sym is_first) (subst (λ os. Edge os (first_of programs p) (count_ops programs)) (sym is_ops)
        (so programs p program (λ (q : Program). Edge q.ops (first_of programs p) (count_ops programs)) at e)))),
  )
    where
      Edge : List FlatOp → ℕ → ℕ → Type 0
      Edge os f t = IsFlowAt os f u v ⊎ HasHomeEdge os f t u v

  pub programs_all : (n : ℕ) → length programs ≤ n → (u v : ℕ) → IsUpTo (HasEdgeOf programs) n u v ↔ ((p : ℕ) × HasEdgeOf programs p u v)
  programs_all n le u v = (
    (λ (p, lt, e). (p, e)),
    (λ (p, e). (p, (let lt : p < length programs = inside programs p (λ (q : Program). IsFlowAt q.ops (first_of programs p) u v ⊎ HasHomeEdge q.ops (first_of programs p) (count_ops programs) u v) e in omega (arith, lt, le)), e)),
  )
