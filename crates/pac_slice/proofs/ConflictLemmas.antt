-- The conflicts of a procedure's operations as edges of a graph, one operation after another.
use Rattle.std.proofs.Common.{◌≡◌, ◌↔◌, ℕ, ◌+◌, ◌<◌, ◌≤◌, List, length, Some, IsTrue, refl, sym, inl, inr, ⊎_elim, subst, arith}
use Rattle.std.specs.Prelude.{slice_get}
use Rattle.pac_ops.specs.declared.program.FlatOp.{FlatOp}
use Rattle.pac_ops.specs.Uses.{accessed_table, modifies}
use Rattle.pac_ops.specs.Dependencies.{IsConflict}
use Rattle.pac_graph.specs.Adding.{IsTheEdge, IsUpTo}
use Rattle.pac_slice.specs.Dependent.{AreConflicting, IsConflictPair, IsConflictFrom}
use Rattle.pac_base.proofs.ItemLemmas.{there, so, inside}

module _ (ops : List FlatOp) where
  -- an operation that accesses a table is there
  pub conflict_inside : (i j : ℕ) → IsConflict ops i j → (i < length ops) × (j < length ops)
  conflict_inside i j (t, which) = (inside ops i (λ op. accessed_table op.kind ≡ Some t.0) t.1, inside ops j (λ op. accessed_table op.kind ≡ Some t.0) t.2)

  conflicting : (i j : ℕ) (a b : FlatOp) → slice_get ops i ≡ Some a → slice_get ops j ≡ Some b → AreConflicting a.kind b.kind ↔ IsConflict ops i j
  conflicting i j a b is_a is_b = (
    (λ (t, which). (
      (t.0, there ops i a (λ op. accessed_table op.kind ≡ Some t.0) is_a t.1, there ops j b (λ op. accessed_table op.kind ≡ Some t.0) is_b t.2),
      ⊎_elim (λ m. inl (there ops i a (λ op. IsTrue (modifies op.kind)) is_a m)) (λ m. inr (there ops j b (λ op. IsTrue (modifies op.kind)) is_b m)) which,
    )),
    (λ (t, which). (
      (t.0, so ops i a (λ op. accessed_table op.kind ≡ Some t.0) is_a t.1, so ops j b (λ op. accessed_table op.kind ≡ Some t.0) is_b t.2),
      ⊎_elim (λ m. inl (so ops i a (λ op. IsTrue (modifies op.kind)) is_a m)) (λ m. inr (so ops j b (λ op. IsTrue (modifies op.kind)) is_b m)) which,
    )),
  )

  module _ (at : ℕ) where
    -- a conflict of one operation with another, as an edge
    abbrev pub ConflictTo : ℕ → ℕ → ℕ → ℕ → Type 0
    ConflictTo from j u v = (at ≤ j) × IsConflict ops from j × (u ≡ from) × (v ≡ j)

    module _ (from to : ℕ) (a b : FlatOp) (is_a : slice_get ops from ≡ Some a) (is_b : slice_get ops to ≡ Some b) where
      pub conflict_there : at ≤ to → AreConflicting a.kind b.kind → (u v : ℕ) → IsTheEdge from to u v ↔ ConflictTo from to u v
      conflict_there le c u v = ((λ e. (le, (conflicting from to a b is_a is_b).0 c, e.0, e.1)), (λ f. (f.2, f.3)))

      pub conflict_none : (AreConflicting a.kind b.kind → ⊥) → (u v : ℕ) → ConflictTo from to u v → ⊥
      conflict_none none u v c = none ((conflicting from to a b is_a is_b).1 c.1)

    pub conflict_from : (from n : ℕ) → length ops ≤ n → (u v : ℕ) → IsUpTo (ConflictTo from) n u v ↔ IsConflictFrom ops at from u v
    conflict_from from n le u v = (
      (λ (j, lt, c). (subst (λ k. at ≤ k) (sym c.3) c.0, subst (λ k. IsConflict ops from k) (sym c.3) c.1, c.2)),
      (λ (ge, c, eu). (v, (let lt : v < length ops = (conflict_inside from v c).1 in omega (arith, lt, le)), (ge, c, eu, refl))),
    )

  -- the conflicts with operations of higher numbers are the pairs that conflict
  pub conflict_pairs : (n : ℕ) → length ops ≤ n → (u v : ℕ) → IsUpTo (λ i. IsConflictFrom ops (i + 1) i) n u v ↔ IsConflictPair ops u v
  conflict_pairs n le u v = (
    (λ (i, lt, c). (omega (arith, c.0, c.2), subst (λ k. IsConflict ops k v) (sym c.2) c.1)),
    (λ (lt, c). (u, (let in_ops : u < length ops = (conflict_inside u v c).0 in omega (arith, in_ops, le)), (omega (arith, lt), c, refl))),
  )

  pub conflict_all : (n : ℕ) → length ops ≤ n → (u v : ℕ) → IsUpTo (IsConflictFrom ops 0) n u v ↔ IsConflict ops u v
  conflict_all n le u v = (
    (λ (i, lt, c). subst (λ k. IsConflict ops k v) (sym c.2) c.1),
    (λ c. (u, (let in_ops : u < length ops = (conflict_inside u v c).0 in omega (arith, in_ops, le)), (omega arith, c, refl))),
  )
