-- Graphs that get more edges, one or several at a time.
use Rattle.std.proofs.Common.{◌≡◌, ◌⊎◌, ◌↔◌, ℕ, ◌+◌, refl, ◌∙◌, subst, inl, inr, ⊎_elim, arith}
use Rattle.std.proofs.lemmas.Bool.{cases_eq}
use Rattle.pac_graph.specs.Graph.{Graph, HasEdge}
use Rattle.pac_graph.specs.Adding.{Adds, IsTheEdge, IsUpTo}

-- nothing is added
pub adds_none : (g : Graph) (more : ℕ → ℕ → Type 0) → ((u v : ℕ) → more u v → ⊥) → Adds g more g
adds_none g more none = record { nodes = refl; edges = λ u v. ((λ e. inl e), (λ s. ⊎_elim (λ e. e) (λ m. absurd (none u v m)) s)) }

-- the same edges by other words
pub adds_alike : (a b : Graph) (more more' : ℕ → ℕ → Type 0) → ((u v : ℕ) → more u v ↔ more' u v) → Adds a more b → Adds a more' b
adds_alike a b more more' same adds = record {
  nodes = adds.nodes;
  edges = λ u v. (
    (λ e. ⊎_elim (λ o. inl o) (λ m. inr ((same u v).0 m)) ((adds.edges u v).0 e)),
    (λ s. (adds.edges u v).1 (⊎_elim (λ o. inl o) (λ m. inr ((same u v).1 m)) s)),
  );
}

-- one addition after another
pub adds_then : (a b c : Graph) (more more' : ℕ → ℕ → Type 0) → Adds a more b → Adds b more' c → Adds a (λ u v. more u v ⊎ more' u v) c
adds_then a b c more more' first second = record {
  nodes = second.nodes ∙ first.nodes;
  edges = λ u v. (
    (λ e. ⊎_elim (λ o. ⊎_elim (λ p. inl p) (λ m. inr (inl m)) ((first.edges u v).0 o)) (λ m. inr (inr m)) ((second.edges u v).0 e)),
    (λ s. (second.edges u v).1 (⊎_elim (λ o. inl ((first.edges u v).1 (inl o))) (λ m. ⊎_elim (λ k. inl ((first.edges u v).1 (inr k))) (λ k. inr k) m) s)),
  );
}

module _ (edges : ℕ → ℕ → ℕ → Type 0) where
  more : (n u v : ℕ) → (IsUpTo edges n u v ⊎ edges n u v) ↔ IsUpTo edges (n + 1) u v
  more n u v = (to, from)
    where
      to : IsUpTo edges n u v ⊎ edges n u v → IsUpTo edges (n + 1) u v
      to (inl (i, lt, e)) = (i, omega (arith, lt), e)
      to (inr e) = (n, omega arith, e)

      from : IsUpTo edges (n + 1) u v → IsUpTo edges n u v ⊎ edges n u v
      from (i, lt, e) = elim (cases_eq i n) [
        | inl is ↦ inr (subst (λ k. edges k u v) is e)
        | inr ne ↦ inl (i, omega (arith, lt, ne), e)
      ]

  -- the edges of one number more
  pub upto_more : (a b c : Graph) (n : ℕ) → Adds a (IsUpTo edges n) b → Adds b (edges n) c → Adds a (IsUpTo edges (n + 1)) c
  upto_more a b c n first second = adds_alike a c (λ u v. IsUpTo edges n u v ⊎ edges n u v) (IsUpTo edges (n + 1)) (more n) (adds_then a b c (IsUpTo edges n) (edges n) first second)

  -- a number that stands for none
  pub upto_skip : (a b : Graph) (n : ℕ) → ((u v : ℕ) → edges n u v → ⊥) → Adds a (IsUpTo edges n) b → Adds a (IsUpTo edges (n + 1)) b
  upto_skip a b n none first = upto_more a b b n first (adds_none b (edges n) none)

  -- a number that stands for one
  pub upto_one : (a b c : Graph) (n s t : ℕ) → ((u v : ℕ) → IsTheEdge s t u v ↔ edges n u v) → Adds a (IsUpTo edges n) b → c.nodes ≡ b.nodes → ((u v : ℕ) → HasEdge c u v ↔ (HasEdge b u v ⊎ IsTheEdge s t u v)) → Adds a (IsUpTo edges (n + 1)) c
  upto_one a b c n s t is first nodes added = upto_more a b c n first (adds_alike b c (IsTheEdge s t) (edges n) is (record { nodes = nodes; edges = added }))
