-- The edges that were added to a graph without edges are the pairs of a relation.
use Rattle.std.proofs.Common.{◌↔◌, ℕ, List, inr, ⊎_elim}
use Rattle.std.specs.Prelude.{Contains}
use Rattle.pac_graph.specs.Graph.{Graph, HasEdge}
use Rattle.pac_graph.specs.Groups.{ArePairsAscending}
use Rattle.pac_graph.specs.Adding.{Adds}
use Rattle.pac_slice.specs.Dependent.{ArePairsOf}

module _ (old new : Graph) (more relation : ℕ → ℕ → Type 0) (none : (u v : ℕ) → HasEdge old u v → ⊥) (adds : Adds old more new) (is : (u v : ℕ) → more u v ↔ relation u v) where
  pub only_added : (u v : ℕ) → HasEdge new u v ↔ relation u v
  only_added u v = (
    (λ e. ⊎_elim (λ o. absurd (none u v o)) (λ m. (is u v).0 m) ((adds.edges u v).0 e)),
    (λ r. (adds.edges u v).1 (inr ((is u v).1 r))),
  )

  pub pairs_added : (pairs : List (ℕ × ℕ)) → ((a b : ℕ) → Contains pairs (a, b) ↔ HasEdge new a b) → ArePairsAscending pairs → ArePairsOf relation pairs
  pairs_added pairs each ascending = record {
    each = λ a b. ((λ h. (only_added a b).0 ((each a b).0 h)), (λ r. (each a b).1 ((only_added a b).1 r)));
    ascending = ascending;
  }
