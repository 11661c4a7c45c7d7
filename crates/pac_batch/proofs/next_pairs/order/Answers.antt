-- A sort moves pairs, and what is dropped after it stands once more.
use Rattle.std.proofs.Common.{ℕ, List, sym, subst}
use Rattle.std.specs.Prelude.{Contains}
use Rattle.std.proofs.lemmas.List.Filters.{dedup_is}
use Rattle.std.proofs.lemmas.List.Sorted.{Contains-permutation, IsPermutation-sym}
use Rattle.pac_graph.specs.Groups.{ArePairsAscending}
use Rattle.pac_batch.proofs.PairOrder.{pair_eq, ascends, kept, from}
use Rattle.pac_batch.proofs.next_pairs.order.Goals as goal

pub returns-clause-ascending : goal.returns-clause-ascending
returns-clause-ascending c =
    let is = dedup_is pair_eq _ _ c.dedup.ensures.filtered in
    subst (λ (ps : List (ℕ × ℕ)). ArePairsAscending ps) (sym is) (ascends _ c.sort_unstable.ensures.sorted)

pub returns-clause-same : goal.returns-clause-same
returns-clause-same c =
    let is = dedup_is pair_eq _ _ c.dedup.ensures.filtered in
    let moved = c.sort_unstable.ensures.permutation in
    let sorted = c.sort_unstable.ensures.sorted in
    λ i j. (
      (λ h. Contains-permutation _ _ (i, j) (IsPermutation-sym _ _ moved) (from _ sorted (i, j) (subst (λ (ps : List (ℕ × ℕ)). Contains ps (i, j)) is h))),
      (λ h. subst (λ (ps : List (ℕ × ℕ)). Contains ps (i, j)) (sym is) (kept _ sorted (i, j) (Contains-permutation _ _ (i, j) moved h))),
    )
