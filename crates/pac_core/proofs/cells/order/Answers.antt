-- A sort moves cells, and what is dropped after it stands once more.
use Rattle.std.proofs.Common.{◌≡◌, List, sym, subst}
use Rattle.std.specs.Prelude.{AllPairs, Contains}
use Rattle.std.specs.declared.cmp.Ordering.TheVariants.{Less}
use Rattle.std.proofs.lemmas.List.Filters.{dedup_is}
use Rattle.std.proofs.lemmas.List.Sorted.{Contains-permutation, IsPermutation-sym}
use Rattle.pac_value.specs.State.{Cell, cell_cmp}
use Rattle.pac_core.proofs.CellOrder.{cell_eq, ascends, kept, from}
use Rattle.pac_core.proofs.cells.order.Goals as goal

pub returns-clause-ascending : goal.returns-clause-ascending
returns-clause-ascending c =
    let is = dedup_is cell_eq _ _ c.dedup.ensures.filtered in
    subst (λ (cells : List Cell). AllPairs (λ a b. cell_cmp a b ≡ Less) cells) (sym is) (ascends _ c.sort_unstable.ensures.sorted)

pub returns-clause-same : goal.returns-clause-same
returns-clause-same c =
    let is = dedup_is cell_eq _ _ c.dedup.ensures.filtered in
    let moved = c.sort_unstable.ensures.permutation in
    let sorted = c.sort_unstable.ensures.sorted in
    λ a. (
      (λ h. Contains-permutation _ _ a (IsPermutation-sym _ _ moved) (from _ sorted a (subst (λ (cells : List Cell). Contains cells a) is h))),
      (λ h. subst (λ (cells : List Cell). Contains cells a) (sym is) (kept _ sorted a (Contains-permutation _ _ a moved h))),
    )
