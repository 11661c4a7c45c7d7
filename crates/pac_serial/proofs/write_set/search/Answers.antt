-- The last change is of the cell or before it, or a binary search ends at the cell, or at the gap for it.
use Rattle.std.proofs.Common.{◌≡◌, ◌<◌, ℕ, zero, suc, ◌+◌, T, List, [], ◌∷◌, length, get_or, inl, inr, refl, sym, ap, subst, ◌∙◌, ◌-◌, arith, rules}
use Rattle.std.specs.declared.cmp.Ordering.TheVariants.{Less, Equal}
use Rattle.std.specs.FinMap.{is_sorted}
use Rattle.std.proofs.lemmas.Bool.{cases_lt}
use Rattle.std.proofs.lemmas.Fn.{always_returns_same}
use Rattle.pac_value.specs.Sorted.{IsOffsetOf, IsGapFor}
use Rattle.pac_value.specs.State.{Cell, cell_cmp}
use Rattle.pac_value.proofs.CellLemmas.{cells_total, cells_antisymmetric}
use Rattle.pac_value.proofs.OffsetLemmas.{less_at}
use Rattle.pac_value.proofs.SortedLemmas.{searched}
use Rattle.pac_serial.specs.WriteSets.{Change}
use Rattle.pac_serial.proofs.write_set.search.Goals as goal

within-same : (cs : List Change) (i : ℕ) (d e : Change) → i < length cs → get_or cs i d ≡ get_or cs i e
within-same [] i d e lt = absurd (omega arith)
within-same (c ∷ cs) zero d e lt = refl
within-same (c ∷ cs) (suc i) d e lt = within-same cs i d e (omega arith)

-- the last of several changes is of the cell
last-offset : (cs : List Change) (k : Cell) (x : Change) (n : ℕ) → n + 1 ≡ length cs → cell_cmp (get_or cs n x).0 k ≡ Equal → IsOffsetOf cs k n
last-offset cs k x n last equal = record {
  within = omega (arith, last);
  same = λ d. ap (λ (c : Change). c.0) (within-same cs n d x (omega (arith, last))) ∙ cells_antisymmetric (get_or cs n x).0 k equal;
}

-- the last is before the cell, and so all are
last-gap : (cs : List Change) (k : Cell) (x : Change) (n : ℕ) → T (is_sorted cell_cmp cs) → n + 1 ≡ length cs → cell_cmp (get_or cs n x).0 k ≡ Less → IsGapFor cell_cmp cs k (length cs)
last-gap cs k x n sorted last less = record {
  within = omega arith;
  lesser = λ j d lt. elim (cases_lt j n) [
    | inl before ↦ cells_total.trans (get_or cs j d).0 (get_or cs n d).0 k (less_at cells_total cs j n d sorted before (omega (arith, last))) (at_last d)
    | inr after ↦ let same : j ≡ n = omega (arith, last) in subst (λ i. cell_cmp (get_or cs i d).0 k ≡ Less) (sym same) (at_last d)
  ];
  greater = λ j d lo hi. absurd (omega arith);
}
  where
    at_last : (d : Change) → cell_cmp (get_or cs n d).0 k ≡ Less
    at_last d = ap (λ (c : Change). cell_cmp c.0 k) (within-same cs n d x (omega (arith, last))) ∙ less

pub returns-in-Less-clause-absent : goal.returns-in-Less-clause-absent
returns-in-Less-clause-absent c =
    let cs = c.args.changes.now in
    last-gap cs (c.args.table, c.args.key.now) c.index-changes-count.result (length cs - 1) c.requires (omega arith) (sym c.in-Less.ensures)

pub returns-in-Equal-clause-found : goal.returns-in-Equal-clause-found
returns-in-Equal-clause-found c =
    let cs = c.args.changes.now in
    last-offset cs (c.args.table, c.args.key.now) c.index-changes-count.result (length cs - 1) (omega arith) (sym c.in-Equal.ensures)

pub returns-in-Greater-clause-found : goal.returns-in-Greater-clause-found
returns-in-Greater-clause-found c =
    let facts = c.binary_search_by.ensures in
    let by = facts.position (λ change. cell_cmp change.0 (c.args.table, c.args.key.now)) (always_returns_same _ _ _ (λ a r f called. search rules)) in
    (searched cells_total cells_antisymmetric c.args.changes.now c.requires (c.args.table, c.args.key.now) c.binary_search_by.result facts.bound by).0

pub returns-in-Greater-clause-absent : goal.returns-in-Greater-clause-absent
returns-in-Greater-clause-absent c =
    let facts = c.binary_search_by.ensures in
    let by = facts.position (λ change. cell_cmp change.0 (c.args.table, c.args.key.now)) (always_returns_same _ _ _ (λ a r f called. search rules)) in
    (searched cells_total cells_antisymmetric c.args.changes.now c.requires (c.args.table, c.args.key.now) c.binary_search_by.result facts.bound by).1
