-- A sorted list of cells without those that stand twice ascends, and has the same cells.
use Rattle.std.proofs.Common.{◌≡◌, Bool, true, ◌&&◌, ◌==◌, List, [], ◌∷◌, refl, sym, ap, ap₂, ◌∙◌, subst, arith}
use Rattle.std.specs.Prelude.{AllPairs, Contains}
use Rattle.std.specs.declared.cmp.Ordering.TheVariants.{Less}
use Rattle.std.specs.Ordering.{eq_by_cmp, is_eq}
use Rattle.std.specs.Cmp.{IsEquivalence, Equal-is, both_ways, tied_itself}
use Rattle.std.specs.List.{dedup}
use Rattle.std.specs.List.Sorted.{IsSorted, IsStrictlySortedBy}
use Rattle.std.proofs.lemmas.Cmp.{eq_by_cmp_equiv}
use Rattle.std.proofs.lemmas.List.Elements.{All-from_recursion}
use Rattle.std.proofs.lemmas.List.Kept.{AllPairs-cons, IsStrictlySortedBy-dedup, Contains-dedup, Contains-from_dedup}
use Rattle.pac_base.proofs.TestLemmas.{and_left, and_right, and_both, same_number, equal_number}
use Rattle.pac_value.specs.declared.values.Key.{Key}
use Rattle.pac_value.specs.Keys.{key_cmp, key_ties, keys_antisymmetric, keys_total}
use Rattle.pac_value.specs.State.{Cell, cell_cmp}
use Rattle.pac_value.specs.contracts.values.KeyPartialEq.TheImpl.{ghosts}
use Rattle.pac_value.proofs.CellLemmas.{cells_total, same-cell, tied_same}

exact : (a b : Key) → (ghosts).eq a b ≡ true → a ≡ b
exact a b h = keys_antisymmetric a b ((Equal-is (key_cmp a b)).0 (sym (key_ties a b) ∙ h))

itself : (a : Key) → (ghosts).eq a a ≡ true
itself a = key_ties a a ∙ ap is_eq (tied_itself keys_total a)

abbrev pub cell_eq : Cell → Cell → Bool
cell_eq a b = a.0 == b.0 && (ghosts).eq a.1 b.1

one_cell : (a b : Cell) → cell_eq a b ≡ true → a ≡ b
one_cell a b h = ap₂ (λ x y. (x, y)) (same_number a.0 b.0 (and_left (a.0 == b.0) _ h)) (exact a.1 b.1 (and_right (a.0 == b.0) _ h))

ties : (a b : Cell) → cell_eq a b ≡ eq_by_cmp cell_cmp a b
ties a b = both_ways (cell_eq a b) (eq_by_cmp cell_cmp a b)
    (λ h. subst (λ c. eq_by_cmp cell_cmp a c ≡ true) (one_cell a b h) (same-cell a))
    (λ h. let e = tied_same a b h in
    subst (λ c. cell_eq a c ≡ true) e (and_both (a.0 == a.0) _ (equal_number a.0 a.0 refl) (itself a.1)))

cells_equiv : IsEquivalence cell_eq
cells_equiv = record {
  refl = λ a. and_both (a.0 == a.0) _ (equal_number a.0 a.0 refl) (itself a.1);
  symm = λ a b. ties a b ∙ (eq_by_cmp_equiv cells_total).symm a b ∙ sym (ties b a);
  congr = λ a b c h. ties a c ∙ (eq_by_cmp_equiv cells_total).congr a b c (sym (ties a b) ∙ h) ∙ sym (ties b c);
}

strict : (cells : List Cell) → IsStrictlySortedBy cell_cmp cells → AllPairs (λ a b. cell_cmp a b ≡ Less) cells
unfolding IsStrictlySortedBy
strict [] up = λ i j d lt within. absurd (omega (arith, within))
strict (a ∷ cells) up = AllPairs-cons (λ a b. cell_cmp a b ≡ Less) a cells (All-from_recursion (λ b. cell_cmp a b ≡ Less) cells up.0) (strict cells up.1)

module _ (sorted : List Cell) (order : IsSorted cell_cmp sorted) where
  pub ascends : AllPairs (λ a b. cell_cmp a b ≡ Less) (dedup cell_eq sorted)
  ascends = strict (dedup cell_eq sorted) (IsStrictlySortedBy-dedup cells_total {E = cell_eq} ties sorted order)

  pub kept : (a : Cell) → Contains sorted a → Contains (dedup cell_eq sorted) a
  kept a h = Contains-dedup cells_equiv one_cell sorted a h

  pub from : (a : Cell) → Contains (dedup cell_eq sorted) a → Contains sorted a
  from a h = Contains-from_dedup cell_eq sorted a h
