-- The cells that touches name are those that their access covers.
use Rattle.std.proofs.Common.{◌≡◌, ◌⊎◌, zero, suc, true, List, [], ◌∷◌, map, sym, subst, true≢false, inl, inr, arith}
use Rattle.std.specs.Prelude.{Contains}
use Rattle.std.specs.List.{list_any}
use Rattle.std.specs.Ordering.{eq_by_cmp}
use Rattle.pac_base.proofs.TestLemmas.{or_cases, or_left, or_right}
use Rattle.pac_value.specs.State.{Cell, cell_cmp}
use Rattle.pac_value.proofs.CellLemmas.{same-cell, tied_same}
use Rattle.pac_plan.specs.declared.access.Touch.{Touch}
use Rattle.pac_plan.specs.declared.access.Access.TheVariants.{Keys}
use Rattle.pac_plan.specs.Pieces.{covers, named_cell}

pub named_covered : (touches : List Touch) (a : Cell) → Contains (map named_cell touches) a → covers (Keys touches) a ≡ true
named_covered [] a (k, lt, e) = absurd (omega (arith, lt))
named_covered (t ∷ ts) a (zero, lt, e) = or_left _ _ (subst (λ c. eq_by_cmp cell_cmp (named_cell t) c ≡ true) e (same-cell (named_cell t)))
named_covered (t ∷ ts) a (suc k, lt, e) = or_right (eq_by_cmp cell_cmp (named_cell t) a) _ (named_covered ts a (k, omega (arith, lt), e))

pub covered_named : (touches : List Touch) (a : Cell) → covers (Keys touches) a ≡ true → Contains (map named_cell touches) a
covered_named [] a e = absurd (true≢false (sym e))
covered_named (t ∷ ts) a e = go (or_cases (eq_by_cmp cell_cmp (named_cell t) a) (list_any (λ u. eq_by_cmp cell_cmp (named_cell u) a) ts) e) (λ h. covered_named ts a h)
  where
    go : (eq_by_cmp cell_cmp (named_cell t) a ≡ true) ⊎ (covers (Keys ts) a ≡ true) → (covers (Keys ts) a ≡ true → Contains (map named_cell ts) a) → Contains (map named_cell (t ∷ ts)) a
    go (inl h) rest = (0, omega arith, tied_same (named_cell t) a h)
    go (inr h) rest = let r = rest h in let lt = r.1 in (suc r.0, omega (arith, lt), r.2)
