-- The order of cells is total and tells them apart, so a map in that order is a finite map over cells.
use Rattle.std.proofs.Common.{◌≡◌, true, cond, Option, Some, None, ap}
use Rattle.std.specs.Cmp.{IsTotalOrder, nat_cmp_total, Equal-is, tied_itself}
use Rattle.std.specs.Ordering.{nat_cmp, is_eq, eq_by_cmp}
use Rattle.std.specs.FinMap.{IsAntisymmetric, get, get-insert, get-remove}
use Rattle.std.proofs.lemmas.Cmp.{on_total, then_total}
use Rattle.std.proofs.lemmas.Map.Lookups.{exact_pairs, exact_unsigned}
use Rattle.pac_value.specs.Keys.{key_cmp, keys_total, keys_antisymmetric}
use Rattle.pac_value.specs.State.{Cell, cell_cmp, RowValues, Tables, with_row}

pub cells_total : IsTotalOrder cell_cmp
cells_total = then_total (on_total (λ p. p.0) nat_cmp_total) (on_total (λ p. p.1) keys_total)

pub cells_antisymmetric : IsAntisymmetric cell_cmp
cells_antisymmetric a b h = exact_pairs nat_cmp key_cmp exact_unsigned keys_antisymmetric a b h

pub same-cell : (c : Cell) → eq_by_cmp cell_cmp c c ≡ true
same-cell c = ap is_eq (tied_itself cells_total c)

-- cells that tie are one
pub tied_same : (q p : Cell) → eq_by_cmp cell_cmp q p ≡ true → q ≡ p
tied_same q p h = cells_antisymmetric q p ((Equal-is (cell_cmp q p)).0 h)

-- what stands at a cell once a row stands at one, or none
pub get-with_row : (t : Tables) (p : Cell) (row : Option RowValues) (q : Cell) → get (with_row t p row) q ≡ cond (eq_by_cmp cell_cmp q p) row (get t q)
get-with_row t p None q = get-remove cells_total t p q
get-with_row t p (Some row) q = get-insert cells_total t p row q
