-- Writes in the order of their cells are made at each cell once.
use Rattle.std.proofs.Common.{◌≡◌, false, ◌||◌, List, [], ◌∷◌, map, refl, ap, ◌∙◌}
use Rattle.std.specs.List.{AllByRecursion, IsDistinct}
use Rattle.std.specs.Ordering.{eq_by_cmp}
use Rattle.pac_value.specs.State.{Cell, cell_cmp}
use Rattle.pac_tables.specs.declared.writes.Write.{Write}
use Rattle.pac_tables.specs.Written.{cell_written, is_written, IsOnce}

unwritten : (c : Cell) (ws : List Write) → AllByRecursion (λ d. eq_by_cmp cell_cmp c d ≡ false) (map cell_written ws) → is_written ws c ≡ false
unwritten c [] apart = refl
unwritten c (w ∷ ws) apart = ap (λ b. b || is_written ws c) apart.0 ∙ unwritten c ws apart.1

once : (ws : List Write) → IsDistinct (eq_by_cmp cell_cmp) (map cell_written ws) → IsOnce ws
unfolding IsDistinct
once [] apart = tt
once (w ∷ ws) apart = (unwritten (cell_written w) ws apart.0, once ws apart.1)
