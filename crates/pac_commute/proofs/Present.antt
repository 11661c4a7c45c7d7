-- Two states of a replay are one where the same is seen in both everywhere.
use Rattle.std.proofs.Common.{◌≡◌, ap}
use Rattle.std.specs.Cmp.{nat_cmp_total}
use Rattle.std.specs.FinMap.{nat_cmp-IsAntisymmetric, same_map}
use Rattle.pac_value.proofs.CellLemmas.{cells_total, cells_antisymmetric}
use Rattle.pac_plan.specs.Pieces.{Present, Location, RowOf, VarOf, at_location}

pub same_present : (s s' : Present) → ((c : Location) → at_location s c ≡ at_location s' c) → s.note ≡ s'.note → s ≡ s'
same_present s s' offsets note i = record {
  tables = same_map cells_total cells_antisymmetric s.tables s'.tables (λ q. ap (λ p. p.0) (offsets (RowOf q))) i;
  envs = λ t. same_map nat_cmp_total nat_cmp-IsAntisymmetric (s.envs t) (s'.envs t) (λ x. ap (λ p. p.1) (offsets (VarOf t x))) i;
  note = note i;
}
