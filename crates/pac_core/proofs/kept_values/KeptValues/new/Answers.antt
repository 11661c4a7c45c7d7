-- No entries are a map without any.
use Rattle.std.proofs.Common.{ap, ◌∙◌}
use Rattle.std.specs.Cmp.{nat_cmp_total}
use Rattle.std.specs.Ordering.{nat_cmp}
use Rattle.std.specs.FinMap.{from_sorted, nat_cmp-IsAntisymmetric}
use Rattle.pac_value.proofs.SortedLemmas.{no-entries}
use Rattle.pac_core.proofs.kept_values.KeptValues.new.Goals as goal

pub returns : goal.returns
returns c = ap (from_sorted {R = nat_cmp}) c.new.ensures.items ∙ no-entries nat_cmp_total nat_cmp-IsAntisymmetric
