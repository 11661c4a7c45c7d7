-- The order of piece-sets is total and tells them apart.
use Rattle.std.proofs.Common.{◌≡◌, ℕ, ap}
use Rattle.std.specs.Cmp.{IsTotalOrder, nat_cmp_total}
use Rattle.std.specs.Ordering.{nat_cmp}
use Rattle.std.specs.FinMap.{IsAntisymmetric}
use Rattle.std.proofs.lemmas.Cmp.{on_total, then_total}
use Rattle.std.proofs.lemmas.Map.Lookups.{exact_pairs, exact_unsigned}
use Rattle.pac_sets.specs.declared.set_id.SetId.{SetId}
use Rattle.pac_sets.specs.SetOrder.{set_cmp}

pub sets_total : IsTotalOrder set_cmp
sets_total = then_total (on_total (λ s. s.batch) nat_cmp_total) (on_total (λ s. s.block) nat_cmp_total)

pub sets_antisymmetric : IsAntisymmetric set_cmp
sets_antisymmetric a b h =
    let same : (a.batch, a.block) ≡ (b.batch, b.block) = exact_pairs nat_cmp nat_cmp exact_unsigned exact_unsigned (a.batch, a.block) (b.batch, b.block) h in
    ap (λ (p : ℕ × ℕ). let set : SetId = record { batch = p.0; block = p.1 } in set) same
