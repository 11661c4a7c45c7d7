-- The sorted keys are those of the finite map, in order.
use Rattle.std.proofs.Common.{List, IsPermutation, ap, subst, ◌∙◌}
use Rattle.std.specs.FinMap as map
use Rattle.pac_value.specs.declared.values.Key.{Key}
use Rattle.pac_tables.proofs.HashedLemmas.{keys-sorted}
use Rattle.pac_tables.proofs.hashed.HashedTableTableRows.sorted_keys.Goals as goal

pub returns : goal.returns
returns c =
    let moved = subst (λ (ks : List Key). IsPermutation ks c.sort.new.self.items) c.in_ok-keys.ensures c.sort.ensures.permutation in
    keys-sorted c.self.inside.rows.entries c.sort.new.self.items c.len-unique.ensures.unique moved c.in_ok-sort.ensures.sorted ∙ ap map.keys c.self.view_is
