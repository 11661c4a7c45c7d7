-- The new entries have none at the key.
use Rattle.std.proofs.Common.{ap, sym, ◌∙◌}
use Rattle.std.specs.FinMap as map
use Rattle.pac_value.specs.Keys.{keys_total, keys_antisymmetric}
use Rattle.pac_value.proofs.MapLemmas.{get-by_test, remove-by_test}
use Rattle.pac_tables.proofs.HashedLemmas.{key_eq, keys_tie}
use Rattle.pac_tables.proofs.hashed.HashedTableTableRows.remove.Goals as goal

pub returns-clause-old : goal.returns-clause-old
returns-clause-old c =
    c.swap_remove.ensures.value ∙ sym (get-by_test keys_total key_eq keys_tie c.self.inside.rows.entries c.args.key.now)
    ∙ ap (λ m. map.get m c.args.key.now) c.self.view_is

pub returns-clause-rows : goal.returns-clause-rows
returns-clause-rows c =
    remove-by_test keys_total key_eq keys_tie keys_antisymmetric c.self.inside.rows.entries c.swap_remove.new.self.entries c.args.key.now c.swap_remove.ensures.updates.0
    ∙ ap (λ m. map.remove m c.args.key.now) c.self.view_is
