-- The new entries have none at the key.
use Rattle.std.proofs.Common.{ap, sym, ◌∙◌}
use Rattle.std.specs.FinMap as map
use Rattle.pac_value.specs.Keys.{keys_total, keys_antisymmetric}
use Rattle.pac_value.proofs.MapLemmas.{get-entries_of, remove-entries_of}
use Rattle.pac_tables.proofs.ordered.OrderedTableTableRows.remove.Goals as goal

pub returns-clause-old : goal.returns-clause-old
returns-clause-old c =
    c.remove.ensures.value ∙ sym (get-entries_of keys_total c.self.inside.rows.entries c.args.key.now)
    ∙ ap (λ m. map.get m c.args.key.now) c.self.view_is

pub returns-clause-rows : goal.returns-clause-rows
returns-clause-rows c =
    remove-entries_of keys_total keys_antisymmetric c.self.inside.rows.entries c.remove.new.self.entries c.args.key.now c.remove.ensures.updates.0
    ∙ ap (λ m. map.remove m c.args.key.now) c.self.view_is
