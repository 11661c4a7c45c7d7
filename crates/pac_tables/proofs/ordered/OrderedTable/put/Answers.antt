-- The new entries differ at one key.
use Rattle.std.proofs.Common.{ap, ◌∙◌}
use Rattle.std.specs.FinMap as map
use Rattle.pac_value.specs.Keys.{keys_total, keys_antisymmetric}
use Rattle.pac_value.proofs.MapLemmas.{insert-entries_of}
use Rattle.pac_tables.proofs.ordered.OrderedTable.put.Goals as goal

pub returns : goal.returns
returns c =
    insert-entries_of keys_total keys_antisymmetric c.self.inside.rows.entries c.insert.new.self.entries c.args.key c.args.row c.in_ok-insert.ensures.updates.0
    ∙ ap (λ m. map.insert m c.args.key c.args.row) c.self.view_is
