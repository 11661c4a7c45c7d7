-- The new entries differ at one key.
use Rattle.std.proofs.Common.{ap, ◌∙◌}
use Rattle.std.specs.FinMap as map
use Rattle.pac_value.specs.Keys.{keys_total, keys_antisymmetric}
use Rattle.pac_value.proofs.MapLemmas.{insert-by_test}
use Rattle.pac_tables.proofs.HashedLemmas.{key_eq, keys_tie}
use Rattle.pac_tables.proofs.hashed.HashedTable.put.Goals as goal

pub returns : goal.returns
returns c =
    insert-by_test keys_total key_eq keys_tie keys_antisymmetric c.self.inside.rows.entries c.insert.new.self.entries c.args.key c.args.row c.in_ok-insert.ensures.updates.0
    ∙ ap (λ m. map.insert m c.args.key c.args.row) c.self.view_is
