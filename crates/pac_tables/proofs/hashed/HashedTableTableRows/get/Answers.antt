-- A look-up in the map's entries is one in the finite map.
use Rattle.std.proofs.Common.{ap, sym, ◌∙◌}
use Rattle.std.specs.FinMap as map
use Rattle.pac_value.specs.Keys.{keys_total}
use Rattle.pac_value.proofs.MapLemmas.{get-by_test}
use Rattle.pac_tables.proofs.HashedLemmas.{key_eq, keys_tie}
use Rattle.pac_tables.proofs.hashed.HashedTableTableRows.get.Goals as goal

pub returns : goal.returns
returns c = c.get.ensures.value ∙ sym (get-by_test keys_total key_eq keys_tie c.self.inside.rows.entries c.args.key.now) ∙ ap (λ m. map.get m c.args.key.now) c.self.view_is
