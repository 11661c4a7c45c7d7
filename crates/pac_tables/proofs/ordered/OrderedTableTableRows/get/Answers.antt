-- A look-up in the map's entries is one in the finite map.
use Rattle.std.proofs.Common.{ap, sym, ◌∙◌}
use Rattle.std.specs.FinMap as map
use Rattle.pac_value.specs.Keys.{keys_total}
use Rattle.pac_value.proofs.MapLemmas.{get-entries_of}
use Rattle.pac_tables.proofs.ordered.OrderedTableTableRows.get.Goals as goal

pub returns : goal.returns
returns c = c.get.ensures.value ∙ sym (get-entries_of keys_total c.self.inside.rows.entries c.args.key.now) ∙ ap (λ m. map.get m c.args.key.now) c.self.view_is
