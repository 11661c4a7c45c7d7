-- The new entries differ at one key, and room is missing only for a new one.
use Rattle.std.proofs.Common.{ap, sym, ◌∙◌}
use Rattle.std.specs.FinMap as map
use Rattle.pac_value.specs.Keys.{keys_total, keys_antisymmetric}
use Rattle.pac_value.proofs.MapLemmas.{get-entries_of, insert-entries_of}
use Rattle.pac_tables.proofs.ordered.OrderedTableTableRows.insert.Goals as goal

pub returns-clause-old : goal.returns-clause-old
returns-clause-old c = c.in-Ok.ensures.old ∙ sym (get-entries_of keys_total c.self.inside.rows.entries c.args.key) ∙ ap (λ m. map.get m c.args.key) c.self.view_is

pub returns-clause-ok : goal.returns-clause-ok
returns-clause-ok c =
    insert-entries_of keys_total keys_antisymmetric c.self.inside.rows.entries c.insert.new.self.entries c.args.key c.args.row c.in-Ok.ensures.updates.0
    ∙ ap (λ m. map.insert m c.args.key c.args.row) c.self.view_is

pub returns-in-Err-clause-absent : goal.returns-in-Err-clause-absent
returns-in-Err-clause-absent c = sym (ap (λ m. map.get m c.args.key) c.self.view_is) ∙ get-entries_of keys_total c.self.inside.rows.entries c.args.key ∙ c.in-Err.ensures.absent
