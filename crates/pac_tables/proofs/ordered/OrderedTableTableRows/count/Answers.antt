-- The map's entries are those of the finite map.
use Rattle.std.proofs.Common.{length, ap, sym, ◌∙◌}
use Rattle.std.specs.FinMap as map
use Rattle.pac_value.specs.Keys.{keys_total}
use Rattle.pac_value.proofs.EntryLemmas.{entries-from_entries}
use Rattle.pac_tables.proofs.ordered.OrderedTableTableRows.count.Goals as goal

pub returns : goal.returns
returns c =
    c.len.ensures.len
    ∙ sym (ap length (entries-from_entries keys_total c.self.inside.rows.entries c.len.ensures.ordered))
    ∙ sym (map.len-entries (map.from_entries c.self.inside.rows.entries))
    ∙ ap map.len c.self.view_is
