-- The map's entries are those of the finite map, in order.
use Rattle.std.proofs.Common.{ap, sym, ◌∙◌}
use Rattle.std.specs.FinMap as map
use Rattle.std.proofs.lemmas.Result.{IfOk-weaker}
use Rattle.pac_value.specs.Keys.{keys_total}
use Rattle.pac_value.proofs.EntryLemmas.{entries-from_entries}
use Rattle.pac_tables.proofs.ordered.OrderedTableTableRows.sorted_rows.Goals as goal

pub returns : goal.returns
returns c =
    let same = entries-from_entries keys_total c.self.inside.rows.entries c.len-ordered.ensures.ordered in
    IfOk-weaker c.rows_in.result _ _ (λ rows found. found ∙ sym same ∙ ap map.entries c.self.view_is) c.rows_in.ensures
