use Rattle.std.proofs.Common.{List, Option, sym, subst}
use Rattle.std.specs.List.{AllByRecursion}
use Rattle.pac_value.specs.declared.values.Value.{Value}
use Rattle.pac_value.specs.Literals.{value_text}
use Rattle.pac_value.specs.State.{RowValues}
use Rattle.pac_lines.specs.Lines.{HasNoFeed}
use Rattle.pac_report.specs.Replies.{shown_row}
use Rattle.pac_run.proofs.PlainLemmas.{row_no_feed}
use Rattle.pac_run.proofs.text.plain_row.Goals as goal

pub returns-in-Some : goal.returns-in-Some
returns-in-Some c = subst (λ (r : Option RowValues). HasNoFeed (shown_row r)) (sym c.in-Some.is)
    (row_no_feed c.in-Some.row (subst (λ (l : List Value). AllByRecursion (λ value. HasNoFeed (value_text value)) l) c.items.ensures.value c.plain_values.ensures))
