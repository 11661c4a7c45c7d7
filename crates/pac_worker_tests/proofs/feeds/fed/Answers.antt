-- No row stands there at first.
use Rattle.std.proofs.Common.{◌≡◌, Some, None, sym, ap, ◌∙◌}
use Rattle.std.specs.FinMap.{get, get-empty}
use Rattle.pac_value.specs.State.{cell_cmp}
use Rattle.pac_tables.specs.Joined.{Held}
use Rattle.pac_worker_tests.proofs.feeds.fed.Goals as goal

pub new-requires-2-clause-fit : goal.new-requires-2-clause-fit
new-requires-2-clause-fit g c = λ cell row found.
    let none : get c.in_ok-new.field-0.rows cell ≡ None = ap (λ (rows : Held). get rows.rows cell) c.in_ok-new.ensures ∙ get-empty cell_cmp cell in
    let both : Some row ≡ None = sym found ∙ none in
    absurd (cc both)
