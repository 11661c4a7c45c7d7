-- No row stands there at first, and that the transactions fit was tested.
use Rattle.std.proofs.Common.{◌≡◌, [], ◌∷◌, Some, None, sym, ap, subst, ◌∙◌}
use Rattle.std.specs.Prelude.{All}
use Rattle.std.specs.FinMap.{get, get-empty}
use Rattle.std.specs.List.{AllByRecursion}
use Rattle.std.proofs.lemmas.List.Elements.{All-cons, All-nil}
use Rattle.pac_value.specs.State.{cell_cmp}
use Rattle.pac_ops.specs.declared.batch.Batch.{Batch}
use Rattle.pac_commute.specs.PartialFits.{TxnsFitPlan}
use Rattle.pac_plan.specs.Codes.{TxnFitsPlan}
use Rattle.pac_tables.specs.Joined.{Held}
use Rattle.pac_worker_tests.proofs.OneTable.{all_of_plan}
use Rattle.pac_worker_tests.proofs.executions.leaves_the_last.Goals as goal

pub execute-requires-clause-fit : goal.execute-requires-clause-fit
execute-requires-clause-fit g c κs within cell row found =
    let none : get c.in_ok-rows.rows.rows cell ≡ None = ap (λ (rows : Held). get rows.rows cell) c.in_ok-rows.ensures ∙ get-empty cell_cmp cell in
    let both : Some row ≡ None = sym found ∙ none in
    absurd (cc both)

pub execute-requires-clause-txns : goal.execute-requires-clause-txns
execute-requires-clause-txns g c κs within =
    let plan = c.in_ok-plan.plan in
    let first = c.in_ok-first.first in
    let second = c.in_ok-second.second in
    let fit : AllByRecursion (TxnFitsPlan plan) first.txns = subst (AllByRecursion (TxnFitsPlan plan)) c.items.ensures.value (c.fits_all.ensures.0 c.if-not-fits_all.false) in
    let fit_too : AllByRecursion (TxnFitsPlan plan) second.txns = subst (AllByRecursion (TxnFitsPlan plan)) c.items-else-not-fits_all.ensures.value (c.fits_all-else-not-fits_all.ensures.0 c.if-not-fits_all-2.false) in
    let all : c.listed-batches.result ≡ first ∷ second ∷ [] = c.listed-batches.ensures ∙ c.in_ok-vec.ensures.items in
    subst (All (λ (batch : Batch). TxnsFitPlan plan batch.txns)) (sym all)
    (All-cons (λ (batch : Batch). TxnsFitPlan plan batch.txns) first (second ∷ []) (all_of_plan plan first.txns fit)
    (All-cons (λ (batch : Batch). TxnsFitPlan plan batch.txns) second [] (all_of_plan plan second.txns fit_too) (All-nil (λ (batch : Batch). TxnsFitPlan plan batch.txns))))
