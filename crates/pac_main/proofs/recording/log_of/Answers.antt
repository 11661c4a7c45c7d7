-- The tables are those with which the transactions end.
use Rattle.std.proofs.Common.{◌≡◌, ◌∙◌, ℕ, List, None, Ok, length, refl, sym, subst}
use Rattle.std.proofs.lemmas.Result.{err_from_is_err_and}
use Rattle.std.specs.FinMap.{empty}
use Rattle.pac_ops.specs.declared.batch.Batch.{Batch}
use Rattle.pac_restore.specs.Batches.{txns_in}
use Rattle.pac_restore.specs.Limits.{IsFirstOver}
use Rattle.pac_types.specs.Execution.{first_over, serial}
use Rattle.pac_main.specs.Causes.{ScriptStops}
use Rattle.pac_main.specs.Replay.{outcome}
use Rattle.pac_main.proofs.InputLemmas.{if_err}
use Rattle.pac_main.proofs.StopLemmas.{over-stops}
use Rattle.pac_main.proofs.recording.log_of.Goals as goal

pub returns-in_err-test_rows-clause-stops : goal.returns-in_err-test_rows-clause-stops
returns-in_err-test_rows-clause-stops c =
    let script = c.args.script.now in
    let rows = c.in_ok-rows.rows.rows in
    let excess = c.in_err-test_rows.field-0.0 in
    let p = err_from_is_err_and c.from_residual-in_err-test_rows.result c.from_residual-in_err-test_rows.ensures.1 in
    let over = c.in_err-test_rows.ensures.over excess refl in
    let ends : outcome script ≡ Ok rows = subst (λ (batches : List Batch). serial script.catalogue.procs 1 (txns_in batches) empty ≡ Ok rows) c.as_slice.ensures c.in_ok-rows.ensures.ends in
    let first = subst (λ (n : ℕ). IsFirstOver n script.catalogue.tables rows excess.table excess.rows) c.from.ensures over.0 in
    if_err (ScriptStops c.args.limit script) c.from_residual-in_err-test_rows.result p.0 p.1 (subst (ScriptStops c.args.limit script) (sym p.2) (over-stops c.args.limit script rows excess ends first (over.1 ∙ c.from.ensures)))

pub returns-clause-ends : goal.returns-clause-ends
returns-clause-ends c =
    let rows = c.in_ok-rows.rows.rows in
    (rows, subst (λ (batches : List Batch). serial c.args.script.now.catalogue.procs 1 (txns_in batches) empty ≡ Ok rows) c.as_slice.ensures c.in_ok-rows.ensures.ends, subst (λ (n : ℕ). first_over n (length c.args.script.now.catalogue.tables) rows ≡ None) c.from.ensures c.in_ok-test_rows.ensures.within)
