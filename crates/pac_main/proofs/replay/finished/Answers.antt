-- Tables over the limit are those with which the transactions end.
use Rattle.std.proofs.Common.{◌≡◌, ℕ, Ok, refl, sym, subst, ◌∙◌}
use Rattle.std.proofs.lemmas.Result.{err_from_is_err_and}
use Rattle.pac_restore.specs.Limits.{IsFirstOver}
use Rattle.pac_main.specs.Causes.{ScriptStops}
use Rattle.pac_main.specs.Replay.{outcome}
use Rattle.pac_main.proofs.InputLemmas.{if_err}
use Rattle.pac_main.proofs.StopLemmas.{over-stops}
use Rattle.pac_main.proofs.replay.finished.Goals as goal

pub returns-in_err-test_rows-clause-stops : goal.returns-in_err-test_rows-clause-stops
returns-in_err-test_rows-clause-stops g c =
    let script = c.args.script in
    let rows = c.in_ok-rows.rows.rows in
    let excess = c.in_err-test_rows.field-0.0 in
    let p = err_from_is_err_and c.from_residual-in_err-test_rows.result c.from_residual-in_err-test_rows.ensures.1 in
    let over = c.in_err-test_rows.ensures.over excess refl in
    let ends : outcome script ≡ Ok rows = c.in_ok-rows.ensures.ends in
    let first = subst (λ (n : ℕ). IsFirstOver n script.catalogue.tables rows excess.table excess.rows) c.from.ensures over.0 in
    if_err (ScriptStops c.args.limit script) c.from_residual-in_err-test_rows.result p.0 p.1 (subst (ScriptStops c.args.limit script) (sym p.2) (over-stops c.args.limit script rows excess ends first (over.1 ∙ c.from.ensures)))
