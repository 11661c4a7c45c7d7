-- A script is what the text is read as.
use Rattle.std.proofs.Common.{Ok, sym, subst}
use Rattle.std.proofs.lemmas.Result.{err_from_is_err_and}
use Rattle.pac_main.specs.Causes.{IsNoScript}
use Rattle.pac_main.proofs.InputLemmas.{if_err, the-reading, no-script, script-runs}
use Rattle.pac_main.proofs.replay.script_in.Goals as goal

pub returns-clause-ok : goal.returns-clause-ok
returns-clause-ok c = the-reading c.args.text.now (Ok c.in_ok-read_script.field-0) c.requires.short c.in_ok-read_script.ensures.says

pub returns-clause-runs : goal.returns-clause-runs
returns-clause-runs c = script-runs _ c.in_ok-read_script.field-0 c.in_ok-read_script.ensures.says

pub returns-in_err-read_script-clause-stops : goal.returns-in_err-read_script-clause-stops
returns-in_err-read_script-clause-stops c =
    let p = err_from_is_err_and c.from_residual.result c.from_residual.ensures.1 in
    if_err (IsNoScript c.args.text.now) c.from_residual.result p.0 p.1 (subst (IsNoScript c.args.text.now) (sym p.2) (no-script c.args.text.now c.in_err-read_script.field-0.0 c.requires.short c.in_err-read_script.ensures.says))
