-- A script is what the whole input is read as.
use Rattle.std.proofs.Common.{Ok, sym, subst, List, ℕ}
use Rattle.std.specs.Prelude.{IfOk, IfErr}
use Rattle.std.proofs.lemmas.Result.{err_from_is_err_and}
use Rattle.pac_main.specs.Causes.{GivesNoScript, IsNoScript}
use Rattle.pac_main.specs.Replay.{IsReadAs}
use Rattle.pac_main.specs.Streams.{observed}
use Rattle.pac_main.proofs.InputLemmas.{if_err, script-of-input, stops-of-input, unread-script}
use Rattle.pac_main.proofs.replay.read_input.Goals as goal

pub returns-clause-ok : goal.returns-clause-ok
returns-clause-ok g c =
    script-of-input (observed g.I.Source.left g.I.Source.faults c.args.input.now c.read_whole.new.input) c.in_ok-text.text.items c.in_ok-text.ensures.whole c.script_in.result
    (subst (λ (text : List ℕ). IfOk c.script_in.result (λ script. IsReadAs text (Ok script))) c.deref.ensures.value c.script_in.ensures.ok)

pub returns-in_err-text-clause-stops : goal.returns-in_err-text-clause-stops
returns-in_err-text-clause-stops g c =
    let p = err_from_is_err_and c.from_residual.result c.from_residual.ensures.1 in
    let source = observed g.I.Source.left g.I.Source.faults c.args.input.now c.read_whole.new.input in
    if_err (GivesNoScript source) c.from_residual.result p.0 p.1 (subst (GivesNoScript source) (sym p.2) (unread-script source c.in_err-text.field-0.0 c.in_err-text.ensures.stops))

pub returns-clause-stops : goal.returns-clause-stops
returns-clause-stops g c =
    stops-of-input (observed g.I.Source.left g.I.Source.faults c.args.input.now c.read_whole.new.input) c.in_ok-text.text.items c.in_ok-text.ensures.whole c.script_in.result
    (subst (λ (text : List ℕ). IfErr c.script_in.result (IsNoScript text)) c.deref.ensures.value c.script_in.ensures.stops)
