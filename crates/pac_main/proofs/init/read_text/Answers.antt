-- What the bytes that were read say of the input.
use Rattle.std.proofs.Common.{sym, subst, List, ℕ}
use Rattle.std.proofs.lemmas.Result.{err_from_is_err_and}
use Rattle.pac_main.specs.Inputs.{IsAcceptedText}
use Rattle.pac_main.specs.Causes.{GivesNoText}
use Rattle.pac_flat.specs.Unaccepted.{IsUnaccepted}
use Rattle.pac_main.specs.Streams.{observed}
use Rattle.pac_main.proofs.InputLemmas.{if_err}
use Rattle.pac_main.proofs.InitLemmas.{store-text, text-unread, text-refused}
use Rattle.pac_main.proofs.init.read_text.Goals as goal

pub returns-clause-accepted : goal.returns-clause-accepted
returns-clause-accepted g c = subst (λ (text : List ℕ). IsAcceptedText text) c.deref.ensures.value (c.in_ok-accepted.field-0, c.in_ok-accepted.ensures.ok)

pub returns-clause-ok : goal.returns-clause-ok
returns-clause-ok g c = store-text _ _ c.in_ok-text.text.items c.in_ok-text.ensures.bytes c.in_ok-text.ensures.end (subst (λ (text : List ℕ). IsAcceptedText text) c.deref.ensures.value (c.in_ok-accepted.field-0, c.in_ok-accepted.ensures.ok))

pub returns-in_err-text-clause-stops : goal.returns-in_err-text-clause-stops
returns-in_err-text-clause-stops g c =
    let p = err_from_is_err_and c.from_residual.result c.from_residual.ensures.1 in
    let source = observed g.I.Source.left g.I.Source.faults c.args.input.now c.read_up_to.new.source in
    if_err (GivesNoText source) c.from_residual.result p.0 p.1 (subst (GivesNoText source) (sym p.2) (text-unread source c.in_err-text.field-0.0 c.in_err-text.ensures.cause))

pub returns-in_err-accepted-clause-stops : goal.returns-in_err-accepted-clause-stops
returns-in_err-accepted-clause-stops g c =
    let p = err_from_is_err_and c.from_residual-in_err-accepted.result c.from_residual-in_err-accepted.ensures.1 in
    let source = observed g.I.Source.left g.I.Source.faults c.args.input.now c.read_up_to.new.source in
    if_err (GivesNoText source) c.from_residual-in_err-accepted.result p.0 p.1 (subst (GivesNoText source) (sym p.2)
    (text-refused source _ c.in_ok-text.text.items c.in_err-accepted.field-0.0 c.in_ok-text.ensures.bytes c.in_ok-text.ensures.end
    (λ fault is. subst (λ (text : List ℕ). IsUnaccepted text fault) c.deref.ensures.value (c.in_err-accepted.ensures.fault fault is))))
