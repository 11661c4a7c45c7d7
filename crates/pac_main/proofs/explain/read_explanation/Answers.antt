-- What the bytes that were read say of the input.
use Rattle.std.proofs.Common.{sym, subst, List, ℕ}
use Rattle.std.proofs.lemmas.Result.{err_from_is_err_and}
use Rattle.pac_main.specs.Causes.{GivesNoExplanation}
use Rattle.pac_main.specs.Explained.{IsExplanation}
use Rattle.pac_flat.specs.Unaccepted.{IsUnaccepted}
use Rattle.pac_main.specs.Streams.{observed}
use Rattle.pac_main.proofs.InputLemmas.{if_err}
use Rattle.pac_main.proofs.ExplainLemmas.{input-explained, catalogue-unread, no-explanation}
use Rattle.pac_main.proofs.OneExplanation.{the-explanation}
use Rattle.pac_main.proofs.explain.read_explanation.Goals as goal

pub returns-clause-ok : goal.returns-clause-ok
returns-clause-ok g c =
    the-explanation c.args.with_text _ c.in_ok-explain.field-0.items (input-explained c.args.with_text _ _ c.in_ok-text.text.items c.in_ok-explain.field-0.items c.in_ok-text.ensures.bytes c.in_ok-text.ensures.end
    (subst (λ (text : List ℕ). IsExplanation c.args.with_text text c.in_ok-explain.field-0.items) c.deref.ensures.value c.in_ok-explain.ensures.ok))

pub returns-in_err-text-clause-stops : goal.returns-in_err-text-clause-stops
returns-in_err-text-clause-stops g c =
    let p = err_from_is_err_and c.from_residual.result c.from_residual.ensures.1 in
    let source = observed g.I.Source.left g.I.Source.faults c.args.input.now c.read_up_to.new.source in
    if_err (GivesNoExplanation source) c.from_residual.result p.0 p.1 (subst (GivesNoExplanation source) (sym p.2) (catalogue-unread source c.in_err-text.field-0.0 c.in_err-text.ensures.cause))

pub returns-in_err-explain-clause-stops : goal.returns-in_err-explain-clause-stops
returns-in_err-explain-clause-stops g c =
    let p = err_from_is_err_and c.from_residual-in_err-explain.result c.from_residual-in_err-explain.ensures.1 in
    let source = observed g.I.Source.left g.I.Source.faults c.args.input.now c.read_up_to.new.source in
    if_err (GivesNoExplanation source) c.from_residual-in_err-explain.result p.0 p.1 (subst (GivesNoExplanation source) (sym p.2)
    (no-explanation source _ c.in_ok-text.text.items c.in_err-explain.field-0.0 c.in_ok-text.ensures.bytes c.in_ok-text.ensures.end
    (λ fault is. subst (λ (text : List ℕ). IsUnaccepted text fault) c.deref.ensures.value (c.in_err-explain.ensures.fault fault is))))
