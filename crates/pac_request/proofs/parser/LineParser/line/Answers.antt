use Rattle.std.proofs.Common.{sym, ◌∙◌}
use Rattle.std.proofs.lemmas.Result.{err_from_is_err_and}
use Rattle.pac_request.proofs.LineStepping.{empty_line, no_verb, verb_read, ended, trailing, fails_along}
use Rattle.pac_request.proofs.parser.LineParser.line.Goals as goal

pub returns-in_default : goal.returns-in_default
returns-in_default c = empty_line _ _ c.in_default.ensures

pub returns-in_default-verb_of : goal.returns-in_default-verb_of
returns-in_default-verb_of c = rw c.refuse.ensures (no_verb _ _ _ _ c.in-Some.ensures (sym c.verb_of.ensures ∙ c.in_default-verb_of.is))

pub returns-in_err-said : goal.returns-in_err-said
returns-in_err-said c =
    let p = err_from_is_err_and c.from_residual.result c.from_residual.ensures.1 in
    rw (p.1, p.2) (fails_along _ _ _ (verb_read _ _ _ _ _ c.in-Some.ensures (sym c.verb_of.ensures ∙ c.in-Some-verb_of.is)) c.in_err-said.ensures.run)

pub returns-in-None : goal.returns-in-None
returns-in-None c = verb_read _ _ _ _ _ c.in-Some.ensures (sym c.verb_of.ensures ∙ c.in-Some-verb_of.is) ∙ c.in_ok-said.ensures.run ∙ ended _ _ _ c.in-None.ensures

pub returns-in-Some-split_first : goal.returns-in-Some-split_first
returns-in-Some-split_first c = rw c.refuse-in-Some-split_first.ensures (verb_read _ _ _ _ _ c.in-Some.ensures (sym c.verb_of.ensures ∙ c.in-Some-verb_of.is) ∙ c.in_ok-said.ensures.run ∙ trailing _ _ _ _ _ c.in-Some-split_first.ensures)
