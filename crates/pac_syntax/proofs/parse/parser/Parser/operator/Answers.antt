-- An operator of these precedences is taken, and where there is none their rests are passed.
use Rattle.std.proofs.Common.{sym, ◌∙◌}
use Rattle.std.proofs.lemmas.Result.{err_from_is_err_and}
use Rattle.pac_syntax.proofs.Stepping.{no_operator, other_token, operator_past, operator_next}
use Rattle.pac_syntax.proofs.parse.parser.Parser.operator.Goals as goal

pub returns-in_default-clause-run : goal.returns-in_default-clause-run
returns-in_default-clause-run c = λ d x k. no_operator _ d c.args.precedence c.args.level _ x k _ c.in_default.ensures

pub returns-in_default-operator_between-clause-run : goal.returns-in_default-operator_between-clause-run
returns-in_default-operator_between-clause-run c = λ d x k. other_token _ d _ _ _ x k _ _ _ c.in-Some.ensures (sym c.operator_between.ensures ∙ c.in_default-operator_between.is)

pub returns-in_err-count-clause-run : goal.returns-in_err-count-clause-run
returns-in_err-count-clause-run c =
    let p = err_from_is_err_and c.from_residual.result c.from_residual.ensures.1 in
    λ d x k. rw (p.1, p.2, c.in_err-count.ensures.err.1) (operator_past _ d _ _ _ x k _ _ _ _ c.in-Some.ensures (sym c.operator_between.ensures ∙ c.in-Some-operator_between.is) c.in_err-count.ensures.err.0)

pub returns-clause-run : goal.returns-clause-run
returns-clause-run c = λ d x k. operator_next _ _ d _ _ _ _ x k _ _ _ _ c.in_ok-count.ensures.end c.in_ok-count.ensures.ok.1 c.in-Some.ensures (sym c.operator_between.ensures ∙ c.in-Some-operator_between.is) c.in_ok-count.ensures.ok.0
