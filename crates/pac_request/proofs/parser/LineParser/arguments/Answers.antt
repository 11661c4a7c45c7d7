use Rattle.std.proofs.Common.{[], ◌∷◌, ◌∙◌}
use Rattle.std.proofs.lemmas.Result.{err_from_is_err_and}
use Rattle.pac_request.specs.LineSteps.{MoreLiterals}
use Rattle.pac_request.proofs.LineStepping.{no_arguments, rest_arguments, fails_along, gives_along}
use Rattle.pac_request.proofs.parser.LineParser.arguments.Goals as goal

pub returns-in-Some : goal.returns-in-Some
returns-in-Some c = record { run = λ k. rw c.new.ensures.items (no_arguments _ _ k _ _ _ c.takes.ensures.end c.in-Some.ensures.token) }

pub returns-in_err-at : goal.returns-in_err-at
returns-in_err-at c =
    let p = err_from_is_err_and c.from_residual.result c.from_residual.ensures.1 in
    record { run = λ k. rw (p.1, p.2) (fails_along _ _ _ (rest_arguments _ _ k _ _ c.takes.ensures.end c.in_default.ensures.token) (c.in_err-at.ensures.run (λ l. MoreLiterals (l ∷ []) k))) }

pub returns : goal.returns
returns c = record { run = λ k. gives_along _ c.more_literals.result _ _ (rest_arguments _ _ k _ _ c.takes.ensures.end c.in_default.ensures.token ∙ c.in_ok-at.ensures.run (λ l. MoreLiterals (l ∷ []) k)) (c.more_literals.ensures.run k) }
