use Rattle.std.proofs.Common.{[], ◌∷◌, ◌∙◌}
use Rattle.std.proofs.lemmas.Result.{err_from_is_err_and}
use Rattle.pac_syntax.specs.Grammar.{ParamName}
use Rattle.pac_syntax.specs.Machine.{MoreColumns}
use Rattle.pac_syntax.proofs.Stepping.{params_next, no_params, fails_along, gives_along}
use Rattle.pac_syntax.proofs.parse.parser.Parser.params.Goals as goal

pub returns-in_default-clause-run : goal.returns-in_default-clause-run
returns-in_default-clause-run c = λ k. rw (c.new.ensures.items, c.in_default.ensures.name.0) (no_params _ _ k _ c.takes_name.ensures.end c.in_default.ensures.name.1)

pub returns-in_err-first-clause-run : goal.returns-in_err-first-clause-run
returns-in_err-first-clause-run c =
    let p = err_from_is_err_and c.from_residual.result c.from_residual.ensures.1 in
    λ k. rw (p.1, p.2) (fails_along _ _ _ (params_next _ _ k _ _ _ c.takes_name.ensures.end c.in-Some.ensures.name) (c.in_err-first.ensures.run (λ x. MoreColumns ParamName 1 (x ∷ []) k)))

pub returns-clause-run : goal.returns-clause-run
returns-clause-run c = λ k. gives_along _ c.more_columns.result _ _
    (params_next _ _ k _ _ _ c.takes_name.ensures.end c.in-Some.ensures.name ∙ c.in_ok-first.ensures.run (λ x. MoreColumns ParamName 1 (x ∷ []) k))
    (c.more_columns.ensures.run k)
