use Rattle.std.proofs.Common.{List, [], ◌∷◌, ◌++◌, ◌∙◌, ap, length, arith}
use Rattle.std.proofs.lemmas.Result.{err_from_is_err_and}
use Rattle.pac_request.specs.declared.node.PlacedLiteral.{PlacedLiteral}
use Rattle.pac_request.specs.LineSteps.{MoreLiterals}
use Rattle.pac_request.proofs.LineStepping.{comma_read, no_comma, pushed, fails_along}
use Rattle.pac_request.proofs.parser.LineParser.more_literals.Goals as goal

pub returns-in_err-at-clause-run : goal.returns-in_err-at-clause-run
returns-in_err-at-clause-run c =
    let p = err_from_is_err_and c.from_residual-in_err-at.result c.from_residual-in_err-at.ensures.1 in
    λ k. rw (p.1, p.2) (fails_along _ _ _
    (c.loop-self.invariant.run k ∙ comma_read _ _ _ k _ _ _ c.takes.ensures.end c.in-Some.ensures.token)
    (c.in_err-at.ensures.run (λ x. MoreLiterals (c.loop-self.literals.items ++ (x ∷ [])) k)))

pub loop-self-preserved : goal.loop-self-preserved
loop-self-preserved c = record {
  left = omega (arith, c.loop-self.invariant.left, c.in_ok-at.ensures.left, ap length c.in-Some.ensures.token.text);
  run = λ k. c.loop-self.invariant.run k ∙ comma_read _ _ _ k _ _ _ c.takes.ensures.end c.in-Some.ensures.token
      ∙ c.in_ok-at.ensures.run (λ x. MoreLiterals (c.loop-self.literals.items ++ (x ∷ [])) k)
      ∙ pushed (λ (xs : List PlacedLiteral). MoreLiterals xs k) _ _ _ _ _ c.in_ok-push-2.ensures.items;
}

pub returns-in_err-sign-clause-run : goal.returns-in_err-sign-clause-run
returns-in_err-sign-clause-run c =
    let p = err_from_is_err_and c.from_residual-in_err-sign.result c.from_residual-in_err-sign.ensures.1 in
    λ k. rw (p.1, p.2) (fails_along _ _ _ (c.loop-self.invariant.run k ∙ rw c.in_default.ensures.token.0 (no_comma _ _ _ k _ c.takes.ensures.end c.in_default.ensures.token.1)) (c.in_err-sign.ensures.run (k c.loop-self.literals.items)))

pub returns-clause-run : goal.returns-clause-run
returns-clause-run c = λ k. c.loop-self.invariant.run k ∙ rw c.in_default.ensures.token.0 (no_comma _ _ _ k _ c.takes.ensures.end c.in_default.ensures.token.1) ∙ c.in_ok-sign.ensures.run (k c.loop-self.literals.items)
