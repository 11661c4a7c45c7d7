use Rattle.std.proofs.Common.{[], ◌∷◌, ◌++◌, ◌∙◌, refl, ap, length, arith}
use Rattle.std.proofs.lemmas.Result.{err_from_is_err_and}
use Rattle.pac_syntax.specs.Machine.{MoreValues}
use Rattle.pac_syntax.proofs.Stepping.{value_next, no_value, fails_along}
use Rattle.pac_syntax.proofs.parse.parser.Parser.more_values.Goals as goal

pub returns-in_err-value-clause-run : goal.returns-in_err-value-clause-run
returns-in_err-value-clause-run c =
    let p = err_from_is_err_and c.from_residual-in_err-value.result c.from_residual-in_err-value.ensures.1 in
    λ k. rw (p.1, p.2) (fails_along _ _ _
    (c.loop-self.invariant.run k ∙ value_next _ _ _ k _ _ _ c.takes_symbol.ensures.end c.in-Some.ensures.token)
    (c.in_err-value.ensures.run (λ v. MoreValues (c.loop-self.values.items ++ (v ∷ [])) k)))

pub loop-self-preserved : goal.loop-self-preserved
loop-self-preserved c = record {
  left = omega (arith, c.loop-self.invariant.left, c.in_ok-value.ensures.left, ap length c.in-Some.ensures.token.text);
  run = λ k. c.loop-self.invariant.run k ∙ value_next _ _ _ k _ _ _ c.takes_symbol.ensures.end c.in-Some.ensures.token
      ∙ c.in_ok-value.ensures.run (λ v. MoreValues (c.loop-self.values.items ++ (v ∷ [])) k) ∙ rw c.in_ok-push-2.ensures.items refl;
}

pub returns-clause-run : goal.returns-clause-run
returns-clause-run c = λ k. c.loop-self.invariant.run k ∙ rw c.in_default.ensures.token.0 (no_value _ _ _ k _ c.takes_symbol.ensures.end c.in_default.ensures.token.1)
