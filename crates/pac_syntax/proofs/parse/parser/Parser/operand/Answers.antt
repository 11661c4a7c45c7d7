-- A literal is an operand.
use Rattle.std.proofs.Common.{refl, ◌∙◌, ap, sym}
use Rattle.pac_syntax.specs.Machine.{begun_literal, run}
use Rattle.std.proofs.lemmas.Result.{err_from_is_err_and}
use Rattle.pac_syntax.proofs.Stepping.{operand_literal, fails_along}
use Rattle.pac_syntax.proofs.parse.parser.Parser.operand.Goals as goal

pub returns-in_err-literal-clause-run : goal.returns-in_err-literal-clause-run
returns-in_err-literal-clause-run c =
    let p = err_from_is_err_and c.from_residual.result c.from_residual.ensures.1 in
    λ k. rw (p.1, p.2) (fails_along _ _ _ (operand_literal _ _ _ _ k _ _ refl refl c.requires.no_negation c.requires.no_paren c.requires.no_name) (c.in_err-literal.ensures.run _))

pub returns-clause-run : goal.returns-clause-run
returns-clause-run c = λ k.
    operand_literal _ _ _ _ k _ _ refl refl c.requires.no_negation c.requires.no_paren c.requires.no_name ∙ c.in_ok-literal.ensures.run _
    ∙ ap (λ o. run c.literal.new.self.end (k (begun_literal c.in_ok-literal.literal) o) c.literal.new.self.rest.now) (sym c.in_ok-literal.ensures.operators)
