use Rattle.pac_syntax.proofs.Stepping.{no_else, else_next, gives_along}
use Rattle.pac_syntax.proofs.parse.parser.Parser.+statement.Goals as goal

pub otherwise-returns-in-None-clause-run : goal.otherwise-returns-in-None-clause-run
otherwise-returns-in-None-clause-run t c = λ k. rw (c.new.ensures.items, c.in-None.ensures.token.0) (no_else _ _ _ k _ c.takes_keyword.ensures.end c.in-None.ensures.token.1)

pub otherwise-returns-in-Some-clause-run : goal.otherwise-returns-in-Some-clause-run
otherwise-returns-in-Some-clause-run t c = λ k. gives_along _ c.block.result _ _ (else_next _ _ _ k _ _ _ c.takes_keyword.ensures.end c.in-Some.ensures.token) (c.block.ensures.run k)
