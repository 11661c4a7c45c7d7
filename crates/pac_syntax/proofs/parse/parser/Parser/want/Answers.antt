use Rattle.pac_syntax.proofs.Stepping.{wants, not_wanted}
use Rattle.pac_syntax.proofs.parse.parser.Parser.want.Goals as goal

pub returns-in-None-clause-run : goal.returns-in-None-clause-run
returns-in-None-clause-run c = λ k. rw (c.refuse.ensures, c.takes.ensures.end, c.in-None.ensures.token.0) (not_wanted _ _ k _ c.in-None.ensures.token.1)

pub returns-in-Some-clause-run : goal.returns-in-Some-clause-run
returns-in-Some-clause-run c = λ k. wants _ _ _ k _ _ _ c.takes.ensures.end c.in-Some.ensures.token
