use Rattle.pac_request.proofs.LineStepping.{symbol_read, no_symbol}
use Rattle.pac_request.proofs.parser.LineParser.sign.Goals as goal

pub returns-in-None-clause-run : goal.returns-in-None-clause-run
returns-in-None-clause-run c = λ k. rw (c.refuse.ensures, c.takes.ensures.end, c.in-None.ensures.token.0) (no_symbol _ _ k _ c.in-None.ensures.token.1)

pub returns-in-Some-clause-run : goal.returns-in-Some-clause-run
returns-in-Some-clause-run c = λ k. symbol_read _ _ _ k _ _ _ c.takes.ensures.end c.in-Some.ensures.token
