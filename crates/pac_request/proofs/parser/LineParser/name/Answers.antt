use Rattle.pac_request.proofs.LineStepping.{name_read, no_name}
use Rattle.pac_request.proofs.parser.LineParser.name.Goals as goal

pub returns-in-None-clause-run : goal.returns-in-None-clause-run
returns-in-None-clause-run c = λ k. rw (c.refuse.ensures, c.takes_name.ensures.end, c.in-None.ensures.name.0) (no_name _ k _ c.in-None.ensures.name.1)

pub returns-in-Some-clause-run : goal.returns-in-Some-clause-run
returns-in-Some-clause-run c = λ k. name_read _ _ k _ _ _ c.takes_name.ensures.end c.in-Some.ensures.name
