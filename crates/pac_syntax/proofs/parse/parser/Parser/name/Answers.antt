use Rattle.std.proofs.Common.{refl}
use Rattle.pac_syntax.proofs.Stepping.{named, not_named}
use Rattle.pac_syntax.proofs.parse.parser.Parser.name.Goals as goal

pub returns-in-None-clause-run : goal.returns-in-None-clause-run
returns-in-None-clause-run c = λ k. rw (c.refuse.ensures, c.takes_name.ensures.end, c.in-None.ensures.name.0) (not_named _ _ k _ c.in-None.ensures.name.1)

pub returns-in-Some-clause-run : goal.returns-in-Some-clause-run
returns-in-Some-clause-run c = λ k. named _ _ _ k _ _ _ c.takes_name.ensures.end refl c.in-Some.ensures.name
