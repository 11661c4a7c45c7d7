use Rattle.pac_syntax.proofs.Stepping.{typed, not_typed}
use Rattle.pac_syntax.proofs.parse.parser.Parser.ty.Goals as goal

pub returns-in-None-clause-run : goal.returns-in-None-clause-run
returns-in-None-clause-run c = λ k. rw (c.refuse.ensures, c.takes_type.ensures.end, c.in-None.ensures.ty.0) (not_typed _ k _ c.in-None.ensures.ty.1)

pub returns-in-Some-clause-run : goal.returns-in-Some-clause-run
returns-in-Some-clause-run c = λ k. typed _ _ k _ _ _ c.takes_type.ensures.end c.in-Some.ensures.ty
