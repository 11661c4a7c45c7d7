use Rattle.std.proofs.Common.{◌+◌, arith}
use Rattle.pac_syntax.proofs.Stepping.{named, name_past, not_named, role_within, role_past, gives_along}
use Rattle.pac_syntax.proofs.parse.parser.Parser.column.Goals as goal

pub returns-in_default-clause-run : goal.returns-in_default-clause-run
returns-in_default-clause-run c = λ k. rw (c.refuse.ensures, c.takes_name.ensures.end, c.in_default.ensures.name.0) (not_named _ _ _ _ c.in_default.ensures.name.1)

pub returns-then-before-limit-clause-run : goal.returns-then-before-limit-clause-run
returns-then-before-limit-clause-run c = λ k.
    name_past _ _ _ _ _ _ _ (role_past c.args.owner (c.args.before + 1) _ (omega (arith, c.limit.ensures, c.if-before-limit.true))) c.in-Some.ensures.name

pub returns-clause-run : goal.returns-clause-run
returns-clause-run c = λ k. gives_along _ c.typed.result _ _
    (named _ _ _ _ _ _ _ c.takes_name.ensures.end (role_within c.args.owner (c.args.before + 1) _ (omega (arith, c.limit.ensures, c.if-before-limit.false))) c.in-Some.ensures.name)
    (c.typed.ensures.run k)
