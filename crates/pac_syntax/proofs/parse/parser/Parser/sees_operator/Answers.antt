-- Where no operator below a level comes next, the rests of its precedences are passed.
use Rattle.std.proofs.Common.{◌≡◌, Option, Some, None, false, refl, sym, ◌∙◌}
use Rattle.std.specs.Option.{is_some}
use Rattle.pac_value.specs.declared.expr.BinOp.{BinOp}
use Rattle.pac_syntax.proofs.Stepping.{no_operator, other_token}
use Rattle.pac_syntax.proofs.parse.parser.Parser.sees_operator.Goals as goal

none_where : (found : Option BinOp) → is_some found ≡ false → found ≡ None
none_where None e = refl
none_where (Some op) e = absurd cc

pub returns-in_default : goal.returns-in_default
returns-in_default c = λ d x k o _. no_operator _ d 0 c.args.level o x k _ c.in_default.ensures

pub returns : goal.returns
returns c = λ d x k o no. other_token _ d 0 c.args.level o x k _ _ _ c.in-Some.ensures (sym c.operator_between.ensures ∙ none_where _ (sym c.is_some.ensures ∙ no))
