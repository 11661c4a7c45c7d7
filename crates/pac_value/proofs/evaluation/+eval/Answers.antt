-- Arithmetic gives an int.
use Rattle.std.proofs.Common.{IsSome, ap, sym, subst, ◌∙◌}
use Rattle.pac_value.specs.declared.expr.Expr.{Expr}
use Rattle.pac_value.specs.Expressions.{type_in, types_of}
use Rattle.pac_value.proofs.ArithmeticLemmas.{type_is_int}
use Rattle.pac_value.proofs.evaluation.+eval.Goals as goal

pub eval-returns-then-is_arithmetic-clause-typed : goal.eval-returns-then-is_arithmetic-clause-typed
eval-returns-then-is_arithmetic-clause-typed t c =
    let types = types_of c.args.env.now in
    ap (type_in types) c.in-Bin.is
    ∙ type_is_int c.in-Bin.op _ _ types (sym c.is_arithmetic.ensures ∙ c.if-is_arithmetic.true) (subst (λ (e : Expr). IsSome (type_in types e)) c.in-Bin.is c.requires)
