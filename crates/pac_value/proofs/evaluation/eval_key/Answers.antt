-- An operator gives an int, where what it gives is a key.
use Rattle.std.proofs.Common.{IsSome, ap, subst, ◌∙◌}
use Rattle.pac_value.specs.declared.expr.Expr.{Expr}
use Rattle.pac_value.specs.Expressions.{type_in, types_of}
use Rattle.pac_value.proofs.KeyTypes.{operator_is_int}
use Rattle.pac_value.proofs.evaluation.eval_key.Goals as goal

pub returns-in_ok-eval_int-in-Bin-clause-typed : goal.returns-in_ok-eval_int-in-Bin-clause-typed
returns-in_ok-eval_int-in-Bin-clause-typed c =
    let types = types_of c.args.env.now in
    let is = ap (type_in types) c.in-Bin.is in
    is ∙ operator_is_int types c.in-Bin.op c.in-Bin.left c.in-Bin.right (subst (λ (e : Expr). IsSome (type_in types e)) c.in-Bin.is c.requires.typed) (λ e. c.requires.stored (is ∙ e))
