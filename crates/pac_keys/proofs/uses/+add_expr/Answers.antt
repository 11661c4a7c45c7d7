-- The variables of the operands are added.
use Rattle.std.proofs.Common.{◌||◌, Bool, sym, ap, ◌∙◌}
use Rattle.pac_value.proofs.ByForms.{fold-Bin, fold-Not}
use Rattle.pac_ops.specs.Uses.{expr_uses, use_step}
use Rattle.pac_keys.proofs.VariableLemmas.{on_ok, adds_both, adds_same}
use Rattle.pac_keys.proofs.uses.+add_expr.Goals as goal

pub returns-in_ok-add_expr-in-Bin : goal.returns-in_ok-add_expr-in-Bin
returns-in_ok-add_expr-in-Bin t c =
    on_ok c.add_expr-in-Bin.result
    (λ second. adds_same _ (λ x. expr_uses x c.args.expr.now) c.args.vars.now.items c.add_expr-in-Bin.new.vars.items
    (λ x. (λ i. expr_uses x (c.get.ensures i) || expr_uses x (c.get-in-Bin.ensures i)) ∙ sym (fold-Bin Bool (use_step x) c.in-Bin.op c.in-Bin.left c.in-Bin.right) ∙ sym (ap (expr_uses x) c.in-Bin.is))
    (adds_both (λ x. expr_uses x c.get.result.now) (λ x. expr_uses x c.get-in-Bin.result.now) c.args.vars.now.items c.add_expr.new.vars.items c.add_expr-in-Bin.new.vars.items c.in_ok-add_expr-in-Bin.ensures second))
    c.add_expr-in-Bin.ensures

pub returns-in-Not : goal.returns-in-Not
returns-in-Not t c =
    on_ok c.add_expr-in-Not.result
    (λ h. adds_same (λ x. expr_uses x c.get-in-Not.result.now) (λ x. expr_uses x c.args.expr.now) c.args.vars.now.items c.add_expr-in-Not.new.vars.items
    (λ x. ap (expr_uses x) c.get-in-Not.ensures ∙ sym (fold-Not Bool (use_step x) c.in-Not.operand) ∙ sym (ap (expr_uses x) c.in-Not.is)) h)
    c.add_expr-in-Not.ensures
