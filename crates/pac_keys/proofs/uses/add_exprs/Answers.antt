-- The variables of one expression more are added.
use Rattle.std.proofs.Common.{ℕ, subst}
use Rattle.pac_value.specs.declared.expr.Expr.{Expr}
use Rattle.pac_ops.specs.Uses.{expr_uses}
use Rattle.pac_keys.specs.Interfaces.{AddsVars}
use Rattle.pac_keys.proofs.VariableLemmas.{adds_item, adds_whole}
use Rattle.pac_keys.proofs.uses.add_exprs.Goals as goal

pub loop-expr-preserved : goal.loop-expr-preserved
loop-expr-preserved c =
    let exprs = c.args.exprs.now in
    let i = c.loop-expr.expr-index in
    let test = λ (e : Expr) (x : ℕ). expr_uses x e in
    adds_item test exprs i c.expr-item.result c.args.vars.now.items c.loop-expr.vars.items c.add_expr.new.vars.items c.loop-expr-test.true c.loop-expr.invariant
    (subst (λ (e : Expr). AddsVars (test e) c.loop-expr.vars.items c.add_expr.new.vars.items) c.expr-item.is c.in_ok-add_expr.ensures)

pub returns : goal.returns
returns c = adds_whole (λ (e : Expr) (x : ℕ). expr_uses x e) c.args.exprs.now c.loop-expr.expr-index c.args.vars.now.items c.loop-expr.vars.items c.loop-expr-test.false c.loop-expr.invariant
