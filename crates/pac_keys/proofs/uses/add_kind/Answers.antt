-- The variables of each part are added.
use Rattle.std.proofs.Common.{◌||◌, sym, ap, ◌∙◌}
use Rattle.pac_ops.specs.Uses.{expr_uses, exprs_use, kind_uses}
use Rattle.pac_keys.proofs.VariableLemmas.{on_ok, adds_both, adds_same}
use Rattle.pac_keys.proofs.uses.add_kind.Goals as goal

pub returns-in-Let : goal.returns-in-Let
returns-in-Let c = on_ok c.add_expr.result (adds_same (λ x. expr_uses x c.in-Let.value) (λ x. kind_uses x c.args.kind.now) c.args.vars.now.items c.add_expr.new.vars.items (λ x. sym (ap (kind_uses x) c.in-Let.is))) c.add_expr.ensures

pub returns-in-Cond : goal.returns-in-Cond
returns-in-Cond c = on_ok c.add_expr-in-Cond.result (adds_same (λ x. expr_uses x c.in-Cond.test) (λ x. kind_uses x c.args.kind.now) c.args.vars.now.items c.add_expr-in-Cond.new.vars.items (λ x. sym (ap (kind_uses x) c.in-Cond.is))) c.add_expr-in-Cond.ensures

pub returns-in-AbortIf : goal.returns-in-AbortIf
returns-in-AbortIf c = on_ok c.add_expr-in-AbortIf.result (adds_same (λ x. expr_uses x c.in-AbortIf.test) (λ x. kind_uses x c.args.kind.now) c.args.vars.now.items c.add_expr-in-AbortIf.new.vars.items (λ x. sym (ap (kind_uses x) c.in-AbortIf.is))) c.add_expr-in-AbortIf.ensures

pub returns-in-Read : goal.returns-in-Read
returns-in-Read c = on_ok c.add_expr-in-Read.result (adds_same (λ x. expr_uses x c.in-Read.key) (λ x. kind_uses x c.args.kind.now) c.args.vars.now.items c.add_expr-in-Read.new.vars.items (λ x. sym (ap (kind_uses x) c.in-Read.is))) c.add_expr-in-Read.ensures

pub returns-in-Has : goal.returns-in-Has
returns-in-Has c = on_ok c.add_expr-in-Has.result (adds_same (λ x. expr_uses x c.in-Has.key) (λ x. kind_uses x c.args.kind.now) c.args.vars.now.items c.add_expr-in-Has.new.vars.items (λ x. sym (ap (kind_uses x) c.in-Has.is))) c.add_expr-in-Has.ensures

pub returns-in-Delete : goal.returns-in-Delete
returns-in-Delete c = on_ok c.add_expr-in-Delete.result (adds_same (λ x. expr_uses x c.in-Delete.key) (λ x. kind_uses x c.args.kind.now) c.args.vars.now.items c.add_expr-in-Delete.new.vars.items (λ x. sym (ap (kind_uses x) c.in-Delete.is))) c.add_expr-in-Delete.ensures

pub returns-in_ok-add_expr-in-Put : goal.returns-in_ok-add_expr-in-Put
returns-in_ok-add_expr-in-Put c =
    on_ok c.add_exprs.result
    (λ second. adds_same _ (λ x. kind_uses x c.args.kind.now) c.args.vars.now.items c.add_exprs.new.vars.items
    (λ x. (λ i. expr_uses x c.in-Put.key || exprs_use x (c.as_slice.ensures i)) ∙ sym (ap (kind_uses x) c.in-Put.is))
    (adds_both (λ x. expr_uses x c.in-Put.key) (λ x. exprs_use x c.as_slice.result.now) c.args.vars.now.items c.add_expr-in-Put.new.vars.items c.add_exprs.new.vars.items c.in_ok-add_expr-in-Put.ensures second))
    c.add_exprs.ensures

pub returns-in_ok-add_expr-in-SetCol : goal.returns-in_ok-add_expr-in-SetCol
returns-in_ok-add_expr-in-SetCol c =
    on_ok c.add_expr-in-SetCol-2.result
    (λ second. adds_same _ (λ x. kind_uses x c.args.kind.now) c.args.vars.now.items c.add_expr-in-SetCol-2.new.vars.items
    (λ x. sym (ap (kind_uses x) c.in-SetCol.is))
    (adds_both (λ x. expr_uses x c.in-SetCol.key) (λ x. expr_uses x c.in-SetCol.value) c.args.vars.now.items c.add_expr-in-SetCol.new.vars.items c.add_expr-in-SetCol-2.new.vars.items c.in_ok-add_expr-in-SetCol.ensures second))
    c.add_expr-in-SetCol-2.ensures
