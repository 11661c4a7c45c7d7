-- What a fold gives for each form of an expression's or a statement's node, and induction over those of expressions.
use Rattle.std.proofs.Common.{◌≡◌, ℕ, ℤ, List, map, sym, ap, subst, ◌∙◌}
use Rattle.pac_value.specs.declared.expr.BinOp.{BinOp}
use Rattle.pac_syntax.specs.declared.tree.NameNode.{NameNode}
use Rattle.pac_syntax.specs.declared.tree.LiteralNode.{LiteralNode}
use Rattle.pac_syntax.specs.declared.tree.ExprNode.{ExprNode, Literal, Name, Binary, Not}
use Rattle.pac_syntax.specs.declared.tree.ExprNode.TheOpen as expr_form
use Rattle.pac_syntax.specs.declared.tree.ExprNode.TheOpen.{ExprNode-F}
use Rattle.pac_syntax.specs.declared.tree.ExprNode.TheVariants.{rolls-Literal, rolls-Name, rolls-Binary, rolls-Not}
use Rattle.pac_syntax.specs.declared.tree.ExprNode.TheViews.{roll-ExprNode}
use Rattle.pac_syntax.specs.declared.tree.ExprNode.TheFolds.{fold-ExprNode, fold-roll-ExprNode, ind-ExprNode, map-ExprNode}
use Rattle.pac_syntax.specs.declared.tree.StmtNode.{StmtNode, Let, Read, Has, Put, Set, Delete, AbortIf, If, For}
use Rattle.pac_syntax.specs.declared.tree.StmtNode.TheOpen as form
use Rattle.pac_syntax.specs.declared.tree.StmtNode.TheOpen.{StmtNode-F}
use Rattle.pac_syntax.specs.declared.tree.StmtNode.TheVariants.{rolls-Let, rolls-Read, rolls-Has, rolls-Put, rolls-Set, rolls-Delete, rolls-AbortIf, rolls-If, rolls-For}
use Rattle.pac_syntax.specs.declared.tree.StmtNode.TheFolds.{fold-StmtNode, fold-roll-StmtNode}

module _ (A : Type 0) (step : ExprNode-F A → A) where
  pub fold-Literal : (l : LiteralNode) → fold-ExprNode A step (Literal l) ≡ step (expr_form.Literal l)
  fold-Literal l = ap (fold-ExprNode A step) (sym (rolls-Literal l)) ∙ fold-roll-ExprNode A step (expr_form.Literal l)

  pub fold-Name : (n : NameNode) → fold-ExprNode A step (Name n) ≡ step (expr_form.Name n)
  fold-Name n = ap (fold-ExprNode A step) (sym (rolls-Name n)) ∙ fold-roll-ExprNode A step (expr_form.Name n)

  pub fold-Binary : (at : ℕ) (op : BinOp) (l r : ExprNode) → fold-ExprNode A step (Binary at op l r) ≡ step (expr_form.Binary at op (fold-ExprNode A step l) (fold-ExprNode A step r))
  fold-Binary at op l r = ap (fold-ExprNode A step) (sym (rolls-Binary at op l r)) ∙ fold-roll-ExprNode A step (expr_form.Binary at op l r)

  pub fold-Not : (at : ℕ) (e : ExprNode) → fold-ExprNode A step (Not at e) ≡ step (expr_form.Not at (fold-ExprNode A step e))
  fold-Not at e = ap (fold-ExprNode A step) (sym (rolls-Not at e)) ∙ fold-roll-ExprNode A step (expr_form.Not at e)

module _ (A : Type 0) (step : StmtNode-F A → A) where
  pub fold-Let : (name : NameNode) (value : ExprNode) → fold-StmtNode A step (Let name value) ≡ step (form.Let name value)
  fold-Let name value = ap (fold-StmtNode A step) (sym (rolls-Let name value)) ∙ fold-roll-StmtNode A step (form.Let name value)

  pub fold-Read : (name table : NameNode) (key : ExprNode) (column : NameNode) (default : LiteralNode) → fold-StmtNode A step (Read name table key column default) ≡ step (form.Read name table key column default)
  fold-Read name table key column default = ap (fold-StmtNode A step) (sym (rolls-Read name table key column default)) ∙ fold-roll-StmtNode A step (form.Read name table key column default)

  pub fold-Has : (name table : NameNode) (key : ExprNode) → fold-StmtNode A step (Has name table key) ≡ step (form.Has name table key)
  fold-Has name table key = ap (fold-StmtNode A step) (sym (rolls-Has name table key)) ∙ fold-roll-StmtNode A step (form.Has name table key)

  pub fold-Put : (table : NameNode) (key : ExprNode) (values : List ExprNode) → fold-StmtNode A step (Put table key values) ≡ step (form.Put table key values)
  fold-Put table key values = ap (fold-StmtNode A step) (sym (rolls-Put table key values)) ∙ fold-roll-StmtNode A step (form.Put table key values)

  pub fold-Set : (table : NameNode) (key : ExprNode) (column : NameNode) (value : ExprNode) → fold-StmtNode A step (Set table key column value) ≡ step (form.Set table key column value)
  fold-Set table key column value = ap (fold-StmtNode A step) (sym (rolls-Set table key column value)) ∙ fold-roll-StmtNode A step (form.Set table key column value)

  pub fold-Delete : (table : NameNode) (key : ExprNode) → fold-StmtNode A step (Delete table key) ≡ step (form.Delete table key)
  fold-Delete table key = ap (fold-StmtNode A step) (sym (rolls-Delete table key)) ∙ fold-roll-StmtNode A step (form.Delete table key)

  pub fold-AbortIf : (test : ExprNode) → fold-StmtNode A step (AbortIf test) ≡ step (form.AbortIf test)
  fold-AbortIf test = ap (fold-StmtNode A step) (sym (rolls-AbortIf test)) ∙ fold-roll-StmtNode A step (form.AbortIf test)

  pub fold-If : (test : ExprNode) (first second : List StmtNode) → fold-StmtNode A step (If test first second) ≡ step (form.If test (map (fold-StmtNode A step) first) (map (fold-StmtNode A step) second))
  fold-If test first second = ap (fold-StmtNode A step) (sym (rolls-If test first second)) ∙ fold-roll-StmtNode A step (form.If test first second)

  pub fold-For : (name : NameNode) (from to : ℤ) (body : List StmtNode) → fold-StmtNode A step (For name from to body) ≡ step (form.For name from to (map (fold-StmtNode A step) body))
  fold-For name from to body = ap (fold-StmtNode A step) (sym (rolls-For name from to body)) ∙ fold-roll-StmtNode A step (form.For name from to body)

-- induction over the nodes of expressions
pub by_nodes : (P : ExprNode → Type 0) → ((l : LiteralNode) → P (Literal l)) → ((n : NameNode) → P (Name n))
    → ((at : ℕ) (op : BinOp) (l r : ExprNode) → P l → P r → P (Binary at op l r)) → ((at : ℕ) (e : ExprNode) → P e → P (Not at e)) → (e : ExprNode) → P e
by_nodes P literal name binary neg = ind-ExprNode P (λ x y is. subst (λ z. P (roll-ExprNode z)) is (go y))
  where
    go : (y : ExprNode-F ((e : ExprNode) × P e)) → P (roll-ExprNode (map-ExprNode ((e : ExprNode) × P e) ExprNode (λ e. e.0) y))
    go (expr_form.Literal l) = subst P (sym (rolls-Literal l)) (literal l)
    go (expr_form.Name n) = subst P (sym (rolls-Name n)) (name n)
    go (expr_form.Binary at op l r) = subst P (sym (rolls-Binary at op l.0 r.0)) (binary at op l.0 r.0 l.1 r.1)
    go (expr_form.Not at e) = subst P (sym (rolls-Not at e.0)) (neg at e.0 e.1)
