-- What a fold gives for each form of a statement.
use Rattle.std.proofs.Common.{◌≡◌, ℕ, ℤ, List, map, sym, ap, ◌∙◌}
use Rattle.pac_value.specs.declared.values.Value.{Value}
use Rattle.pac_value.specs.declared.expr.Expr.{Expr}
use Rattle.pac_types.specs.declared.statement.Stmt.{Stmt, Let, Read, Has, Put, Set, Delete, AbortIf, If, For}
use Rattle.pac_types.specs.declared.statement.Stmt.TheOpen as form
use Rattle.pac_types.specs.declared.statement.Stmt.TheOpen.{Stmt-F}
use Rattle.pac_types.specs.declared.statement.Stmt.TheVariants.{rolls-Let, rolls-Read, rolls-Has, rolls-Put, rolls-Set, rolls-Delete, rolls-AbortIf, rolls-If, rolls-For}
use Rattle.pac_types.specs.declared.statement.Stmt.TheFolds.{fold-Stmt, fold-roll-Stmt}

module _ (A : Type 0) (step : Stmt-F A → A) (s : Stmt) where
  pub at-Let : (x : ℕ) (e : Expr) → s ≡ Let x e → fold-Stmt A step s ≡ step (form.Let x e)
  at-Let x e is = ap (fold-Stmt A step) (is ∙ sym (rolls-Let x e)) ∙ fold-roll-Stmt A step (form.Let x e)

  pub at-Read : (x t : ℕ) (k : Expr) (c : ℕ) (d : Value) → s ≡ Read x t k c d → fold-Stmt A step s ≡ step (form.Read x t k c d)
  at-Read x t k c d is = ap (fold-Stmt A step) (is ∙ sym (rolls-Read x t k c d)) ∙ fold-roll-Stmt A step (form.Read x t k c d)

  pub at-Has : (x t : ℕ) (k : Expr) → s ≡ Has x t k → fold-Stmt A step s ≡ step (form.Has x t k)
  at-Has x t k is = ap (fold-Stmt A step) (is ∙ sym (rolls-Has x t k)) ∙ fold-roll-Stmt A step (form.Has x t k)

  pub at-Put : (t : ℕ) (k : Expr) (es : List Expr) → s ≡ Put t k es → fold-Stmt A step s ≡ step (form.Put t k es)
  at-Put t k es is = ap (fold-Stmt A step) (is ∙ sym (rolls-Put t k es)) ∙ fold-roll-Stmt A step (form.Put t k es)

  pub at-Set : (t : ℕ) (k : Expr) (c : ℕ) (e : Expr) → s ≡ Set t k c e → fold-Stmt A step s ≡ step (form.Set t k c e)
  at-Set t k c e is = ap (fold-Stmt A step) (is ∙ sym (rolls-Set t k c e)) ∙ fold-roll-Stmt A step (form.Set t k c e)

  pub at-Delete : (t : ℕ) (k : Expr) → s ≡ Delete t k → fold-Stmt A step s ≡ step (form.Delete t k)
  at-Delete t k is = ap (fold-Stmt A step) (is ∙ sym (rolls-Delete t k)) ∙ fold-roll-Stmt A step (form.Delete t k)

  pub at-AbortIf : (e : Expr) → s ≡ AbortIf e → fold-Stmt A step s ≡ step (form.AbortIf e)
  at-AbortIf e is = ap (fold-Stmt A step) (is ∙ sym (rolls-AbortIf e)) ∙ fold-roll-Stmt A step (form.AbortIf e)

  pub at-If : (x : ℕ) (e : Expr) (first second : List Stmt) → s ≡ If x e first second → fold-Stmt A step s ≡ step (form.If x e (map (fold-Stmt A step) first) (map (fold-Stmt A step) second))
  at-If x e first second is = ap (fold-Stmt A step) (is ∙ sym (rolls-If x e first second)) ∙ fold-roll-Stmt A step (form.If x e first second)

  pub at-For : (x : ℕ) (from to : ℤ) (body : List Stmt) → s ≡ For x from to body → fold-Stmt A step s ≡ step (form.For x from to (map (fold-Stmt A step) body))
  at-For x from to body is = ap (fold-Stmt A step) (is ∙ sym (rolls-For x from to body)) ∙ fold-roll-Stmt A step (form.For x from to body)
