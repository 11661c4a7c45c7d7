-- Induction over statements: each is one operation, a conditional, or a loop.
use Rattle.std.proofs.Common.{◌≡◌, ℕ, ℤ, Bool, true, false, List, [], ◌∷◌, map, refl, sym, subst}
use Rattle.std.specs.List.{AllByRecursion}
use Rattle.pac_value.specs.declared.expr.Expr.{Expr}
use Rattle.pac_ops.specs.declared.program.OpKind.{OpKind}
use Rattle.pac_ops.specs.declared.program.OpKind.TheVariants as kind
use Rattle.pac_types.specs.declared.statement.Stmt.{Stmt, Let, Read, Has, Put, Set, Delete, AbortIf, If, For}
use Rattle.pac_types.specs.declared.statement.Stmt.TheOpen as form
use Rattle.pac_types.specs.declared.statement.Stmt.TheOpen.{Stmt-F}
use Rattle.pac_types.specs.declared.statement.Stmt.TheVariants.{rolls-Let, rolls-Read, rolls-Has, rolls-Put, rolls-Set, rolls-Delete, rolls-AbortIf, rolls-If, rolls-For}
use Rattle.pac_types.specs.declared.statement.Stmt.TheViews.{roll-Stmt}
use Rattle.pac_types.specs.declared.statement.Stmt.TheFolds.{fold-Stmt, ind-Stmt, map-Stmt}
use Rattle.pac_types.proofs.StmtForms.{at-Let, at-Read, at-Has, at-Put, at-Set, at-Delete, at-AbortIf, at-If, at-For}

-- the form of a statement that is this operation; a test is none
abbrev pub form_of : (A : Type 0) → OpKind → Stmt-F A
form_of A (kind.Let x e) = form.Let x e
form_of A (kind.Cond x e) = form.AbortIf e
form_of A (kind.Read x t k c d) = form.Read x t k c d
form_of A (kind.Has x t k) = form.Has x t k
form_of A (kind.Put t k es) = form.Put t k es
form_of A (kind.SetCol t k c e) = form.Set t k c e
form_of A (kind.Delete t k) = form.Delete t k
form_of A (kind.AbortIf e) = form.AbortIf e

abbrev pub is_test : OpKind → Bool
is_test (kind.Cond x e) = true
is_test _ = false

-- what a fold gives for a statement of this form
abbrev pub IsOne : Stmt → OpKind → Type 1
IsOne s kind = (A : Type 0) (step : Stmt-F A → A) → fold-Stmt A step s ≡ step (form_of A kind)

abbrev pub IsConditional : Stmt → ℕ → Expr → List Stmt → List Stmt → Type 1
IsConditional s x e first second = (A : Type 0) (step : Stmt-F A → A) → fold-Stmt A step s ≡ step (form.If x e (map (fold-Stmt A step) first) (map (fold-Stmt A step) second))

abbrev pub IsLoop : Stmt → ℕ → ℤ → ℤ → List Stmt → Type 1
IsLoop s x from to body = (A : Type 0) (step : Stmt-F A → A) → fold-Stmt A step s ≡ step (form.For x from to (map (fold-Stmt A step) body))

module _ (P : Stmt → Type 0) (at_one : (s : Stmt) (kind : OpKind) → is_test kind ≡ false → IsOne s kind → P s)
    (at_conditional : (s : Stmt) (x : ℕ) (e : Expr) (first second : List Stmt) → IsConditional s x e first second → AllByRecursion P first → AllByRecursion P second → P s)
    (at_loop : (s : Stmt) (x : ℕ) (from to : ℤ) (body : List Stmt) → IsLoop s x from to body → AllByRecursion P body → P s) where
  each : (qs : List ((s : Stmt) × P s)) → AllByRecursion P (map (λ q. q.0) qs)
  each [] = tt
  each (q ∷ qs) = (q.1, each qs)

  at_step : (y : Stmt-F ((s : Stmt) × P s)) → P (roll-Stmt (map-Stmt ((s : Stmt) × P s) Stmt (λ q. q.0) y))
  at_step (form.Let x e) = subst P (sym (rolls-Let x e)) (at_one (Let x e) (kind.Let x e) refl (λ A step. at-Let A step (Let x e) x e refl))
  at_step (form.Read x t k c d) = subst P (sym (rolls-Read x t k c d)) (at_one (Read x t k c d) (kind.Read x t k c d) refl (λ A step. at-Read A step (Read x t k c d) x t k c d refl))
  at_step (form.Has x t k) = subst P (sym (rolls-Has x t k)) (at_one (Has x t k) (kind.Has x t k) refl (λ A step. at-Has A step (Has x t k) x t k refl))
  at_step (form.Put t k es) = subst P (sym (rolls-Put t k es)) (at_one (Put t k es) (kind.Put t k es) refl (λ A step. at-Put A step (Put t k es) t k es refl))
  at_step (form.Set t k c e) = subst P (sym (rolls-Set t k c e)) (at_one (Set t k c e) (kind.SetCol t k c e) refl (λ A step. at-Set A step (Set t k c e) t k c e refl))
  at_step (form.Delete t k) = subst P (sym (rolls-Delete t k)) (at_one (Delete t k) (kind.Delete t k) refl (λ A step. at-Delete A step (Delete t k) t k refl))
  at_step (form.AbortIf e) = subst P (sym (rolls-AbortIf e)) (at_one (AbortIf e) (kind.AbortIf e) refl (λ A step. at-AbortIf A step (AbortIf e) e refl))
  at_step (form.If x e first second) =
      let a = map (λ (q : (s : Stmt) × P s). q.0) first in
      let b = map (λ (q : (s : Stmt) × P s). q.0) second in
      subst P (sym (rolls-If x e a b)) (at_conditional (If x e a b) x e a b (λ A step. at-If A step (If x e a b) x e a b refl) (each first) (each second))
  at_step (form.For x from to body) =
      let a = map (λ (q : (s : Stmt) × P s). q.0) body in
      subst P (sym (rolls-For x from to a)) (at_loop (For x from to a) x from to a (λ A step. at-For A step (For x from to a) x from to a refl) (each body))

  pub by_shape : (s : Stmt) → P s
  by_shape = ind-Stmt P (λ x y is. subst (λ z. P (roll-Stmt z)) is (at_step y))

  pub all_by_shape : (ss : List Stmt) → AllByRecursion P ss
  all_by_shape [] = tt
  all_by_shape (s ∷ ss) = (by_shape s, all_by_shape ss)
