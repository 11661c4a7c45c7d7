-- Induction over expressions, and what a fold gives for each form.
use Rattle.std.specs.Prelude.{◌≡◌, ℕ}
use Rattle.std.proofs.Common.{subst, sym, ap, ◌∙◌}
use Rattle.pac_value.specs.declared.values.Value.{Value}
use Rattle.pac_value.specs.declared.expr.BinOp.{BinOp}
use Rattle.pac_value.specs.declared.expr.Expr.{Expr, Lit, Var, Bin, Not}
use Rattle.pac_value.specs.declared.expr.Expr.TheOpen as form
use Rattle.pac_value.specs.declared.expr.Expr.TheOpen.{Expr-F}
use Rattle.pac_value.specs.declared.expr.Expr.TheViews.{roll-Expr}
use Rattle.pac_value.specs.declared.expr.Expr.TheVariants.{rolls-Lit, rolls-Var, rolls-Bin, rolls-Not}
use Rattle.pac_value.specs.declared.expr.Expr.TheFolds.{fold-Expr, fold-roll-Expr, ind-Expr, map-Expr}

module _ (A : Type 0) (step : Expr-F A → A) where
  pub fold-Lit : (v : Value) → fold-Expr A step (Lit v) ≡ step (form.Lit v)
  fold-Lit v = ap (fold-Expr A step) (sym (rolls-Lit v)) ∙ fold-roll-Expr A step (form.Lit v)

  pub fold-Var : (x : ℕ) → fold-Expr A step (Var x) ≡ step (form.Var x)
  fold-Var x = ap (fold-Expr A step) (sym (rolls-Var x)) ∙ fold-roll-Expr A step (form.Var x)

  pub fold-Bin : (op : BinOp) (l r : Expr) → fold-Expr A step (Bin op l r) ≡ step (form.Bin op (fold-Expr A step l) (fold-Expr A step r))
  fold-Bin op l r = ap (fold-Expr A step) (sym (rolls-Bin op l r)) ∙ fold-roll-Expr A step (form.Bin op l r)

  pub fold-Not : (e : Expr) → fold-Expr A step (Not e) ≡ step (form.Not (fold-Expr A step e))
  fold-Not e = ap (fold-Expr A step) (sym (rolls-Not e)) ∙ fold-roll-Expr A step (form.Not e)

pub by_forms : (P : Expr → Type 0) → ((v : Value) → P (Lit v)) → ((x : ℕ) → P (Var x)) → ((op : BinOp) (l r : Expr) → P l → P r → P (Bin op l r)) → ((e : Expr) → P e → P (Not e)) → (e : Expr) → P e
by_forms P lit var bin neg = ind-Expr P (λ x y is. subst (λ z. P (roll-Expr z)) is (go y))
  where
    go : (y : Expr-F ((e : Expr) × P e)) → P (roll-Expr (map-Expr ((e : Expr) × P e) Expr (λ e. e.0) y))
    go (form.Lit v) = subst P (sym (rolls-Lit v)) (lit v)
    go (form.Var x) = subst P (sym (rolls-Var x)) (var x)
    go (form.Bin op l r) = subst P (sym (rolls-Bin op l.0 r.0)) (bin op l.0 r.0 l.1 r.1)
    go (form.Not e) = subst P (sym (rolls-Not e.0)) (neg e.0 e.1)
