-- What a piece's access covers, and what two accesses that don't conflict leave apart.
use Rattle.std.proofs.Common.{◌≡◌, ℕ, Bool, true, false, cond, ◌&&◌, ◌||◌, not, List, [], ◌∷◌, refl, sym, ap, ◌∙◌, subst, true≢false, Option, Some, None, ◌==◌, inl, inr, ⊎_elim}
use Rattle.std.specs.List.{list_any}
use Rattle.std.specs.Ordering.{eq_by_cmp}
use Rattle.std.specs.FinMap.{get}
use Rattle.pac_value.specs.declared.expr.Expr.{Expr}
use Rattle.pac_value.specs.Expressions.{Values}
use Rattle.pac_value.specs.State.{Cell, cell_cmp}
use Rattle.pac_value.proofs.ByForms.{by_forms, fold-Lit, fold-Var, fold-Bin, fold-Not}
use Rattle.pac_value.proofs.CellLemmas.{same-cell, tied_same}
use Rattle.pac_ops.specs.Uses.{use_step, expr_uses, conds_use, kind_uses, op_uses, modifies}
use Rattle.pac_ops.specs.Flat.{is_as_asked, all_hold}
use Rattle.pac_base.specs.Members.{Mem}
use Rattle.pac_ops.specs.Effects.{target_of, cell_in, flat_cell, NumberedOp, defined_in, used_in}
use Rattle.pac_plan.specs.declared.access.Touch.{Touch}
use Rattle.pac_plan.specs.declared.access.Access.{Access}
use Rattle.pac_plan.specs.declared.access.Access.TheVariants.{Keys, Whole}
use Rattle.pac_plan.specs.Pieces.{named_cell, touch_at, avoid_step, avoids, is_bounded, may_pass, op_cell, touch, touches_of, is_loose, access_of, conflicts, covers, covers_write}
use Rattle.pac_base.proofs.TestLemmas.{or_left, or_right, eq_self, same_number, and_left, and_right, and_both, not_true, or_cases, unlike, any_mem, any_gives}
use Rattle.pac_ops.proofs.EffectLemmas.{named, touched-named, key_uses, key-kind, named-alike, cell-holds}

avoids-uses : (f : ℕ → Bool) (x : ℕ) (e : Expr) → avoids f e ≡ true → expr_uses x e ≡ true → f x ≡ false
avoids-uses f x = by_forms (λ e. avoids f e ≡ true → expr_uses x e ≡ true → f x ≡ false)
    (λ v a u. absurd (true≢false (sym u ∙ fold-Lit Bool (use_step x) v)))
    (λ y a u. ap f (sym (same_number y x (sym (fold-Var Bool (use_step x) y) ∙ u))) ∙ not_true (f y) (sym (fold-Var Bool (avoid_step f) y) ∙ a))
    (λ op l r p q a u.
    let both : (avoids f l && avoids f r) ≡ true = sym (fold-Bin Bool (avoid_step f) op l r) ∙ a in
    ⊎_elim (λ h. p (and_left (avoids f l) (avoids f r) both) h) (λ h. q (and_right (avoids f l) (avoids f r) both) h)
    (or_cases (expr_uses x l) (expr_uses x r) (sym (fold-Bin Bool (use_step x) op l r) ∙ u)))
    (λ e p a u. p (sym (fold-Not Bool (avoid_step f) e) ∙ a) (sym (fold-Not Bool (use_step x) e) ∙ u))

pub bounded-uses : (os : List NumberedOp) (n : Option (ℕ × Expr)) → is_bounded os n ≡ true → (x : ℕ) → key_uses n x ≡ true → defined_in os x ≡ false
bounded-uses os None b x u = absurd (true≢false (sym u))
bounded-uses os (Some n) b x u = avoids-uses (defined_in os) x n.1 b u

module _ (os : List NumberedOp) (env env' : Values) (inputs : (x : ℕ) → used_in os x ≡ true → defined_in os x ≡ false → get env' x ≡ get env x) where
  passes : (cs : List (ℕ × Bool)) → ((x : ℕ) → conds_use x cs ≡ true → used_in os x ≡ true) → all_hold env' cs ≡ true → may_pass os env cs ≡ true
  passes [] used h = refl
  passes (c ∷ cs) used h = and_both _ _ (go (defined_in os c.0) refl) (passes cs (λ x u. used x (or_right (c.0 == x) (conds_use x cs) u)) (and_right (is_as_asked c.1 (get env' c.0)) (all_hold env' cs) h))
    where
      go : (b : Bool) → defined_in os c.0 ≡ b → (b || is_as_asked c.1 (get env c.0)) ≡ true
      go true e = refl
      go false e = sym (ap (is_as_asked c.1) (inputs c.0 (used c.0 (or_left (c.0 == c.0) (conds_use c.0 cs) (eq_self c.0))) e)) ∙ and_left (is_as_asked c.1 (get env' c.0)) (all_hold env' cs) h

  used_by : (o : NumberedOp) → Mem o os → (x : ℕ) → op_uses x o.1 ≡ true → used_in os x ≡ true
  used_by o m x u = any_mem (λ (d : NumberedOp). op_uses x d.1) o os m u

  -- the touches hold each operation's location, marked by whether it modifies
  listed : (more : List NumberedOp) (o : NumberedOp) (a : Cell) → Mem o more → may_pass os env o.1.conds ≡ true → op_cell o.1 env ≡ Some a
      → Mem (touch_at a (modifies o.1.kind)) (touches_of os env more)
  listed [] o a m p e = absurd m
  listed (d ∷ more) o a (inl same) p e = subst (λ (d : NumberedOp). Mem (touch_at a (modifies o.1.kind)) (touches_of os env (d ∷ more))) same (rw (p, e) (inl refl))
  listed (d ∷ more) o a (inr m) p e = later (may_pass os env d.1.conds) (op_cell d.1 env) (listed more o a m p e)
    where
      later : (b : Bool) (q : Option Cell) → Mem (touch_at a (modifies o.1.kind)) (touches_of os env more)
          → Mem (touch_at a (modifies o.1.kind)) (cond b (touch q (modifies d.1.kind) (touches_of os env more)) (touches_of os env more))
      later true None h = h
      later true (Some x) h = inr h
      later false q h = h

  pub covered : (o : NumberedOp) → Mem o os → (a : Cell) → flat_cell o.1 env' ≡ Some a
      → (covers (access_of os env) a ≡ true) × (modifies o.1.kind ≡ true → covers_write (access_of os env) a ≡ true)
  covered o m a e = go (list_any (is_loose os env) os) refl
    where
      held : (all_hold env' o.1.conds ≡ true) × (cell_in (named (target_of o.1.kind) env') ≡ Some a)
      held = cell-holds o.1 env' a e

      pass : may_pass os env o.1.conds ≡ true
      pass = passes o.1.conds (λ x u. used_by o m x (or_left (conds_use x o.1.conds) (kind_uses x o.1.kind) u)) held.0

      go : (b : Bool) → list_any (is_loose os env) os ≡ b
          → (covers (cond b Whole (Keys (touches_of os env os))) a ≡ true) × (modifies o.1.kind ≡ true → covers_write (cond b Whole (Keys (touches_of os env os))) a ≡ true)
      go true loose = (refl, λ w. refl)
      go false loose = (
        any_mem (λ (e : Touch). eq_by_cmp cell_cmp (named_cell e) a) _ _ entry (same-cell a),
        λ w. any_mem (λ (e : Touch). e.is_write && eq_by_cmp cell_cmp (named_cell e) a) _ _ entry (and_both (modifies o.1.kind) (eq_by_cmp cell_cmp a a) w (same-cell a)),
      )
        where
          tight : (b : Bool) → is_bounded os (target_of o.1.kind) ≡ b → b ≡ true
          tight true h = refl
          tight false h = sym loose ∙ any_mem (is_loose os env) o os m (and_both (may_pass os env o.1.conds) (not (is_bounded os (target_of o.1.kind))) pass (ap not h))

          there : op_cell o.1 env ≡ Some a
          there = ap cell_in (touched-named o.1.kind env)
              ∙ ap cell_in (sym (named-alike (target_of o.1.kind) env' env (λ x u. inputs x (used_by o m x (or_right (conds_use x o.1.conds) (kind_uses x o.1.kind) (key-kind o.1.kind x u))) (bounded-uses os (target_of o.1.kind) (tight _ refl) x u))))
              ∙ held.1

          entry : Mem (touch_at a (modifies o.1.kind)) (touches_of os env os)
          entry = listed os o a m pass there

tied_two : (a d e : Cell) → eq_by_cmp cell_cmp d a ≡ true → eq_by_cmp cell_cmp e a ≡ true → eq_by_cmp cell_cmp d e ≡ true
tied_two a d e p q = rw (tied_same d a p, tied_same e a q) (same-cell a)

-- accesses that don't conflict leave each other's writes alone
pub apart_left : (x y : Access) → conflicts x y ≡ false → (a : Cell) → covers_write x a ≡ true → covers y a ≡ false
apart_left Whole y calm a w = absurd (true≢false calm)
apart_left (Keys l) Whole calm a w = absurd (true≢false calm)
apart_left (Keys l) (Keys m) calm a w = unlike _ (λ c. conflict (any_gives _ l w) (any_gives _ m c))
  where
    conflict : (d : Touch) × Mem d l × ((d.is_write && eq_by_cmp cell_cmp (named_cell d) a) ≡ true) → (e : Touch) × Mem e m × (eq_by_cmp cell_cmp (named_cell e) a ≡ true) → ⊥
    conflict (d, in_l, at_d) (e, in_m, at_e) = true≢false (sym
        (any_mem (λ (e : Touch). list_any (λ (d : Touch). eq_by_cmp cell_cmp (named_cell e) (named_cell d) && (e.is_write || d.is_write)) m) d l in_l
        (any_mem (λ (x : Touch). eq_by_cmp cell_cmp (named_cell d) (named_cell x) && (d.is_write || x.is_write)) e m in_m
        (and_both (eq_by_cmp cell_cmp (named_cell d) (named_cell e)) (d.is_write || e.is_write) (tied_two a (named_cell d) (named_cell e) (and_right d.is_write (eq_by_cmp cell_cmp (named_cell d) a) at_d) at_e) (or_left d.is_write e.is_write (and_left d.is_write (eq_by_cmp cell_cmp (named_cell d) a) at_d))))) ∙ calm)

pub apart_right : (x y : Access) → conflicts x y ≡ false → (a : Cell) → covers_write y a ≡ true → covers x a ≡ false
apart_right Whole y calm a w = absurd (true≢false calm)
apart_right (Keys l) Whole calm a w = absurd (true≢false calm)
apart_right (Keys l) (Keys m) calm a w = unlike _ (λ c. conflict (any_gives _ l c) (any_gives _ m w))
  where
    conflict : (d : Touch) × Mem d l × (eq_by_cmp cell_cmp (named_cell d) a ≡ true) → (e : Touch) × Mem e m × ((e.is_write && eq_by_cmp cell_cmp (named_cell e) a) ≡ true) → ⊥
    conflict (d, in_l, at_d) (e, in_m, at_e) = true≢false (sym
        (any_mem (λ (e : Touch). list_any (λ (d : Touch). eq_by_cmp cell_cmp (named_cell e) (named_cell d) && (e.is_write || d.is_write)) m) d l in_l
        (any_mem (λ (x : Touch). eq_by_cmp cell_cmp (named_cell d) (named_cell x) && (d.is_write || x.is_write)) e m in_m
        (and_both (eq_by_cmp cell_cmp (named_cell d) (named_cell e)) (d.is_write || e.is_write) (tied_two a (named_cell d) (named_cell e) at_d (and_right e.is_write (eq_by_cmp cell_cmp (named_cell e) a) at_e)) (or_right d.is_write e.is_write (and_left e.is_write (eq_by_cmp cell_cmp (named_cell e) a) at_e))))) ∙ calm)
