-- The access of operations depends on the values of their inputs alone.
use Rattle.std.proofs.Common.{◌≡◌, ℕ, ◌==◌, Bool, true, false, cond, ◌&&◌, ◌||◌, not, List, [], ◌∷◌, refl, sym, ap, ◌∙◌, true≢false, inl, inr}
use Rattle.std.specs.List.{list_any}
use Rattle.std.specs.FinMap.{get}
use Rattle.pac_base.specs.Members.{Mem}
use Rattle.pac_base.proofs.TestLemmas.{any_mem, eq_self, or_left, or_none, or_right}
use Rattle.pac_value.specs.Expressions.{Values}
use Rattle.pac_ops.specs.Flat.{is_as_asked}
use Rattle.pac_ops.specs.Uses.{conds_use, kind_uses, modifies, op_uses}
use Rattle.pac_ops.specs.Effects.{NumberedOp, cell_in, defined_in, target_of, used_in}
use Rattle.pac_ops.proofs.EffectLemmas.{key-kind, named-alike, touched-named}
use Rattle.pac_plan.specs.declared.access.Access.TheVariants.{Keys, Whole}
use Rattle.pac_plan.specs.Pieces.{InputsAre, access_of, is_bounded, is_loose, may_pass, op_cell, touch, touches_of}
use Rattle.pac_plan.proofs.AccessLemmas.{bounded-uses}

module _ (os : List NumberedOp) (env env' : Values) (inputs : InputsAre os env env') where
  used_by : (o : NumberedOp) → Mem o os → (x : ℕ) → op_uses x o.1 ≡ true → used_in os x ≡ true
  used_by o m x u = any_mem (λ (d : NumberedOp). op_uses x d.1) o os m u

  pass_same : (cs : List (ℕ × Bool)) → ((x : ℕ) → conds_use x cs ≡ true → used_in os x ≡ true) → may_pass os env' cs ≡ may_pass os env cs
  pass_same [] used = refl
  pass_same (c ∷ cs) used =
      ap (λ b. b && may_pass os env' cs) (go (defined_in os c.0) refl)
      ∙ ap (λ b. (defined_in os c.0 || is_as_asked c.1 (get env c.0)) && b) (pass_same cs (λ x u. used x (or_right (c.0 == x) (conds_use x cs) u)))
    where
      go : (b : Bool) → defined_in os c.0 ≡ b → (b || is_as_asked c.1 (get env' c.0)) ≡ (b || is_as_asked c.1 (get env c.0))
      go true e = refl
      go false e = ap (is_as_asked c.1) (inputs c.0 (used c.0 (or_left (c.0 == c.0) (conds_use c.0 cs) (eq_self c.0))) e)

  passes_same : (o : NumberedOp) → Mem o os → may_pass os env' o.1.conds ≡ may_pass os env o.1.conds
  passes_same o m = pass_same o.1.conds (λ x u. used_by o m x (or_left (conds_use x o.1.conds) (kind_uses x o.1.kind) u))

  cell_same : (o : NumberedOp) → Mem o os → is_bounded os (target_of o.1.kind) ≡ true → op_cell o.1 env' ≡ op_cell o.1 env
  cell_same o m bounded = ap cell_in (touched-named o.1.kind env' ∙ named-alike (target_of o.1.kind) env' env
      (λ x u. inputs x (used_by o m x (or_right (conds_use x o.1.conds) (kind_uses x o.1.kind) (key-kind o.1.kind x u))) (bounded-uses os (target_of o.1.kind) bounded x u))
      ∙ sym (touched-named o.1.kind env))

  loose_same : (more : List NumberedOp) → ((o : NumberedOp) → Mem o more → Mem o os) → list_any (is_loose os env') more ≡ list_any (is_loose os env) more
  loose_same [] within = refl
  loose_same (o ∷ more) within =
      ap (λ b. (b && not (is_bounded os (target_of o.1.kind))) || list_any (is_loose os env') more) (passes_same o (within o (inl refl)))
      ∙ ap (λ b. is_loose os env o || b) (loose_same more (λ d m. within d (inr m)))

  touches_same : (more : List NumberedOp) → ((o : NumberedOp) → Mem o more → Mem o os) → list_any (is_loose os env) more ≡ false → touches_of os env' more ≡ touches_of os env more
  touches_same [] within tight = refl
  touches_same (o ∷ more) within tight =
      ap (λ b. cond b (touch (op_cell o.1 env') (modifies o.1.kind) (touches_of os env' more)) (touches_of os env' more)) (passes_same o (within o (inl refl)))
      ∙ go (may_pass os env o.1.conds) refl (touches_same more (λ d m. within d (inr m)) parts.1)
    where
      parts : (is_loose os env o ≡ false) × (list_any (is_loose os env) more ≡ false)
      parts = or_none (is_loose os env o) (list_any (is_loose os env) more) tight

      bounded : may_pass os env o.1.conds ≡ true → (b : Bool) → is_bounded os (target_of o.1.kind) ≡ b → b ≡ true
      bounded pass true e = refl
      bounded pass false e = absurd (true≢false (sym (ap (λ b. b && not (is_bounded os (target_of o.1.kind))) pass ∙ ap not e) ∙ parts.0))

      go : (b : Bool) → may_pass os env o.1.conds ≡ b → touches_of os env' more ≡ touches_of os env more
          → cond b (touch (op_cell o.1 env') (modifies o.1.kind) (touches_of os env' more)) (touches_of os env' more) ≡ cond b (touch (op_cell o.1 env) (modifies o.1.kind) (touches_of os env more)) (touches_of os env more)
      go true pass rest =
          ap (λ c. touch c (modifies o.1.kind) (touches_of os env' more)) (cell_same o (within o (inl refl)) (bounded pass (is_bounded os (target_of o.1.kind)) refl))
          ∙ ap (touch (op_cell o.1 env) (modifies o.1.kind)) rest
      go false pass rest = rest

  pub access_same : access_of os env' ≡ access_of os env
  access_same = ap (λ b. cond b Whole (Keys (touches_of os env' os))) (loose_same os (λ o m. m)) ∙ go (list_any (is_loose os env) os) refl
    where
      go : (b : Bool) → list_any (is_loose os env) os ≡ b → cond b Whole (Keys (touches_of os env' os)) ≡ cond b Whole (Keys (touches_of os env os))
      go true e = refl
      go false e = ap Keys (touches_same os (λ o m. m) e)
