-- The access of operations is the one that their probes give.
use Rattle.std.proofs.Common.{◌≡◌, ℕ, Bool, true, false, cond, not, ◌&&◌, ◌||◌, List, [], ◌∷◌, Option, Some, None, Result, Ok, Err, refl, ap, ap₂, ◌∙◌}
use Rattle.std.specs.List.{list_any, list_all, filter_map, cons_option}
use Rattle.std.specs.Option.{option_map}
use Rattle.std.specs.Result.{result_ok}
use Rattle.std.specs.FinMap.{get}
use Rattle.pac_value.specs.declared.values.Value.{Value}
use Rattle.pac_value.specs.declared.expr.Expr.{Expr}
use Rattle.pac_value.specs.declared.expr.Trap.{Trap}
use Rattle.pac_value.specs.Values.{as_key}
use Rattle.pac_value.specs.Expressions.{Values, value, ◌>>=◌}
use Rattle.pac_ops.specs.Uses.{modifies}
use Rattle.pac_ops.specs.Flat.{all_hold, is_as_asked}
use Rattle.pac_ops.specs.Effects.{NumberedOp, target_of, cell_in, defined_in}
use Rattle.pac_ops.proofs.EffectLemmas.{named, touched-named}
use Rattle.pac_base.proofs.TestLemmas.{and_false}
use Rattle.pac_plan.specs.declared.access.Access.TheVariants.{Keys, Whole}
use Rattle.pac_plan.specs.Pieces.{avoids, is_bounded, may_pass, touch, touches_of, is_loose, access_of}
use Rattle.pac_plan.specs.Codes.{are_bounded}
use Rattle.pac_keys.specs.declared.probe.Probe.{Probe}
use Rattle.pac_keys.specs.Probes.{outer_conds, probe_of, probes_of, is_open, touch_of, probed}

module _ (os : List NumberedOp) (env : Values) where
  -- the conditions from elsewhere decide whether an operation may run
  pub may-outer : (cs : List (ℕ × Bool)) → may_pass os env cs ≡ all_hold env (outer_conds os cs)
  may-outer [] = refl
  may-outer (c ∷ cs) = go (defined_in os c.0) (may-outer cs)
    where
      go : (b : Bool) → may_pass os env cs ≡ all_hold env (outer_conds os cs)
          → ((b || is_as_asked c.1 (get env c.0)) && may_pass os env cs) ≡ all_hold env (cond (not b) (c ∷ outer_conds os cs) (outer_conds os cs))
      go true h = h
      go false h = ap (λ rest. is_as_asked c.1 (get env c.0) && rest) h

  -- the probe of an operation that names a table and a key
  abbrev pub probe_at : NumberedOp → ℕ × Expr → Probe
  probe_at o n = record { conds = outer_conds os o.1.conds; table = n.0; key = n.1; is_write = modifies o.1.kind; is_bounded = avoids (defined_in os) n.1 }

  and-swap : (a b : Bool) → (a && b) ≡ (b && a)
  and-swap true true = refl
  and-swap true false = refl
  and-swap false true = refl
  and-swap false false = refl

  any-open : (more : List NumberedOp) → list_any (is_loose os env) more ≡ list_any (is_open env) (filter_map (λ o. probe_of os o.1) more)
  any-open [] = refl
  any-open (o ∷ more) = go (target_of o.1.kind) (any-open more)
    where
      go : (n : Option (ℕ × Expr)) → list_any (is_loose os env) more ≡ list_any (is_open env) (filter_map (λ o. probe_of os o.1) more)
          → ((may_pass os env o.1.conds && not (is_bounded os n)) || list_any (is_loose os env) more)
          ≡ list_any (is_open env) (cons_option (option_map (probe_at o) n) (filter_map (λ o. probe_of os o.1) more))
      go None h = ap (λ b. b || list_any (is_loose os env) more) (and_false (may_pass os env o.1.conds) false refl) ∙ h
      go (Some n) h = ap₂ ◌||◌
          (and-swap (may_pass os env o.1.conds) (not (avoids (defined_in os) n.1)) ∙ ap (λ b. not (avoids (defined_in os) n.1) && b) (may-outer o.1.conds))
          h

  touches-probed : (more : List NumberedOp) → touches_of os env more ≡ filter_map (touch_of env) (filter_map (λ o. probe_of os o.1) more)
  touches-probed [] = refl
  touches-probed (o ∷ more) =
      ap (λ c. cond (may_pass os env o.1.conds) (touch (cell_in c) (modifies o.1.kind) (touches_of os env more)) (touches_of os env more)) (touched-named o.1.kind env)
      ∙ go (target_of o.1.kind) (touches-probed more)
    where
      Rest : Type 0
      Rest = touches_of os env more ≡ filter_map (touch_of env) (filter_map (λ o. probe_of os o.1) more)

      same : (b : Bool) → Rest → cond b (touches_of os env more) (touches_of os env more) ≡ filter_map (touch_of env) (filter_map (λ o. probe_of os o.1) more)
      same true h = h
      same false h = h

      at_key : (n : ℕ × Expr) (b : Bool) (r : Result Value Trap) → Rest
          → cond b (touch (cell_in (r >>= λ v. Ok (Some (n.0, as_key v)))) (modifies o.1.kind) (touches_of os env more)) (touches_of os env more)
          ≡ cons_option (option_map (λ key. record { table = n.0; key = key; is_write = modifies o.1.kind }) (cond b (result_ok (r >>= λ v. Ok (as_key v))) None)) (filter_map (touch_of env) (filter_map (λ o. probe_of os o.1) more))
      at_key n true (Ok v) h = ap (λ rest. record { table = n.0; key = as_key v; is_write = modifies o.1.kind } ∷ rest) h
      at_key n true (Err trap) h = h
      at_key n false r h = h

      go : (n : Option (ℕ × Expr)) → Rest
          → cond (may_pass os env o.1.conds) (touch (cell_in (named n env)) (modifies o.1.kind) (touches_of os env more)) (touches_of os env more)
          ≡ filter_map (touch_of env) (cons_option (option_map (probe_at o) n) (filter_map (λ o. probe_of os o.1) more))
      go None h = same (may_pass os env o.1.conds) h
      go (Some n) h =
          ap (λ b. cond b (touch (cell_in (named (Some n) env)) (modifies o.1.kind) (touches_of os env more)) (touches_of os env more)) (may-outer o.1.conds)
          ∙ at_key n (all_hold env (outer_conds os o.1.conds)) (value n.1 env) h

  pub access-probed : access_of os env ≡ probed env (probes_of os)
  access-probed = ap₂ (λ b touches. cond b Whole (Keys touches)) (any-open os) (touches-probed os)

-- all keys are bounded where those of all probes are
pub bounded-probes : (os : List NumberedOp) → are_bounded os ≡ list_all (λ (probe : Probe). probe.is_bounded) (probes_of os)
bounded-probes os = go os
  where
    go : (more : List NumberedOp) → list_all (λ (o : NumberedOp). is_bounded os (target_of o.1.kind)) more ≡ list_all (λ (probe : Probe). probe.is_bounded) (filter_map (λ (o : NumberedOp). probe_of os o.1) more)
    go [] = refl
    go (o ∷ more) = one (target_of o.1.kind) (go more)
      where
        one : (n : Option (ℕ × Expr)) → list_all (λ (o : NumberedOp). is_bounded os (target_of o.1.kind)) more ≡ list_all (λ (probe : Probe). probe.is_bounded) (filter_map (λ (o : NumberedOp). probe_of os o.1) more)
            → (is_bounded os n && list_all (λ (o : NumberedOp). is_bounded os (target_of o.1.kind)) more)
            ≡ list_all (λ (probe : Probe). probe.is_bounded) (cons_option (option_map (λ (n : ℕ × Expr). record { conds = outer_conds os o.1.conds; table = n.0; key = n.1; is_write = modifies o.1.kind; is_bounded = avoids (defined_in os) n.1 }) n) (filter_map (λ (o : NumberedOp). probe_of os o.1) more))
        one None h = h
        one (Some n) h = ap (λ b. avoids (defined_in os) n.1 && b) h
