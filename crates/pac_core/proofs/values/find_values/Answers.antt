-- One variable after another.
use Rattle.std.proofs.Common.{◌≡◌, ℕ, ◌+◌, List, ◌∷◌, [], ◌++◌, get_or, take, sym, ◌∙◌, subst}
use Rattle.std.proofs.lemmas.List.{take_more}
use Rattle.pac_value.specs.Restricted.{HasOnly}
use Rattle.pac_core.proofs.ValueSteps.{no_value, none_yet, one_value}
use Rattle.pac_core.proofs.values.find_values.Goals as goal
use Rattle.pac_core.proofs.values.find_values.Goals.{in-Some+in_ok-set, in_default}

pub loop-var-init : goal.loop-var-init
loop-var-init c = subst (λ env. HasOnly [] c.args.kept.now env) (sym c.clear.ensures) (none_yet c.args.kept.now)

pub loop-var-preserved : goal.loop-var-preserved
loop-var-preserved c =
    let vars = c.args.vars.now in
    let i = c.loop-var.var-index in
    let next : take (i + 1) vars ≡ take i vars ++ get_or vars i 0 ∷ [] = take_more vars i 0 c.loop-var-test.true in
    elim c.match-get.branch [
      | in-Some+in_ok-set w ↦ subst (λ (l : List ℕ). HasOnly l c.args.kept.now c.match-get.env) (sym next)
          (subst (λ env. HasOnly (take i vars ++ get_or vars i 0 ∷ []) c.args.kept.now env) (sym (w.env-is ∙ w.in_ok-set.ensures.ok))
          (one_value (take i vars) c.args.kept.now c.loop-var.env (get_or vars i 0) c.loop-var.invariant w.in-Some.value (sym c.get.ensures ∙ w.in-Some.is)))
      | in_default w ↦ subst (λ (l : List ℕ). HasOnly l c.args.kept.now c.match-get.env) (sym next)
          (subst (λ env. HasOnly (take i vars ++ get_or vars i 0 ∷ []) c.args.kept.now env) (sym w.env-is)
          (no_value (take i vars) c.args.kept.now c.loop-var.env (get_or vars i 0) c.loop-var.invariant (sym c.get.ensures ∙ w.in_default.is)))
    ]
