-- Each variable has the same value in both, and no other has one.
use Rattle.std.proofs.Common.{◌≡◌, ℕ, false, get_or, refl, sym, subst, ◌∙◌, arith}
use Rattle.std.specs.Bool.{IsTrue}
use Rattle.std.specs.FinMap.{get}
use Rattle.std.specs.List.{Contains}
use Rattle.std.proofs.lemmas.List.{get_or_default}
use Rattle.std.proofs.lemmas.List.Elements.{Contains-get_or}
use Rattle.pac_core.proofs.ValueSteps.{all_below}
use Rattle.pac_core.proofs.values.are_values.Goals as goal

pub returns-then-not-is_same : goal.returns-then-not-is_same
returns-then-not-is_same c =
    let vars = c.args.vars.now in
    let x = get_or vars c.loop-var.var-index 0 in
    let there : Contains vars x = Contains-get_or vars c.loop-var.var-index 0 c.loop-var-test.true in
    (λ (h : IsTrue false). cc, λ only. absurd (cc (c.is_same.ensures.1 (c.get.ensures ∙ only.own x there ∙ sym c.value_of.ensures), c.if-not-is_same.true)))

pub loop-var-preserved : goal.loop-var-preserved
loop-var-preserved c =
    let same = λ (j : ℕ). get c.args.env.now (get_or c.args.vars.now j 0) ≡ get c.args.kept.now (get_or c.args.vars.now j 0) in
    all_below same c.loop-var.var-index c.loop-var.invariant (sym c.get.ensures ∙ c.is_same.ensures.0 c.if-not-is_same.false ∙ c.value_of.ensures)

pub returns : goal.returns
returns c =
    let vars = c.args.vars.now in
    let own = λ (x : ℕ) (there : Contains vars x).
    let same : get_or vars there.0 0 ≡ x = get_or_default vars there.0 0 x there.1 ∙ there.2 in
    subst (λ (y : ℕ). get c.args.env.now y ≡ get c.args.kept.now y) same (c.loop-var.invariant there.0 (omega (arith, there.1, c.loop-var-test.false))) in
    (λ t. record { own = own; none = (c.has_only.ensures.0 t).none }, λ only. c.has_only.ensures.1 (record { own = λ x there. refl; none = only.none }))
