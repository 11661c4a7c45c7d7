-- Each entry is of one of the variables, and each of these has the same value in both.
use Rattle.std.proofs.Common.{◌≡◌, ◌<◌, ℕ, List, false, get_or, length, None, Some, refl, sym, subst, ap, ◌∙◌, arith}
use Rattle.std.specs.Bool.{IsTrue}
use Rattle.std.specs.FinMap as map
use Rattle.std.specs.List.{Contains}
use Rattle.std.proofs.lemmas.List.{get_or_default}
use Rattle.pac_value.specs.declared.values.Value.{Value}
use Rattle.pac_value.specs.Expressions.{Values}
use Rattle.pac_value.proofs.RestrictedLemmas.{absent, present, contains_nat, extended}
use Rattle.pac_value.proofs.env.Env.has_only.Goals as goal

pub returns-then-not-contains : goal.returns-then-not-contains
returns-then-not-contains c =
    let es = c.self.inside.values.items in
    let item = c.loop-var-item.result in
    let at = subst (λ (xs : List (ℕ × Value)). item ≡ get_or xs c.loop-var.var-index item) c.deref-var-items.ensures.value c.loop-var-item.is in
    let lt : c.loop-var.var-index < length es = omega (arith, c.loop-var-test.true, ap length c.deref-var-items.ensures.value) in
    let here : map.get c.args.self.now item.0 ≡ Some item.1 = subst (λ (m : Values). map.get m item.0 ≡ Some item.1) c.self.view_is (present es c.self.invariant c.loop-var.var-index item lt at) in
    let other : Contains c.args.vars.now item.0 → ⊥ = λ there. absurd (cc ((contains_nat c.args.vars.now item.0 c.contains.result c.contains.ensures.cases).1 there, c.if-not-contains.true)) in
    (λ (h : IsTrue false). cc, λ only. absurd (cc (only.none item.0 other, here)))

pub loop-var-preserved : goal.loop-var-preserved
loop-var-preserved c =
    let items = c.deref-var-items.result.now in
    let item = c.loop-var-item.result in
    let there : Contains c.args.vars.now item.0 = (contains_nat c.args.vars.now item.0 c.contains.result c.contains.ensures.cases).0 c.if-not-contains.false in
    let here = λ (d : ℕ × Value). subst (λ (e : ℕ × Value). Contains c.args.vars.now e.0) (c.loop-var-item.is ∙ get_or_default items c.loop-var.var-index item d c.loop-var-test.true) there in
    λ i d lt. extended (λ (n : ℕ). (d : ℕ × Value) → Contains c.args.vars.now (get_or items n d).0) c.loop-var.var-index (λ n less d. c.loop-var.invariant n d less) here i lt d

pub loop-var-2-init : goal.loop-var-2-init
loop-var-2-init c =
    let es = c.self.inside.values.items in
    let all = subst (λ (xs : List (ℕ × Value)). (i : ℕ) (d : ℕ × Value) → i < length xs → Contains c.args.vars.now (get_or xs i d).0) c.deref-var-items.ensures.value
    (λ i d lt. c.loop-var.invariant i d (omega (arith, lt, c.loop-var-test.false))) in (
      λ x other. subst (λ (m : Values). map.get m x ≡ None) c.self.view_is
          (absent es c.self.invariant x (λ i d lt same. other (subst (Contains c.args.vars.now) same (all i d lt)))),
      λ j lt. absurd (omega (arith, lt)),
    )

pub loop-var-2-preserved : goal.loop-var-2-preserved
loop-var-2-preserved c =
    let same = λ (j : ℕ). map.get c.args.self.now (get_or c.args.vars.now j 0) ≡ map.get c.args.other.now (get_or c.args.vars.now j 0) in
    let here = sym c.value_of.ensures ∙ c.is_same_value.ensures.0 c.if-not-is_same_value.false ∙ c.value_of-in-loop-var-2.ensures in
    (c.loop-var-2.invariant.0, extended same c.loop-var-2.var-index c.loop-var-2.invariant.1 here)

pub returns : goal.returns
returns c =
    let vars = c.args.vars.now in
    let own = λ (x : ℕ) (there : Contains vars x).
    let same : get_or vars there.0 0 ≡ x = get_or_default vars there.0 0 x there.1 ∙ there.2 in
    subst (λ (y : ℕ). map.get c.args.self.now y ≡ map.get c.args.other.now y) same (c.loop-var-2.invariant.1 there.0 (omega (arith, there.1, c.loop-var-2-test.false))) in
    (λ h. record { own = own; none = c.loop-var-2.invariant.0 }, λ only. refl)
