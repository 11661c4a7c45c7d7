-- One value is set at its variable, or added at the gap for it.
use Rattle.std.proofs.Common.{◌≡◌, ℕ, List, T, Result, Ok, Err, set, ap, sym, subst, ◌∙◌}
use Rattle.std.specs.Prelude.{OnErr, OnOk}
use Rattle.std.specs.List.{insert}
use Rattle.std.specs.Cmp.{nat_cmp_total}
use Rattle.std.specs.Ordering.{nat_cmp}
use Rattle.std.specs.FinMap as map
use Rattle.std.specs.FinMap.{is_sorted}
use Rattle.pac_value.specs.declared.values.Value.{Value}
use Rattle.pac_value.specs.Sorted.{IsOffsetOf, IsGapFor}
use Rattle.pac_value.specs.Expressions.{Values}
use Rattle.pac_value.proofs.SortedLemmas.{found-sorted, found-map, gap-sorted, gap-map}
use Rattle.pac_value.proofs.env.Env.set.Goals as goal
use Rattle.pac_value.proofs.env.Env.set.Goals.{After-add}

abbrev Entries : Type 0
Entries = List (ℕ × Value)

-- the place that was found, in the list itself
gap : (c : After-add) → IsGapFor nat_cmp c.self.inside.values.items c.args.var c.in-Err.at
gap c = subst (λ (es : Entries). IsGapFor nat_cmp es c.args.var c.in-Err.at) c.deref.ensures.value c.in-Err.ensures.absent

pub invariant_of-self-in-Err : goal.invariant_of-self-in-Err
invariant_of-self-in-Err c = go c.add.result c.add.ensures.ok c.add.ensures.err
  where
    all : Entries
    all = c.self.inside.values.items

    go : {A E : Type 0} (r : Result A E) → OnOk r (c.add.new.values.items ≡ insert all c.in-Err.at (c.args.var, c.args.value.now)) → OnErr r (c.add.new.values.items ≡ all) → T (is_sorted nat_cmp c.add.new.values.items)
    go (Ok u) added same = subst (λ (es : Entries). T (is_sorted nat_cmp es)) (sym added) (gap-sorted nat_cmp_total all c.self.invariant c.args.var c.in-Err.at (gap c) c.args.value.now)
    go (Err e) added same = subst (λ (es : Entries). T (is_sorted nat_cmp es)) (sym same) c.self.invariant

pub returns-in-Err-clause-ok : goal.returns-in-Err-clause-ok
returns-in-Err-clause-ok c = go c.add.result c.add.ensures.ok
  where
    all : Entries
    all = c.self.inside.values.items

    go : {A E : Type 0} (r : Result A E) → OnOk r (c.add.new.values.items ≡ insert all c.in-Err.at (c.args.var, c.args.value.now)) → OnOk r (map.from_sorted {R = nat_cmp} c.add.new.values.items ≡ map.insert c.args.self.now c.args.var c.args.value.now)
    go (Ok u) added = ap (map.from_sorted {R = nat_cmp}) added ∙ gap-map nat_cmp_total all c.self.invariant c.args.var c.in-Err.at (gap c) c.args.value.now ∙ ap (λ (m : Values). map.insert m c.args.var c.args.value.now) c.self.view_is
    go (Err e) added = tt

pub invariant_of-self : goal.invariant_of-self
invariant_of-self c =
    let all = c.self.inside.values.items in
    let offset = subst (λ (es : Entries). IsOffsetOf es c.args.var c.in-Ok.at) c.deref.ensures.value c.in-Ok.ensures.found in
    let here = ap (λ (x : ℕ × Value). x.0) c.index_mut.ensures.value in
    subst (λ (x : ℕ). T (is_sorted nat_cmp (set all c.in-Ok.at (x, c.args.value.now)))) (sym here) (found-sorted nat_cmp_total all c.self.invariant c.args.var c.in-Ok.at offset c.index_mut.result.now c.args.value.now)

pub returns-in-Ok-clause-ok : goal.returns-in-Ok-clause-ok
returns-in-Ok-clause-ok c =
    let all = c.self.inside.values.items in
    let offset = subst (λ (es : Entries). IsOffsetOf es c.args.var c.in-Ok.at) c.deref.ensures.value c.in-Ok.ensures.found in
    let here = ap (λ (x : ℕ × Value). map.from_sorted {R = nat_cmp} (set all c.in-Ok.at (x.0, c.args.value.now))) c.index_mut.ensures.value in
    here ∙ found-map nat_cmp_total all c.self.invariant c.args.var c.in-Ok.at offset c.index_mut.result.now c.args.value.now
    ∙ ap (λ (m : Values). map.insert m c.args.var c.args.value.now) c.self.view_is
