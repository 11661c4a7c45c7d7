-- The value is set at its variable, or added at the gap for it.
use Rattle.std.proofs.Common.{ℕ, List, T, set, ap, sym, subst, ◌∙◌}
use Rattle.std.specs.Cmp.{nat_cmp_total}
use Rattle.std.specs.Ordering.{nat_cmp}
use Rattle.std.specs.FinMap.{from_sorted, is_sorted}
use Rattle.pac_value.specs.declared.values.Value.{Value}
use Rattle.pac_value.specs.Sorted.{IsOffsetOf, IsGapFor}
use Rattle.pac_value.proofs.SortedLemmas.{found-sorted, found-map, gap-sorted, gap-map}
use Rattle.pac_core.proofs.kept_values.put.Goals as goal

abbrev Entries : Type 0
Entries = List (ℕ × Value)

pub returns-in-Ok-clause-sorted : goal.returns-in-Ok-clause-sorted
returns-in-Ok-clause-sorted c =
    let all = c.args.values.now.items in
    let offset = subst (λ (es : Entries). IsOffsetOf es c.args.var c.in-Ok.at) c.deref.ensures.value c.in-Ok.ensures.found in
    let here = ap (λ (x : ℕ × Value). x.0) c.index_mut.ensures.value in
    subst (λ (x : ℕ). T (is_sorted nat_cmp (set all c.in-Ok.at (x, c.args.value)))) (sym here) (found-sorted nat_cmp_total all c.requires.sorted c.args.var c.in-Ok.at offset c.index_mut.result.now c.args.value)

pub returns-in-Ok-clause-value : goal.returns-in-Ok-clause-value
returns-in-Ok-clause-value c =
    let all = c.args.values.now.items in
    let offset = subst (λ (es : Entries). IsOffsetOf es c.args.var c.in-Ok.at) c.deref.ensures.value c.in-Ok.ensures.found in
    let here = ap (λ (x : ℕ × Value). from_sorted {R = nat_cmp} (set all c.in-Ok.at (x.0, c.args.value))) c.index_mut.ensures.value in
    here ∙ found-map nat_cmp_total all c.requires.sorted c.args.var c.in-Ok.at offset c.index_mut.result.now c.args.value

pub returns-in-Ok-insert-clause-sorted : goal.returns-in-Ok-insert-clause-sorted
returns-in-Ok-insert-clause-sorted c =
    let all = c.args.values.now.items in
    let gap = subst (λ (es : Entries). IsGapFor nat_cmp es c.args.var c.in-Err.at) c.deref.ensures.value c.in-Err.ensures.absent in
    subst (λ (es : Entries). T (is_sorted nat_cmp es)) (sym c.in-Ok-insert.ensures.items) (gap-sorted nat_cmp_total all c.requires.sorted c.args.var c.in-Err.at gap c.args.value)

pub returns-in-Ok-insert-clause-value : goal.returns-in-Ok-insert-clause-value
returns-in-Ok-insert-clause-value c =
    let all = c.args.values.now.items in
    let gap = subst (λ (es : Entries). IsGapFor nat_cmp es c.args.var c.in-Err.at) c.deref.ensures.value c.in-Err.ensures.absent in
    ap (from_sorted {R = nat_cmp}) c.in-Ok-insert.ensures.items ∙ gap-map nat_cmp_total all c.requires.sorted c.args.var c.in-Err.at gap c.args.value
