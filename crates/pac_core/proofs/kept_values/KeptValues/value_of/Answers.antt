-- The variable has the value that stands at its position, or none.
use Rattle.std.proofs.Common.{ℕ, List, Some, ap, sym, subst, ◌∙◌}
use Rattle.std.specs.Cmp.{nat_cmp_total}
use Rattle.std.specs.Ordering.{nat_cmp}
use Rattle.std.specs.FinMap as map
use Rattle.pac_value.specs.declared.values.Value.{Value}
use Rattle.pac_value.specs.Sorted.{IsOffsetOf, IsGapFor}
use Rattle.pac_value.specs.Expressions.{Values}
use Rattle.pac_value.proofs.SortedLemmas.{found-get, gap-get}
use Rattle.pac_core.proofs.kept_values.KeptValues.value_of.Goals as goal

pub returns-in-Ok : goal.returns-in-Ok
returns-in-Ok c =
    let all = c.self.inside.values.items in
    let offset = subst (λ (es : List (ℕ × Value)). IsOffsetOf es c.args.var c.in-Ok.at) c.deref.ensures.value c.in-Ok.ensures.found in
    ap (λ (x : ℕ × Value). Some x.1) c.index.ensures
    ∙ sym (found-get nat_cmp_total all c.self.invariant c.args.var c.in-Ok.at offset c.index.result.now)
    ∙ ap (λ (m : Values). map.get m c.args.var) c.self.view_is

pub returns-in-Err : goal.returns-in-Err
returns-in-Err c =
    let all = c.self.inside.values.items in
    let gap = subst (λ (es : List (ℕ × Value)). IsGapFor nat_cmp es c.args.var c.in-Err.field-0) c.deref.ensures.value c.in-Err.ensures.absent in
    sym (gap-get nat_cmp_total all c.self.invariant c.args.var c.in-Err.field-0 gap) ∙ ap (λ (m : Values). map.get m c.args.var) c.self.view_is
