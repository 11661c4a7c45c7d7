-- There is room for one more.
use Rattle.std.proofs.Common.{ℕ, List, T, ap, sym, subst, ◌∙◌}
use Rattle.std.specs.Ordering.{nat_cmp}
use Rattle.std.specs.FinMap as map
use Rattle.std.specs.FinMap.{from_sorted, is_sorted}
use Rattle.pac_value.specs.declared.values.Value.{Value}
use Rattle.pac_value.specs.Expressions.{Values}
use Rattle.pac_core.proofs.kept_values.KeptValues.keep.Goals as goal

pub put-requires-clause-sorted : goal.put-requires-clause-sorted
put-requires-clause-sorted c = subst (λ (es : List (ℕ × Value)). T (is_sorted nat_cmp es)) (sym c.reserve.ensures.items) c.self.invariant

pub returns : goal.returns
returns c = record {
  ok = c.put.ensures.value
      ∙ ap (λ (es : List (ℕ × Value)). map.insert (from_sorted {R = nat_cmp} es) c.args.var c.args.value) c.reserve.ensures.items
      ∙ ap (λ (m : Values). map.insert m c.args.var c.args.value) c.self.view_is;
}
