-- Room is made, the writes are made, and then the values are put there.
use Rattle.std.proofs.Common.{ℕ, List, T, ap, sym, subst, ◌∙◌}
use Rattle.std.specs.Ordering.{nat_cmp}
use Rattle.std.specs.FinMap.{from_sorted, is_sorted}
use Rattle.pac_value.specs.declared.values.Value.{Value}
use Rattle.pac_value.specs.Expressions.{Values}
use Rattle.pac_core.specs.Values.{GivesTo}
use Rattle.pac_core.proofs.kept_values.KeptValues.leave.Goals as goal

abbrev Entries : Type 0
Entries = List (ℕ × Value)

pub put_all-requires-clause-sorted : goal.put_all-requires-clause-sorted
put_all-requires-clause-sorted g c = subst (λ (es : Entries). T (is_sorted nat_cmp es)) (sym c.reserve.ensures.items) c.self.invariant

pub returns-in-Ok-apply-clause-gives : goal.returns-in-Ok-apply-clause-gives
returns-in-Ok-apply-clause-gives g c =
    subst (λ (m : Values). GivesTo c.args.vars.now c.args.given.now m (from_sorted c.put_all.new.values.items)) (ap (from_sorted {R = nat_cmp}) c.reserve.ensures.items ∙ c.self.view_is) c.put_all.ensures.gives

pub invariant_of-self : goal.invariant_of-self
invariant_of-self g c = subst (λ (es : Entries). T (is_sorted nat_cmp es)) (sym c.reserve.ensures.items) c.self.invariant

pub returns-in-Err-clause-kept : goal.returns-in-Err-clause-kept
returns-in-Err-clause-kept g c = ap (from_sorted {R = nat_cmp}) c.reserve.ensures.items ∙ c.self.view_is
